-- The hours of a month in their order.
use Rattle.std.specs.Prelude.{◌≡◌, ℕ, zero, suc, ◌+◌, ◌-◌, ◌%◌, ◌<◌, ◌≤◌, cond, Some, None, Option, ◌==◌, nat_le, nat_lt}
use Rattle.calendar.specs.Sums.{sum_to}
use Rattle.calendar.specs.Calendar.{days_of_month, weekday, is_last_sunday}
use Rattle.calendar.specs.declared.month.days.Hour.{Hour}

-- the hours of the day on which a calendar month changes its clocks, January 0: 23 in March, 25 in October
abbrev pub hours_at_change : ℕ → ℕ
hours_at_change c = cond (c == 2) 23 (cond (c == 9) 25 24)

-- the hours of day d of month m: the clocks change on the last Sunday
abbrev pub day_hours : ℕ → ℕ → ℕ
day_hours m d = cond (is_last_sunday m d) (hours_at_change (m % 12)) 24

-- the hours of month m before its day d
unfoldable pub hours_before : ℕ → ℕ → ℕ
hours_before m d = sum_to d (day_hours m)

-- the hours of month m: those of all its days
abbrev pub month_hours : ℕ → ℕ
month_hours m = hours_before m (days_of_month m)

-- the clock hour of the n-th hour of a day: with 23 hours the clock skips 2, with 25 it shows 2 twice
abbrev pub clock_hour : ℕ → ℕ → ℕ
clock_hour hours n =
    cond (hours == 23) (cond (nat_lt n 2) n (n + 1)) (cond (hours == 25) (cond (nat_lt n 3) n (n - 1)) n)

-- the hour h stands at place p of month m: its day has begun and not ended there, and the clock and the weekday are that day's
pub record HourAt (m p : ℕ) (h : Hour) : Type 0 where
  pub inside : h.day < days_of_month m
  pub begun : hours_before m h.day ≤ p
  pub unended : p < hours_before m (suc h.day)
  pub shown : h.clock ≡ clock_hour (day_hours m h.day) (p - hours_before m h.day)
  pub free : h.weekend ≡ nat_le 5 (weekday m h.day)

-- the hour h, and no other, stands at place p of month m
pub record OneHour (m p : ℕ) (h : Hour) : Type 0 where
  pub stands : HourAt m p h
  pub only : (x : Hour) → HourAt m p x → x ≡ h

-- the last day up to n that has begun at place p of month m
unfoldable pub day_from : ℕ → ℕ → ℕ → ℕ
day_from m p zero = 0
day_from m p (suc n) = cond (nat_le (hours_before m (suc n)) p) (suc n) (day_from m p n)

-- the day of month m, of which place p is an hour
unfoldable pub day_at : ℕ → ℕ → ℕ
day_at m p = day_from m p (days_of_month m)

-- the clock hour at place p of month m
abbrev pub clock_at : ℕ → ℕ → ℕ
clock_at m p = clock_hour (day_hours m (day_at m p)) (p - hours_before m (day_at m p))

-- the hour at place p of month m
abbrev pub hour_of_place : ℕ → ℕ → Hour
hour_of_place m p = record { day = day_at m p; clock = clock_at m p; weekend = nat_le 5 (weekday m (day_at m p)) }

-- the same, and none past the month's end
abbrev pub hour_of : ℕ → ℕ → Option Hour
hour_of m p = cond (nat_lt p (month_hours m)) (Some (hour_of_place m p)) None
