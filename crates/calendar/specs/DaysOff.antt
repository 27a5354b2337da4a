-- Days off in a number, a bit for each day.
use Rattle.std.specs.Prelude.{◌≡◌, ℕ, ◌/◌, ◌%◌, ◌^◌, ◌<◌, Bool, ◌==◌, nat_le}

-- bit n of a number is set
abbrev pub is_set : ℕ → ℕ → Bool
is_set bits n = bits / 2 ^ n % 2 == 1

-- from a Monday on, the first so many bits are set for Saturdays and Sundays
abbrev pub DaysOff : ℕ → ℕ → Type 0
DaysOff bits days = (n : ℕ) → n < days → is_set bits n ≡ nat_le 5 (n % 7)
