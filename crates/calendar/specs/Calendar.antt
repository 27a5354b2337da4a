-- The Gregorian calendar from January 2016 on, months and days counted from 0.
use Rattle.std.specs.Prelude.{ℕ, suc, ◌+◌, ◌/◌, ◌%◌, Bool, true, cond, not, ◌&&◌, ◌||◌, List, [], ◌∷◌, length, ◌==◌, nat_lt, slice_index}
use Rattle.calendar.specs.Sums.{sum_to}

-- the year of month m
abbrev pub year_of : ℕ → ℕ
year_of m = 2016 + m / 12

-- the month of the year, January 1 and December 12
abbrev pub calendar_month_of : ℕ → ℕ
calendar_month_of m = m % 12 + 1

-- a leap year: every fourth, but of the hundreds only every fourth hundred
abbrev pub leap_year : ℕ → Bool
leap_year y = (y % 4 == 0 && not (y % 100 == 0)) || y % 400 == 0

-- the days of the calendar month c of a year, January 0: 30 in April, June, September and November
abbrev pub days_of : Bool → ℕ → ℕ
days_of leap c =
    cond (c == 1) (cond leap 29 28)
    (cond (c == 3 || (c == 5 || (c == 8 || c == 10))) 30 31)

-- the days of month m
abbrev pub days_of_month : ℕ → ℕ
days_of_month m = days_of (leap_year (year_of m)) (m % 12)

-- the days before month m, counted from 1 January 2016
unfoldable pub days_before_month : ℕ → ℕ
days_before_month m = sum_to m days_of_month

-- what follows the entry x of month m is x and the days of that month
abbrev pub steps_to : ℕ → ℕ → List ℕ → Bool
steps_to m x [] = true
steps_to m x (y ∷ ys) = y == x + days_of_month m

-- that at each entry, from month m on
abbrev pub steps_from : ℕ → List ℕ → Bool
steps_from m [] = true
steps_from m (x ∷ xs) = steps_to m x xs && steps_from (suc m) xs

-- a table of the days before each of the 1,200 months: it begins at 0 and steps by the length of each month
abbrev pub steps : List ℕ → Bool
steps table = length table == 1200 && (slice_index table 0 == 0 && steps_from 0 table)

-- the weekday of day d of month m, Monday 0 and Sunday 6: 1 January 2016 is a Friday
abbrev pub weekday : ℕ → ℕ → ℕ
weekday m d = (days_before_month m + d + 4) % 7

-- day d is a Sunday, and no other Sunday follows it in month m
abbrev pub is_last_sunday : ℕ → ℕ → Bool
is_last_sunday m d = weekday m d == 6 && nat_lt (days_of_month m) (d + 8)
