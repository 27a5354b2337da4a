-- A month as it is written: a year of four digits, a dash and a month of two, as 2024-03.
use Rattle.std.specs.Prelude.{◌≡◌, ℕ, ◌<◌, ◌≢◌, ◌==◌, List, length, slice_index}
use Rattle.std.specs.List.{after_first, before_first, position_or_len}
use Rattle.std.specs.Str.Parse.{IsNumeral, digits_value, without_leading_plus}
use Rattle.calendar.specs.Calendar.{calendar_month_of, year_of}

-- the byte of a dash
abbrev pub dash : ℕ
dash = 45

-- that of a plus sign
abbrev pub plus : ℕ
plus = 43

-- what stands before the first dash
abbrev pub year_in : List ℕ → List ℕ
year_in text = before_first (λ b. b == dash) text

-- what stands after the first dash
abbrev pub month_in : List ℕ → List ℕ
month_in text = after_first (λ b. b == dash) text

-- so many bytes, which are the digits of n; of a sign that they may begin with nothing is said here
pub record Digits (size : ℕ) (bytes : List ℕ) (n : ℕ) : Type 0 where
  pub long : length bytes ≡ size
  pub numeral : IsNumeral 10 (without_leading_plus bytes)
  pub reads : digits_value 10 (without_leading_plus bytes) ≡ n

-- the text names month n: it has a dash and no plus sign, four digits of its year and two of its month of the year
pub record MonthNamed (text : List ℕ) (n : ℕ) : Type 0 where
  pub dashed : position_or_len (λ b. b == dash) text < length text
  pub unsigned : (k : ℕ) → k < length text → slice_index text k ≢ plus
  pub year : Digits 4 (year_in text) (year_of n)
  pub month : Digits 2 (month_in text) (calendar_month_of n)
