-- A whole month, from the list of its readings.
use Rattle.std.specs.Prelude.{◌≡◌, ℕ, suc, Bool, true, false, cond, List, [], ◌∷◌, length, ℤ, Some, None, Option, nat_lt}
use Rattle.std.specs.Option.{option_or}
use Rattle.calendar.specs.Hour.{month_hours}
use Rattle.faults.specs.declared.BookFault.{BookFault}
use Rattle.faults.specs.declared.BookFault.TheVariants.{HoursMissing}
use Rattle.hours.specs.Marks.{zone_by_marks}
use Rattle.hours.specs.Reading.{read_refusal, needs_price}
use Rattle.hours.specs.Opening.{book_open_refusal}
use Rattle.hours.specs.Month.{HourRead, Sums}
use Rattle.hours.specs.declared.book.Reading.{Reading}
use Rattle.hours.specs.declared.sums.Totals.{Totals}
use Rattle.hours.specs.declared.whole.MonthRefused.{MonthRefused}

-- the readings as hours, each with the price at its place, the first at k
abbrev pub hours_from : (ℕ → Option ℤ) → ℕ → List Reading → List HourRead
hours_from prices k [] = []
hours_from prices k (r ∷ rs) = (record { import = r.import; export = r.export; price = prices k }) ∷ hours_from prices (suc k) rs

-- the sums of month m: it has a reading for each hour, and the totals are the sums over them, zone by zone as marked
pub record MonthSummed (m : ℕ) (marks : List (List ℕ)) (sale : List ℕ) (prices : ℕ → Option ℤ) (rs : List Reading) (month : ℕ) (totals : Totals) : Type 0 where
  pub dated : month ≡ m
  pub whole : length rs ≡ month_hours m
  pub sums : Sums (zone_by_marks marks m) sale (hours_from prices 0 rs) totals

-- a refusal after k readings, or else what comes later
abbrev pub refused_at : ℕ → Option BookFault → Option MonthRefused → Option MonthRefused
refused_at k (Some f) later = Some (record { read = k; fault = f })
refused_at k None later = later

-- the first reading that is refused in a month of so many hours, the first reading standing at place k
abbrev pub refused_from : ℕ → (ℕ → Option ℤ) → ℕ → List Reading → Option MonthRefused
refused_from hours prices k [] = None
refused_from hours prices k (r ∷ rs) =
    refused_at k (read_refusal hours k r.import r.export (prices k)) (refused_from hours prices (suc k) rs)

-- hours are missing at the end of a list of a month with so many
abbrev pub missing : {A : Type 0} → ℕ → List A → Option BookFault
missing hours rs = cond (nat_lt (length rs) hours) (Some HoursMissing) None

-- why a month has no sums: its opening is refused, or else its first refused reading, or else hours are missing
abbrev pub month_refusal : ℕ → List (List ℕ) → List ℕ → (ℕ → Option ℤ) → List Reading → Option MonthRefused
month_refusal m marks sale prices rs =
    refused_at 0 (book_open_refusal m marks sale)
    (option_or (refused_from (month_hours m) prices 0 rs) (refused_at (length rs) (missing (month_hours m) rs) None))

-- nothing more after a refusal
abbrev pub until_refused : Option BookFault → List ℕ → List ℕ
until_refused (Some f) ks = []
until_refused None ks = ks

-- place k, where it is asked for, before the others
abbrev pub and_at : Bool → ℕ → List ℕ → List ℕ
and_at true k ks = k ∷ ks
and_at false k ks = ks

-- the places for which the source is asked, in order: those that need a price, up to the first refused reading
abbrev pub questions_from : ℕ → (ℕ → Option ℤ) → ℕ → List Reading → List ℕ
questions_from hours prices k [] = []
questions_from hours prices k (r ∷ rs) =
    and_at (needs_price hours k r.import r.export) k
    (until_refused (read_refusal hours k r.import r.export (prices k)) (questions_from hours prices (suc k) rs))

-- none where the month's opening is refused
abbrev pub month_questions : ℕ → List (List ℕ) → List ℕ → (ℕ → Option ℤ) → List Reading → List ℕ
month_questions m marks sale prices rs = until_refused (book_open_refusal m marks sale) (questions_from (month_hours m) prices 0 rs)
