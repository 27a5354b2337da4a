-- The lines of the input: line 1 has the month and its prices, lines 2 and 3 the zone marks, and then come the hours.
use Rattle.std.specs.Prelude.{◌≡◌, ℕ, ◌+◌, ◌-◌, ◌^◌, ◌<◌, min, Bool, cond, ◌⊎◌, List, length, ℤ, Option, IsSome}
use Rattle.faults.specs.declared.BookFault.{BookFault}
use Rattle.faults.specs.declared.BookFault.TheVariants as book
use Rattle.hours.specs.declared.book.Reading.{Reading}
use Rattle.month_sums.specs.declared.complaint.Complaint.{Complaint}
use Rattle.month_sums.specs.declared.complaint.Complaint.TheVariants.{Line, Memory}
use Rattle.month_sums.specs.declared.complaint.Reason.TheVariants.{LatePrice, Library}

-- the line of the hour at place p, up to the highest number of a line
abbrev pub line_of_hour : ℕ → ℕ
line_of_hour p = min (p + 4) (2 ^ 64 - 1)

-- the line of a refusal after so many readings; `working` says that every mark of a working day names a zone
abbrev pub line_of_refusal : BookFault → Bool → ℕ → ℕ
line_of_refusal book.MonthOutOfRange working read = 1
line_of_refusal book.MarkOutOfRange working read = cond working 3 2
line_of_refusal book.SalePriceTooHigh working read = 1
line_of_refusal book.ReadingTooLarge working read = line_of_hour read
line_of_refusal book.BookComplete working read = line_of_hour read
line_of_refusal book.NoPrice working read = line_of_hour read
line_of_refusal book.HoursMissing working read = line_of_hour read
line_of_refusal book.PriceOutOfRange working read = line_of_hour read

-- the complaint that the library refused what a line has
abbrev pub refused_in : ℕ → BookFault → Complaint
refused_in line fault = Line line (Library fault)

-- why the hour of a line is not added: its price comes after an hour that has none, or memory is wanting
abbrev pub AddRefused : ℕ → Option ℤ → List Reading → List ℤ → Complaint → Type 0
AddRefused line price readings prices e = (IsSome price × (length prices < length readings) × (e ≡ Line line LatePrice)) ⊎ (e ≡ Memory)
