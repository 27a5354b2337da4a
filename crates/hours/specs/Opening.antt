-- What a book is opened with.
use Rattle.std.specs.Prelude.{◌≡◌, ℕ, ◌<◌, Bool, cond, ◌&&◌, ◌||◌, leb, List, [], Some, None, Option, nat_le, nat_lt, slice_index_or}
use Rattle.std.specs.List.{list_all}
use Rattle.calendar.specs.Hour.{month_hours}
use Rattle.faults.specs.declared.BookFault.{BookFault}
use Rattle.faults.specs.declared.BookFault.TheVariants.{MonthOutOfRange, MarkOutOfRange, SalePriceTooHigh}
use Rattle.hours.specs.Marks.{MarkedBy, each_zone, zone_by_marks}
use Rattle.hours.specs.Reading.{zone_at, nothing}
use Rattle.hours.specs.declared.book.Terms.{Terms}
use Rattle.hours.specs.declared.book.Tally.{Tally}

-- every sale price is at most 1,000,000 gr per MWh
abbrev pub each_cheap : List ℕ → Bool
each_cheap sale = list_all (λ n. leb n 1000000) sale

-- why no book is opened, the smallest number first: the month, then the marks, then the sale prices
abbrev pub book_open_refusal : ℕ → List (List ℕ) → List ℕ → Option BookFault
book_open_refusal m marks sale =
    cond (nat_lt m 47 || nat_le 1200 m) (Some MonthOutOfRange)
    (cond (each_zone (slice_index_or marks 0 []) && each_zone (slice_index_or marks 1 [])) (cond (each_cheap sale) None (Some SalePriceTooHigh)) (Some MarkOutOfRange))

-- an opened book has the month, the marks and the sale prices given, and nothing is read
pub record Opened (m : ℕ) (marks : List (List ℕ)) (sale : List ℕ) (t : Terms) (y : Tally) : Type 0 where
  pub accepted : book_open_refusal m marks sale ≡ None
  pub month : t.month.number ≡ m
  pub marked : MarkedBy t.marks marks
  pub sales : t.sale ≡ sale
  pub zones : (p : ℕ) → p < month_hours m → zone_at t p ≡ zone_by_marks marks m p
  pub unread : y ≡ nothing
