-- What records do to the book.
use Rattle.std.specs.Prelude.{ℕ, Bool, true, cond, ◌&&◌, List, [], ◌∷◌, ◌++◌, length, ℤ, pos, negsuc, Some, None, Option, nat_le, nat_lt, slice_index_or}
use Rattle.std.specs.Option.{option_or}
use Rattle.faults.specs.declared.BookFault.{BookFault}
use Rattle.faults.specs.declared.BookFault.TheVariants.{PriceOutOfRange}
use Rattle.calendar.specs.Hour.{month_hours}
use Rattle.hours.specs.Price.{when}
use Rattle.hours.specs.Whole.{missing}
use Rattle.hours.specs.Marks.{zone_by_marks}
use Rattle.hours.specs.Reading.{read_refusal}
use Rattle.hours.specs.Month.{HourRead}
use Rattle.hours.specs.Summed.{totals_of_hours, sums_within}
use Rattle.hours.specs.declared.sums.MonthSums.{MonthSums}
use Rattle.desk.specs.State.{BookState}

-- a book right after its opening
abbrev pub begun : ℕ → List (List ℕ) → List ℕ → BookState
begun month marks sale = record { month = month; marks = marks; sale = sale; hourly = []; monthly = None; hours = [] }

-- the hour price at a place, and none past the list's end
abbrev pub hourly_at : List ℤ → ℕ → Option ℤ
hourly_at prices p = when (nat_lt p (length prices)) (slice_index_or prices p (pos 0))

-- the price at a place: the hour price stands over the month price
abbrev pub price_at : BookState → ℕ → Option ℤ
price_at b p = option_or (hourly_at b.hourly p) b.monthly

-- a price is in range: from −1,000,000 to 1,000,000
abbrev pub price_in_range : ℤ → Bool
price_in_range (pos n) = nat_le n 1000000
price_in_range (negsuc n) = nat_le n 999999

-- every price of a list is
abbrev pub each_in_range : List ℤ → Bool
each_in_range [] = true
each_in_range (z ∷ zs) = price_in_range z && each_in_range zs

-- a price, or a list of them, is refused where one is out of range
abbrev pub price_refusal : Bool → Option BookFault
price_refusal ranged = cond ranged None (Some PriceOutOfRange)

-- the book with another month price
abbrev pub with_monthly : ℤ → BookState → BookState
with_monthly price b = record { month = b.month; marks = b.marks; sale = b.sale; hourly = b.hourly; monthly = Some price; hours = b.hours }

-- with other hour prices
abbrev pub with_hourly : List ℤ → BookState → BookState
with_hourly prices b = record { month = b.month; marks = b.marks; sale = b.sale; hourly = prices; monthly = b.monthly; hours = b.hours }

-- the next hour, with the price there
abbrev pub hour_read_next : ℕ → ℕ → BookState → HourRead
hour_read_next import export b = record { import = import; export = export; price = price_at b (length b.hours) }

-- the book with the next hour read
abbrev pub with_next_hour : ℕ → ℕ → BookState → BookState
with_next_hour import export b =
    record { month = b.month; marks = b.marks; sale = b.sale; hourly = b.hourly; monthly = b.monthly; hours = b.hours ++ (hour_read_next import export b ∷ []) }

-- why the next hour is refused
abbrev pub hour_refusal : ℕ → ℕ → BookState → Option BookFault
hour_refusal import export b = read_refusal (month_hours b.month) (length b.hours) import export (price_at b (length b.hours))

-- why the book is not finished
abbrev pub finish_refusal : BookState → Option BookFault
finish_refusal b = missing (month_hours b.month) b.hours

-- the sums of its month: over the hours read, zone by zone; a complete book has them
abbrev pub book_sums : BookState → Option MonthSums
book_sums b = sums_within b.month (totals_of_hours (zone_by_marks b.marks b.month) b.sale b.hours)
