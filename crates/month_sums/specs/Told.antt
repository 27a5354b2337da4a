-- The sums of the input, and why it has none.
use Rattle.std.specs.Prelude.{◌≡◌, ℕ, ◌<◌, ◌⊎◌, List, [], length, ℤ, pos, Some, None, vec_items, Option, slice_index_or}
use Rattle.std.specs.Option.{option_or}
use Rattle.faults.specs.declared.BookFault.TheVariants.{PriceOutOfRange}
use Rattle.hours.specs.Marks.{each_zone}
use Rattle.hours.specs.Price.{AllPriced, Priced, hour_gives, month_gives}
use Rattle.hours.specs.Whole.{MonthSummed, month_refusal}
use Rattle.hours.specs.declared.sums.Totals.{Totals}
use Rattle.hours.specs.declared.whole.MonthRefused.{MonthRefused}
use Rattle.month_sums.specs.Lines.{line_of_hour, line_of_refusal, refused_in}
use Rattle.month_sums.specs.declared.complaint.Complaint.{Complaint}
use Rattle.month_sums.specs.declared.input.Input.{Input}

-- the price at place p of month m: the hour's own, or else the month price
abbrev pub price_of_hour : ℕ → List ℤ → ℤ → ℕ → Option ℤ
price_of_hour m hourly monthly p = option_or (hour_gives m hourly m p) (month_gives m monthly m p)

-- the price at each place of the input's month
abbrev pub prices_in : Input → ℕ → Option ℤ
prices_in x = price_of_hour x.terms.month (vec_items x.hours.prices) x.terms.price

-- the month price and every price of an hour are in range
abbrev pub EachPriced : Input → Type 0
EachPriced x = Priced x.terms.price × AllPriced (vec_items x.hours.prices)

-- why the library refuses the input's month, if it does
abbrev pub month_refused : Input → Option MonthRefused
month_refused x = month_refusal x.terms.month x.marks x.terms.sale (prices_in x) (vec_items x.hours.readings)

-- nothing is refused, and the totals are the sums over all hours of the input's month
pub record SumsOf (x : Input) (month : ℕ) (totals : Totals) : Type 0 where
  pub priced : EachPriced x
  pub accepted : month_refused x ≡ None
  pub summed : MonthSummed x.terms.month x.marks x.terms.sale (prices_in x) (vec_items x.hours.readings) month totals

-- place k has the first price that is out of range
pub record FirstOut (prices : List ℤ) (k : ℕ) : Type 0 where
  pub inside : k < length prices
  pub before : (j : ℕ) → j < k → Priced (slice_index_or prices j (pos 0))
  pub out : Priced (slice_index_or prices k (pos 0)) → ⊥

-- a complaint about the month price, which stands in line 1, or else about the first price of an hour that is out of range
abbrev pub PriceTold : ℤ → List ℤ → Complaint → Type 0
PriceTold price prices e =
    ((Priced price → ⊥) × (e ≡ refused_in 1 PriceOutOfRange))
    ⊎ (Priced price × ((k : ℕ) × FirstOut prices k × (e ≡ refused_in (line_of_hour k) PriceOutOfRange)))

-- a complaint that the library refuses the month, and in which line
abbrev pub MonthTold : Input → Complaint → Type 0
MonthTold x e =
    (f : MonthRefused)
    × (month_refused x ≡ Some f)
    × (e ≡ refused_in (line_of_refusal f.fault (each_zone (slice_index_or x.marks 0 [])) f.read) f.fault)

-- why the input has no sums: a price is out of range, or else the library refuses the month
abbrev pub Told : Input → Complaint → Type 0
Told x e = PriceTold x.terms.price (vec_items x.hours.prices) e ⊎ (EachPriced x × MonthTold x e)
