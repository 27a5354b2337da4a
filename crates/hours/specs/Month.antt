-- The sums over the hours that were read, zone by zone.
use Rattle.std.specs.Prelude.{◌≡◌, ℕ, suc, ◌+◌, ◌-◌, ◌*◌, ◌≤◌, cond, List, [], ◌∷◌, ◌++◌, length, ℤ, Ok, Err, Option, Result, ◌==◌, slice_index}
use Rattle.faults.specs.declared.BookFault.{BookFault}
use Rattle.hours.specs.Balance.{balance, energy_taken, energy_given}
use Rattle.hours.specs.Price.{worth}
use Rattle.hours.specs.Reading.{hours_of, zone_at, sale_price}
use Rattle.hours.specs.declared.book.Terms.{Terms}
use Rattle.hours.specs.declared.book.Tally.{Tally}
use Rattle.hours.specs.declared.sums.Totals.{Totals}

-- an hour that was read: its import and export, and the price that the source had for it
pub record HourRead : Type 0 where
  pub import : ℕ
  pub export : ℕ
  pub price : Option ℤ

-- the sum of f over a list, each entry with its place, the first at k
unfoldable pub sum_over : {A : Type 0} → (ℕ → A → ℕ) → ℕ → List A → ℕ
sum_over f k [] = 0
sum_over f k (x ∷ xs) = f k x + sum_over f (suc k) xs

-- the energy that the hour at place k took in zone z; `zone` is the zone of each place
abbrev pub taken_in : (ℕ → ℕ) → ℕ → ℕ → HourRead → ℕ
taken_in zone z k h = cond (zone k == z) (energy_taken (balance h.import h.export)) 0

-- the energy that it gave in zone z
abbrev pub given_in : (ℕ → ℕ) → ℕ → ℕ → HourRead → ℕ
given_in zone z k h = cond (zone k == z) (energy_given (balance h.import h.export)) 0

-- what it costs at the sale price of its zone
abbrev pub costs : (ℕ → ℕ) → List ℕ → ℕ → HourRead → ℕ
costs zone sale k h = energy_taken (balance h.import h.export) * sale_price sale (zone k)

-- what it earns at its price
abbrev pub earns : ℕ → HourRead → ℕ
earns k h = energy_given (balance h.import h.export) * worth h.price

-- the totals are the sums over the hours: imports and exports of the zones 1 to 3, the charge and the value
pub record Sums (zone : ℕ → ℕ) (sale : List ℕ) (hs : List HourRead) (y : Totals) : Type 0 where
  pub imports : (z : ℕ) → 1 ≤ z → z ≤ 3 → slice_index y.import (z - 1) ≡ sum_over (taken_in zone z) 0 hs
  pub exports : (z : ℕ) → 1 ≤ z → z ≤ 3 → slice_index y.export (z - 1) ≡ sum_over (given_in zone z) 0 hs
  pub charge : y.charge ≡ sum_over (costs zone sale) 0 hs
  pub value : y.value ≡ sum_over earns 0 hs

-- a book of the terms t has read the hours, the first of them at place 0, and its tally is y
pub record HasRead (t : Terms) (hs : List HourRead) (y : Tally) : Type 0 where
  pub hours : y.hours ≡ length hs
  pub sums : Sums (zone_at t) t.sale hs y.totals

-- the hours read after one more: a refused one is not among them
abbrev pub noted : List HourRead → HourRead → Result (Unit {0}) BookFault → List HourRead
noted hs h (Ok u) = hs ++ (h ∷ [])
noted hs h (Err f) = hs

-- whatever a book has read before, after the hour h and its answer r it has read that and h
abbrev pub ReadsOn : Terms → Tally → HourRead → Result (Unit {0}) BookFault → Tally → Type 0
ReadsOn t y h r y' = (hs : List HourRead) → HasRead t hs y → HasRead t (noted hs h r) y'

-- a finished book was complete, and its totals are the sums of its month
pub record Finished (t : Terms) (y : Tally) (month : ℕ) (totals : Totals) : Type 0 where
  pub complete : y.hours ≡ hours_of t
  pub dated : month ≡ t.month.number
  pub kept : totals ≡ y.totals

-- the hours are all the hours of the month, and the totals are the sums over them
pub record MonthRead (t : Terms) (hs : List HourRead) (totals : Totals) : Type 0 where
  pub whole : length hs ≡ hours_of t
  pub sums : Sums (zone_at t) t.sale hs totals
