-- What reading an hour makes of a book.
use Rattle.std.specs.Prelude.{◌≡◌, ℕ, ◌+◌, ◌-◌, ◌*◌, ◌<◌, ◌≤◌, Bool, false, cond, ◌||◌, List, [], ◌∷◌, ℤ, Some, None, Ok, Err, Option, Result, nat_le, nat_lt, slice_index, slice_set}
use Rattle.calendar.specs.Hour.{hour_of_place, month_hours}
use Rattle.faults.specs.declared.BookFault.{BookFault}
use Rattle.faults.specs.declared.BookFault.TheVariants.{ReadingTooLarge, BookComplete, NoPrice}
use Rattle.hours.specs.Balance.{balance, energy_taken, energy_given}
use Rattle.hours.specs.Marks.{zone_kept}
use Rattle.hours.specs.Price.{worth}
use Rattle.hours.specs.Zones.{zone_number}
use Rattle.hours.specs.declared.book.Terms.{Terms}
use Rattle.hours.specs.declared.book.Tally.{Tally}

-- the hours of the book's month
abbrev pub hours_of : Terms → ℕ
hours_of t = month_hours t.month.number

-- the zone of the hour at place p
abbrev pub zone_at : Terms → ℕ → ℕ
zone_at t p =
    zone_number (zone_kept t.marks (hour_of_place t.month.number p).weekend (hour_of_place t.month.number p).clock)

-- the sale price of zone z, 1 to 3
abbrev pub sale_price : List ℕ → ℕ → ℕ
sale_price sale z = slice_index sale (z - 1)

-- x more in zone z
abbrev pub more : List ℕ → ℕ → ℕ → List ℕ
more xs z x = slice_set xs (z - 1) (slice_index xs (z - 1) + x)

-- an hour of zone z that took or gave energy, at the sale price and at the price given
abbrev pub grown : ℕ → ℕ → ℕ → ℕ → ℕ → Tally → Tally
grown z taken given sale price y =
    record {
      hours = y.hours + 1;
      totals = record {
        import = more y.totals.import z taken;
        export = more y.totals.export z given;
        charge = y.totals.charge + taken * sale;
        value = y.totals.value + given * price;
      };
    }

-- the next hour joined to the tally, its balance split by the sign
abbrev pub joined_at : Terms → Tally → ℕ → ℕ → ℕ → Tally
joined_at t y i e price =
    grown
    (zone_at t y.hours) (energy_taken (balance i e)) (energy_given (balance i e)) (sale_price t.sale (zone_at t y.hours)) price y

-- the same at the price that the source gives
abbrev pub joined : Terms → Tally → ℕ → ℕ → Option ℤ → Tally
joined t y i e g = joined_at t y i e (worth g)

-- import or export over 100,000 Wh
abbrev pub too_large : ℕ → ℕ → Bool
too_large i e = nat_lt 100000 i || nat_lt 100000 e

-- no price is there
abbrev pub unpriced : Option ℤ → Option BookFault
unpriced None = Some NoPrice
unpriced (Some price) = None

-- why the reading at place p of a month of so many hours is refused, the smallest number first; g is the price there
abbrev pub read_refusal : ℕ → ℕ → ℕ → ℕ → Option ℤ → Option BookFault
read_refusal hours p i e g =
    cond (too_large i e) (Some ReadingTooLarge)
    (cond (nat_le hours p) (Some BookComplete) (cond (nat_lt i e) (unpriced g) None))

-- a reading needs a price where the hour can be read and its export is larger
abbrev pub needs_price : ℕ → ℕ → ℕ → ℕ → Bool
needs_price hours p i e = cond (too_large i e) false (cond (nat_le hours p) false (nat_lt i e))

-- the reading can be read as the next hour, and it is one of zone z
pub record ReadsIn (t : Terms) (y : Tally) (i e z : ℕ) : Type 0 where
  pub import : i ≤ 100000
  pub export : e ≤ 100000
  pub room : y.hours < hours_of t
  pub zone : z ≡ zone_at t y.hours

-- the reading is refused as the next hour, whatever the price there
abbrev pub RefusedAnyhow : Terms → Tally → ℕ → ℕ → BookFault → Type 0
RefusedAnyhow t y i e f = (g : Option ℤ) → read_refusal (hours_of t) y.hours i e g ≡ Some f

-- a refusal, or else what is made
abbrev pub unless : {A : Type 0} → Option BookFault → A → Result A BookFault
unless (Some f) a = Err f
unless None a = Ok a

-- the tally after a reading, or why it is refused
abbrev pub reading : Terms → Tally → ℕ → ℕ → Option ℤ → Result Tally BookFault
reading t y i e g = unless (read_refusal (hours_of t) y.hours i e g) (joined t y i e g)

-- the answer alone
abbrev pub answer : {A : Type 0} → Result A BookFault → Result (Unit {0}) BookFault
answer (Ok a) = Ok tt
answer (Err f) = Err f

-- a refused reading leaves the tally as it was
abbrev pub after : {A : Type 0} → A → Result A BookFault → A
after y (Ok a) = a
after y (Err f) = y

-- nothing read yet
abbrev pub nothing : Tally
nothing =
    record { hours = 0; totals = record { import = 0 ∷ 0 ∷ 0 ∷ []; export = 0 ∷ 0 ∷ 0 ∷ []; charge = 0; value = 0 } }
