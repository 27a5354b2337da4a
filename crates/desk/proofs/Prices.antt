-- Prices in range, by a test and as a fact, and a book after it was given prices.
use Rattle.std.proofs.Common.{◌≡◌, ℕ, zero, suc, Bool, true, false, ◌&&◌, ltb, List, [], ◌∷◌, length, get_or, ℤ, pos, negsuc, Some, None, Err, vec_items, Option, Result, sym, refl, ap, ◌∙◌, subst, arith, rules, eq-eqb}
use Rattle.std.proofs.lemmas.Bool.{and_from}
use Rattle.faults.specs.declared.BookFault.{BookFault}
use Rattle.faults.specs.declared.BookFault.TheVariants.{PriceOutOfRange}
use Rattle.hours.specs.Price.{Priced, AllPriced, when}
use Rattle.hours.specs.declared.prices.HourPrices.{HourPrices}
use Rattle.desk.specs.declared.book.OpenBook.{OpenBook}
use Rattle.desk.specs.State.{BookState}
use Rattle.desk.specs.Books.{price_in_range, each_in_range, price_refusal, hourly_at, with_hourly}
use Rattle.desk.specs.Means.{Holds, HoldsAfter, hours_give}

ranged : (z : ℤ) → Priced z → price_in_range z ≡ true
ranged (pos n) h = search rules
ranged (negsuc n) h = search rules

priced : (z : ℤ) → price_in_range z ≡ true → Priced z
priced (pos n) h = search rules
priced (negsuc n) h = search rules

left : (a b : Bool) → (a && b) ≡ true → a ≡ true
left true b e = refl
left false b e = e

right : (a b : Bool) → (a && b) ≡ true → b ≡ true
right true b e = e
right false b e = let z : ◌≡◌ {A = ℕ} 0 1 = cc in absurd (omega arith)

all_ranged : (zs : List ℤ) → AllPriced zs → each_in_range zs ≡ true
all_ranged [] h = refl
all_ranged (z ∷ zs) h = and_from _ _ (ranged z (h 0 (omega arith))) (all_ranged zs (λ k l. h (suc k) (omega arith)))

all_priced : (zs : List ℤ) → each_in_range zs ≡ true → AllPriced zs
all_priced [] e k l = absurd (omega arith)
all_priced (z ∷ zs) e zero l = priced z (left _ _ e)
all_priced (z ∷ zs) e (suc k) l = all_priced zs (right (price_in_range z) _ e) k (omega arith)

refused_by : (zs : List ℤ) → (AllPriced zs → ⊥) → (b : Bool) → each_in_range zs ≡ b → price_refusal b ≡ Some PriceOutOfRange
refused_by zs h true e = absurd (h (all_priced zs e))
refused_by zs h false e = refl

out_of_range : (zs : List ℤ) → (AllPriced zs → ⊥) → price_refusal (each_in_range zs) ≡ Some PriceOutOfRange
out_of_range zs h = refused_by zs h (each_in_range zs) refl

-- a call on a book that was refused
pub refused_holds : (refusal : Option BookFault) (old new : BookState) (r : Result (Unit {0}) BookFault) (b : OpenBook) (f : BookFault) →
    r ≡ Err f → refusal ≡ Some f → Holds b old → HoldsAfter refusal old new r b
refused_holds refusal old new r b f e ef h = subst (λ (r : Result (Unit {0}) BookFault). HoldsAfter refusal old new r b) (sym e) (ef, h)

-- hour prices that are out of range
pub refused_prices : (prices : List ℤ) (s : BookState) (r : Result (Unit {0}) BookFault) (b : OpenBook) → (AllPriced prices → ⊥) → r ≡ Err PriceOutOfRange → Holds b s →
    HoldsAfter (price_refusal (each_in_range prices)) s (with_hourly prices s) r b
refused_prices prices s r b out e h = refused_holds _ s _ r b PriceOutOfRange e (out_of_range prices out) h

gives_at : (month : ℕ) (list : List ℤ) (m p : ℕ) → m ≡ month → hours_give (Some (month, list)) m p ≡ hourly_at list p
gives_at month list m p e = ap (λ b. when (b && ltb p (length list)) (get_or list p (pos 0))) (eq-eqb m month e)

-- and those that are in range
pub with_prices : (b : OpenBook) (s : BookState) (h : HourPrices) (prices : List ℤ) → Holds b s → h.month ≡ b.month → vec_items h.prices ≡ prices →
    (price_refusal (each_in_range prices) ≡ None) × Holds (record { month = b.month; book = b.book; prices = record { upper = Some h; lower = b.prices.lower } }) (with_hourly prices s)
with_prices b s h prices holds em ei = (
  ap price_refusal (all_ranged prices (subst AllPriced ei h.range)),
  record {
    dated = holds.dated;
    month = holds.month;
    sales = holds.sales;
    zones = holds.zones;
    read = holds.read;
    hourly = λ p. gives_at h.month (vec_items h.prices) s.month p (sym (em ∙ holds.dated)) ∙ ap (λ list. hourly_at list p) ei;
    monthly = holds.monthly;
  },
)
