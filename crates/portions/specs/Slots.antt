-- The portion that a slot holds.
use Rattle.std.specs.Prelude.{ℕ, min}
use Rattle.portions.specs.declared.Slot.{Slot}
use Rattle.portions.specs.Portions.{Portion}

-- the portion in a slot, with its terms read by t: whatever the numbers are, at most 100,000,000 entered and no more left than entered
abbrev pub reads : {T : Type 0} → (Slot → T) → Slot → Portion T
reads t s = record {
  month = s.month;
  entered = min s.entered 100000000;
  left = min s.left (min s.entered 100000000);
  terms = t s;
}

-- the same with the slot's own number as its terms
abbrev pub plain : Slot → Portion ℕ
plain s = reads (λ r. r.terms) s

-- the slot that a portion is kept as, with its terms as the number n keeps for them
abbrev pub row_of : {T : Type 0} → (T → ℕ) → Portion T → Slot
row_of n p = record { month = p.month; entered = p.entered; left = p.left; terms = n p.terms }
