-- The ledger: what a store means.
use Rattle.std.specs.Prelude.{ℕ, Bool, true, false, cond, List, [], ◌∷◌, map, ◌==◌}
use Rattle.portions.specs.Sums.{total}
use Rattle.portions.specs.Portions.{Portion}

-- whether the store has been opened, its month, its open portions, oldest first, and its running totals
pub record Ledger (T : Type 0) : Type 0 where
  pub opened : Bool
  pub month : ℕ
  pub portions : List (Portion T)
  pub entered : ℕ
  pub used : ℕ
  pub refunded : ℕ
  pub lost : ℕ

module _ {T : Type 0} where
  -- before an opening is accepted
  abbrev pub closed : Ledger T
  closed = record { opened = false; month = 0; portions = []; entered = 0; used = 0; refunded = 0; lost = 0 }

  -- right after the opening for month m
  abbrev pub opening : ℕ → Ledger T
  opening m = record { opened = true; month = m; portions = []; entered = 0; used = 0; refunded = 0; lost = 0 }

  -- the amounts left in the open portions, oldest first
  abbrev pub lefts : Ledger T → List ℕ
  lefts s = map (λ (p : Portion T). p.left) s.portions

  -- what is left in some portions
  abbrev pub left_in : List (Portion T) → ℕ
  left_in ps = total (λ (p : Portion T). p.left) ps

  -- whether some portion is of month m
  abbrev pub has : ℕ → List (Portion T) → Bool
  has m [] = false
  has m (p ∷ ps) = cond (p.month == m) true (has m ps)
