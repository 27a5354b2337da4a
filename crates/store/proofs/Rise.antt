-- Months that rise, and the search for a month.
use Rattle.std.proofs.Common.{◌≡◌, ℕ, ◌+◌, ◌≤◌, true, false, cond, eqb, List, [], ◌∷◌, ◌++◌, map, length, refl, ap, arith}
use Rattle.portions.specs.Portions.{Portion}
use Rattle.portions.specs.Slots.{reads, plain}
use Rattle.portions.specs.declared.Slot.{Slot}
use Rattle.std.specs.List.{list_any}
use Rattle.ledger.specs.Ledger.{has}
use Rattle.portions.specs.declared.Kind.{Ghosts}
use Rattle.store.specs.declared.Store.{Store}
use Rattle.store.specs.Sound.{rises, due, span}

-- Rising months below `end` are at most as many as there are months from `low` on.
pub rises_length : {T : Type 0} (low end : ℕ) (ps : List (Portion T)) → rises low end ps ≡ true → low + length ps ≤ end
rises_length low end [] h = grind arith
rises_length low end (p ∷ ps) h =
    let r = rises_length (p.month + 1) end ps in grind arith

-- Without a portion of the month m, months up to m are below m.
pub rises_free : {T : Type 0} (low m : ℕ) (ps : List (Portion T)) → low ≤ m → rises low (m + 1) ps ≡ true → has m ps ≡ false → rises low m ps ≡ true
rises_free low m [] b h f = grind arith
rises_free low m (p ∷ ps) b h f =
    let r = rises_free (p.month + 1) m ps in
    let q = rises_length (p.month + 1) (m + 1) ps in grind arith

pub rises_push : {T : Type 0} (low m : ℕ) (ps : List (Portion T)) (q : Portion T) → q.month ≡ m → rises low m ps ≡ true → rises low (m + 1) (ps ++ q ∷ []) ≡ true
rises_push low m [] q e h = grind arith
rises_push low m (p ∷ ps) q e h = let r = rises_push (p.month + 1) m ps q in grind arith

pub has_push : {T : Type 0} (m : ℕ) (ps : List (Portion T)) (q : Portion T) → q.month ≡ m → has m (ps ++ q ∷ []) ≡ true
has_push m [] q e = grind arith
has_push m (p ∷ ps) q e = let r = has_push m ps q in grind arith

-- Whatever the terms, the rows have the same months.
pub has_plain : {T : Type 0} (t : Slot → T) (m : ℕ) (ss : List Slot) → has m (map (reads t) ss) ≡ has m (map plain ss)
has_plain t m [] = refl
has_plain t m (s ∷ ss) = ap (λ b. cond (eqb s.month m) true b) (has_plain t m ss)

-- A search of the rows for the month.
pub any_has : (m : ℕ) (ss : List Slot) → list_any (λ s. eqb s.month m) ss ≡ has m (map plain ss)
any_has m [] = refl
any_has m (s ∷ ss) = let r = any_has m ss in grind arith

pub due_most : {T : Type 0} (m : ℕ) (ps : List (Portion T)) → due m ps ≤ m + 1
due_most m ps = elim (has m ps) as (λ b. cond b (m + 1) m ≤ m + 1) [ true ↦ omega arith | false ↦ omega arith ]

-- once a store is open, its span is its kind's life and one more
pub open_span : {K T : Type 0} {k : Ghosts K T} (s : Store K T k) → s.opened ≡ true → span k.LIFE s.opened ≡ k.LIFE + 1
open_span {k = k} s o = ap (λ b. cond b (k.LIFE + 1) 0) o
