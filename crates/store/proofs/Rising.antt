-- Rows whose months rise: the portions that end by a month are the first ones.
use Rattle.std.proofs.Common.{◌≡◌, ℕ, zero, suc, ◌+◌, ◌<◌, ◌≤◌, Bool, true, false, not, List, [], ◌∷◌, map, length, get_or, take, drop, filter, refl, arith}
use Rattle.std.specs.List.Sorted.{IsNonDecreasingBy, IsPartitionPoint}
use Rattle.portions.specs.declared.Slot.{Slot}
use Rattle.portions.specs.Slots.{plain}
use Rattle.store.specs.Sound.{rises}

-- no month is below `low`
pub rises_from : (low end : ℕ) (ss : List Slot) → rises low end (map plain ss) ≡ true → (i : ℕ) (d : Slot) → i < length ss → low ≤ (get_or ss i d).month
rises_from low end [] h i d lt = absurd (omega (arith, lt))
rises_from low end (s ∷ ss) h zero d lt = grind arith
rises_from low end (s ∷ ss) h (suc i) d lt =
    let r = rises_from (s.month + 1) end ss in grind arith

-- the months, and what is a number more, do not fall
pub rises_sorted : (n low end : ℕ) (ss : List Slot) → rises low end (map plain ss) ≡ true → IsNonDecreasingBy (λ s. s.month + n) ss
rises_sorted n low end [] h i j d le lt = absurd (omega (arith, lt))
rises_sorted n low end (s ∷ ss) h zero zero d le lt = omega arith
rises_sorted n low end (s ∷ ss) h zero (suc j) d le lt =
    let r = rises_from (s.month + 1) end ss in grind arith
rises_sorted n low end (s ∷ ss) h (suc i) zero d le lt = absurd (omega (arith, le))
rises_sorted n low end (s ∷ ss) h (suc i) (suc j) d le lt =
    let r = rises_sorted n (s.month + 1) end ss in grind arith

-- where a test passes the first n elements and no later one, it keeps the first n, and its opposite the others
module _ {X : Type 0} (p : X → Bool) where
  pub first_pass : (xs : List X) (n : ℕ) → n ≤ length xs → IsPartitionPoint (λ y. p y ≡ true) (λ y. p y ≡ false) xs n → take n xs ≡ filter p xs
  first_pass [] zero le h = refl
  first_pass [] (suc n) le h = absurd (omega (arith, le))
  first_pass (x ∷ xs) zero le h =
      let no = h.1 0 x (omega arith) (omega arith) in
      let r = first_pass xs zero (omega arith) ((λ k d a b. absurd (omega (arith, b))), λ k d a b. h.1 (suc k) d (omega arith) (omega (arith, b))) in
      grind arith
  first_pass (x ∷ xs) (suc n) le h =
      let yes = h.0 0 x (omega arith) (omega arith) in
      let r = first_pass xs n (omega (arith, le)) ((λ k d a b. h.0 (suc k) d (omega arith) (omega (arith, b))), λ k d a b. h.1 (suc k) d (omega (arith, a)) (omega (arith, b))) in
      grind arith

  pub others_fail : (xs : List X) (n : ℕ) → n ≤ length xs → IsPartitionPoint (λ y. p y ≡ true) (λ y. p y ≡ false) xs n → drop n xs ≡ filter (λ y. not (p y)) xs
  others_fail [] zero le h = refl
  others_fail [] (suc n) le h = absurd (omega (arith, le))
  others_fail (x ∷ xs) zero le h =
      let no = h.1 0 x (omega arith) (omega arith) in
      let r = others_fail xs zero (omega arith) ((λ k d a b. absurd (omega (arith, b))), λ k d a b. h.1 (suc k) d (omega arith) (omega (arith, b))) in
      grind arith
  others_fail (x ∷ xs) (suc n) le h =
      let yes = h.0 0 x (omega arith) (omega arith) in
      let r = others_fail xs n (omega (arith, le)) ((λ k d a b. h.0 (suc k) d (omega arith) (omega (arith, b))), λ k d a b. h.1 (suc k) d (omega (arith, a)) (omega (arith, b))) in
      grind arith
