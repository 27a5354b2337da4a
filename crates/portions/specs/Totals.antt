-- Lemmas on totals.
use Rattle.std.specs.Prelude.{◌≡◌, ℕ, ◌+◌, ◌<◌, Bool, true, false, cond, not, List, [], ◌∷◌, ◌++◌, map, length, take, filter, slice_index_or, refl}
use Rattle.std.proofs.Common.{ap, ◌∙◌, arith}
use Rattle.std.proofs.lemmas.List.{take_more}
use Rattle.portions.specs.Sums.{total}

-- of two lists
pub total-++ : {X : Type 0} (f : X → ℕ) (xs ys : List X) → total f (xs ++ ys) ≡ total f xs + total f ys
total-++ f [] ys = omega arith
total-++ f (x ∷ xs) ys = omega (arith, total-++ f xs ys)

-- with one more at the end
pub total_push : {X : Type 0} (f : X → ℕ) (xs : List X) (y : X) → total f (xs ++ y ∷ []) ≡ total f xs + f y
total_push f xs y = omega (arith, total-++ f xs (y ∷ []))

-- of the first, with the next
pub total_more : {X : Type 0} (f : X → ℕ) (xs : List X) (i : ℕ) (d : X) → i < length xs → total f (take (i + 1) xs) ≡ total f (take i xs) + f (slice_index_or xs i d)
total_more f xs i d lt = ap (total f) (take_more xs i d lt) ∙ total_push f (take i xs) (slice_index_or xs i d)

-- of what a function makes of each
pub total_map : {X Y : Type 0} (f : Y → ℕ) (g : X → Y) (xs : List X) → total f (map g xs) ≡ total (λ x. f (g x)) xs
total_map f g [] = refl
total_map f g (x ∷ xs) = ap (λ n. f (g x) + n) (total_map f g xs)

-- of those that pass a test, and of the others
pub total_split : {X : Type 0} (f : X → ℕ) (test : X → Bool) (xs : List X) → total f xs ≡ total f (filter test xs) + total f (filter (λ x. not (test x)) xs)
total_split f test [] = omega arith
total_split f test (x ∷ xs) =
    let ih = total_split f test xs in
    elim (test x) as (λ b. f x + total f xs ≡ total f (cond b (x ∷ filter test xs) (filter test xs)) + total f (cond (not b) (x ∷ filter (λ y. not (test y)) xs) (filter (λ y. not (test y)) xs))) [ true ↦ omega arith | false ↦ omega arith ]

-- two parts of each element add up to the whole
pub total_parts : {X : Type 0} (f g e : X → ℕ) → ((x : X) → f x ≡ g x + e x) → (xs : List X) → total f xs ≡ total g xs + total e xs
total_parts f g e each [] = omega arith
total_parts f g e each (x ∷ xs) = omega (arith, each x, total_parts f g e each xs)
