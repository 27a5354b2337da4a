-- Rows that have just the numbers of their portions keep them.
use Rattle.std.proofs.Common.{◌≡◌, ℕ, Bool, true, false, cond, List, [], ◌∷◌, ◌++◌, map, filter, set, refl, ap, ◌∙◌}
use Rattle.std.proofs.lemmas.List.{map_push, map-set}
use Rattle.portions.specs.declared.Slot.{Slot}
use Rattle.portions.specs.declared.Kind.{Ghosts}
use Rattle.store.specs.Exact.{kept_anew, Exact}

-- a list that a function leaves as it is, but for those that a test does not pass
same_some : {X : Type 0} (f : X → X) (p : X → Bool) (xs : List X) → map f xs ≡ xs → map f (filter p xs) ≡ filter p xs
same_some f p [] e = refl
same_some f p (x ∷ xs) e =
    let one : f x ≡ x = cc in
    let others : map f xs ≡ xs = cc in
    let rest = same_some f p xs others in
    elim (p x) as (λ b. map f (cond b (x ∷ filter p xs) (filter p xs)) ≡ cond b (x ∷ filter p xs) (filter p xs))
    [ true ↦ ap (λ y. y ∷ map f (filter p xs)) one ∙ ap (λ ys. x ∷ ys) rest | false ↦ rest ]

module _ {K T : Type 0} (k : Ghosts K T) where
  pub exact_push : (rows : List Slot) (row : Slot) → Exact k rows → kept_anew k row ≡ row → Exact k (rows ++ row ∷ [])
  exact_push rows row all one = map_push (kept_anew k) rows row ∙ ap (λ rs. rs ++ kept_anew k row ∷ []) all ∙ ap (λ r. rows ++ r ∷ []) one

  pub exact_set : (rows : List Slot) (i : ℕ) (row : Slot) → Exact k rows → kept_anew k row ≡ row → Exact k (set rows i row)
  exact_set rows i row all one = map-set (kept_anew k) rows i row ∙ ap (λ rs. set rs i (kept_anew k row)) all ∙ ap (set rows i) one

  pub exact_some : (p : Slot → Bool) (rows : List Slot) → Exact k rows → Exact k (filter p rows)
  exact_some p rows all = same_some (kept_anew k) p rows all
