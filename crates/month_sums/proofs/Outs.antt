-- The first price out of range stands inside the list, where not every price is in range.
use Rattle.std.proofs.Common.{◌≡◌, ℕ, ◌<◌, ◌≤◌, List, length, get_or, ℤ, pos, subst, inl, inr, eq-or-lt_of_le, arith}
use Rattle.hours.specs.Price.{AllPriced, Priced}
use Rattle.month_sums.specs.Told.{FirstOut}

first : (prices : List ℤ) (k : ℕ) → k ≤ length prices → ((j : ℕ) → j < k → Priced (get_or prices j (pos 0)))
    → (k < length prices → Priced (get_or prices k (pos 0)) → ⊥) → (AllPriced prices → ⊥) → FirstOut prices k
first prices k within before found some =
    let inside : k < length prices =
    elim (eq-or-lt_of_le within) [ inl e ↦ absurd (some (λ j l. before j (omega (arith, e)))) | inr l ↦ l ] in
    record { inside = inside; before = before; out = found inside }

-- the prices as they were passed, and as they are kept
pub first_out : (passed prices : List ℤ) (k : ℕ) → passed ≡ prices → k ≤ length passed → ((j : ℕ) → j < k → Priced (get_or passed j (pos 0)))
    → (k < length passed → Priced (get_or passed k (pos 0)) → ⊥) → (AllPriced prices → ⊥) → FirstOut prices k
first_out passed prices k e within before found some =
    let P : List ℤ → Type 0 = λ xs. (AllPriced xs → ⊥) → FirstOut xs k in
    subst P e (first passed k within before found) some
