-- Lemmas on sums over the numbers below a bound.
use Rattle.std.proofs.Common.{◌≡◌, ℕ, zero, suc, ◌+◌, ◌<◌, ◌≤◌, cond, eqb, refl, inl, inr, arith}
use Rattle.std.proofs.lemmas.Bool.Decides.{nat_tests}
use Rattle.std.proofs.lemmas.Bool.{cases_eq}
use Rattle.ledger.specs.Ways.{sum_below}

pub sum_zero : (n : ℕ) → sum_below n (λ k. 0) ≡ 0
unfolding sum_below
sum_zero zero = refl
sum_zero (suc n) = omega (arith, sum_zero n)

pub sum_le : (n : ℕ) (f g : ℕ → ℕ) → ((k : ℕ) → f k ≤ g k) → sum_below n f ≤ sum_below n g
unfolding sum_below
sum_le zero f g each = omega arith
sum_le (suc n) f g each = omega (arith, each n, sum_le n f g each)

pub sum_same : (n : ℕ) (f g : ℕ → ℕ) → ((k : ℕ) → f k ≡ g k) → sum_below n f ≡ sum_below n g
unfolding sum_below
sum_same zero f g each = omega arith
sum_same (suc n) f g each = omega (arith, each n, sum_same n f g each)

pub sum-+ : (n : ℕ) (f g : ℕ → ℕ) → sum_below n (λ k. f k + g k) ≡ sum_below n f + sum_below n g
unfolding sum_below
sum-+ zero f g = omega arith
sum-+ (suc n) f g = omega (arith, sum-+ n f g)

-- an amount at one place
pub sum_past : (n m a : ℕ) → n ≤ m → sum_below n (λ k. cond (eqb m k) a 0) ≡ 0
unfolding sum_below
sum_past zero m a le = omega arith
sum_past (suc n) m a le =
    let here : cond (eqb m n) a 0 ≡ 0 = grind (arith, nat_tests) in
    omega (arith, here, sum_past n m a (omega arith))

pub sum_one : (n m a : ℕ) → m < n → sum_below n (λ k. cond (eqb m k) a 0) ≡ a
unfolding sum_below
sum_one zero m a lt = absurd (omega arith)
sum_one (suc n) m a lt =
    elim (cases_eq m n) [
      | inl e ↦ let here : cond (eqb m n) a 0 ≡ a = grind (arith, nat_tests) in omega (arith, here, sum_past n m a (omega (arith, e)))
      | inr ne ↦ let here : cond (eqb m n) a 0 ≡ 0 = grind (arith, nat_tests) in omega (arith, here, sum_one n m a (omega (arith, ne)))
    ]
