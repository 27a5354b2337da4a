-- What the draw rules take: their laws, and the passes that compute them.
use Rattle.std.specs.Prelude.{◌≡◌, ℕ, zero, suc, ◌+◌, ◌-◌, ◌*◌, ◌/◌, ◌<◌, ◌≤◌, min, max, List, [], ◌∷◌, ◌++◌, length, drop, slice_index, refl}
use Rattle.std.proofs.Common.{ap, ◌∙◌, arith, add-zero, mul-add, mul-zero, zero-add, mul-le-mul_right, ⊎_elim}
use Rattle.std.proofs.Math.Nat.{add-mul-div_left, mul-div_left, zero-div}
use Rattle.std.proofs.lemmas.Nat.{le-div, div-add-mod'}
use Rattle.portions.specs.Sums.{sum}
use Rattle.std.proofs.lemmas.List.{length-take}
use Rattle.std.proofs.lemmas.Bool.{cases_lt}
use Rattle.portions.specs.declared.TheConstants.{MOST_OPEN}
use Rattle.portions.specs.declared.amounts.Amounts.{Amounts}
use Rattle.portions.specs.Listed.{listed}
use Rattle.portions.specs.Taking.{oldest, shares, proportional}
use Rattle.portions.specs.TakingByPlace.{sum_of_first}

-- oldest first gives one taking for each amount
pub oldest_length : (ls : List ℕ) (w : ℕ) → length (oldest ls w) ≡ length ls
oldest_length [] w = refl
oldest_length (a ∷ ls) w = ap suc (oldest_length ls (w - a))

-- the smaller of it and what the older ones have not served
pub oldest_each : (ls : List ℕ) (w j : ℕ) → slice_index (oldest ls w) j ≡ min (slice_index ls j) (w - sum_of_first j ls)
oldest_each [] w j = omega arith
oldest_each (a ∷ ls) w zero = omega arith
oldest_each (a ∷ ls) w (suc j) = omega (arith, oldest_each ls (w - a) j)

-- none above its amount
pub oldest_bounded : (ls : List ℕ) (w i : ℕ) → slice_index (oldest ls w) i ≤ slice_index ls i
oldest_bounded ls w i = omega (arith, oldest_each ls w i)

-- and together the smaller of wanted and the total
pub oldest_sum : (ls : List ℕ) (w : ℕ) → sum (oldest ls w) ≡ min w (sum ls)
oldest_sum [] w = omega arith
oldest_sum (a ∷ ls) w = omega (arith, oldest_sum ls (w - a))

-- a pass over the amounts, with `rest` still wanted at the place i
pub record Serving (ls all : List ℕ) (w i rest : ℕ) : Type 0 where
  pub so_far : all ++ oldest (drop i ls) rest ≡ oldest ls w
  pub long : length all ≡ i

-- there are no more amounts than portions can be open
pub listed_few : (a : Amounts) → length (listed a) ≤ MOST_OPEN
listed_few a = omega (arith, length-take a.len a.rows, a.few)

-- of a larger number the quotient is not smaller
div_mono : (m n t : ℕ) → 0 < t → m ≤ n → m / t ≤ n / t
div_mono m n t p h = le-div (m / t) n t p (omega (arith, div-add-mod' m t))

-- a share grows by at most the amount that is added
pub share_more : (w t b a : ℕ) → w ≤ t → 0 < t → w * (b + a) / t ≤ w * b / t + a
share_more w t b a h p =
    let k : w * (b + a) ≤ w * b + t * a = omega (arith, mul-add w b a, mul-le-mul_right a h) in
    omega (arith, div_mono (w * (b + a)) (w * b + t * a) t p k, add-mul-div_left (w * b) a p)

-- and is not smaller
pub share_mono : (w t b a : ℕ) → 0 < t → w * b / t ≤ w * (b + a) / t
share_mono w t b a p = div_mono (w * b) (w * (b + a)) t p (omega (arith, mul-add w b a))

-- one share for each amount
pub shares_length : (w t b : ℕ) (ls : List ℕ) → length (shares w t b ls) ≡ length ls
shares_length w t b [] = refl
shares_length w t b (a ∷ ls) = ap suc (shares_length w t (b + a) ls)

-- none above its amount
pub shares_bounded : (w t b : ℕ) (ls : List ℕ) (i : ℕ) → w ≤ t → 0 < t → slice_index (shares w t b ls) i ≤ slice_index ls i
shares_bounded w t b [] i h p = omega arith
shares_bounded w t b (a ∷ ls) zero h p = omega (arith, share_more w t b a h p)
shares_bounded w t b (a ∷ ls) (suc i) h p = shares_bounded w t (b + a) ls i h p

-- the shares telescope
pub shares_sum : (w t b : ℕ) (ls : List ℕ) → 0 < t → w * b / t + sum (shares w t b ls) ≡ w * (b + sum ls) / t
shares_sum w t b [] p = omega (arith, ap (λ n. w * n / t) (add-zero b))
shares_sum w t b (a ∷ ls) p =
    let r = shares_sum w t (b + a) ls p in
    let e : b + a + sum ls ≡ b + sum (a ∷ ls) = omega arith in
    omega (arith, r, share_mono w t b a p, ap (λ n. w * n / t) e)

-- proportional takings are one for each amount
pub proportional_length : (ls : List ℕ) (w : ℕ) → length (proportional ls w) ≡ length ls
proportional_length ls w = shares_length (min w (sum ls)) (max 1 (sum ls)) 0 ls

-- none above its amount
pub proportional_bounded : (ls : List ℕ) (w i : ℕ) → slice_index (proportional ls w) i ≤ slice_index ls i
proportional_bounded ls w i = shares_bounded (min w (sum ls)) (max 1 (sum ls)) 0 ls i (omega arith) (omega arith)

-- and together the smaller of wanted and the total
pub proportional_sum : (ls : List ℕ) (w : ℕ) → sum (proportional ls w) ≡ min w (sum ls)
proportional_sum ls w =
    let t = sum ls in
    let r = shares_sum (min w t) (max 1 t) 0 ls (omega arith) in
    let z = ap (λ n. n / max 1 t) (mul-zero (min w t)) ∙ zero-div (max 1 t) in
    let u = ap (λ n. min w t * n / max 1 t) (zero-add t) in
    ⊎_elim
    (λ (k : 0 < t).
    let m : max 1 t ≡ t = omega arith in
    let v = ap (λ n. min w t * t / n) m ∙ mul-div_left (min w t) k in
    omega (arith, r, z, u, v))
    (λ (k : t ≤ 0).
    let m : min w t ≡ 0 = omega arith in
    let n : t ≡ 0 = omega arith in
    let v = ap (λ x. min w t * x / max 1 t) n ∙ ap (λ x. x / max 1 t) (mul-zero (min w t)) ∙ zero-div (max 1 t) in
    omega (arith, r, z, u, v, m))
    (cases_lt 0 t)

-- a pass over the amounts, with `before` the sum of the first i
pub record Sharing (ls all : List ℕ) (w t i before : ℕ) : Type 0 where
  pub so_far : all ++ shares w t before (drop i ls) ≡ shares w t 0 ls
  pub long : length all ≡ i
  pub passed : before + sum (drop i ls) ≡ sum ls
