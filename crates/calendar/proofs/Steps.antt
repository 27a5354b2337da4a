-- A table that begins at 0 and steps by the length of each month is `days_before_month` at each of its entries.
use Rattle.std.proofs.Common.{◌≡◌, ℕ, zero, suc, ◌+◌, ◌*◌, ◌<◌, ◌≤◌, T, List, [], ◌∷◌, length, get_or, sym, ap, ◌∙◌, le_of_suc-le-suc, not-suc-le-zero, add-zero, add-suc, suc-add, zero-add, arith}
use Rattle.std.proofs.lemmas.Bool.Decides.{nat_tests}
use Rattle.calendar.specs.Sums.{sum_to}
use Rattle.calendar.specs.Calendar.{steps_from, steps, days_of_month, days_before_month}

from : (xs : List ℕ) (m : ℕ) → T (steps_from m xs) → get_or xs 0 0 ≡ days_before_month m → (k : ℕ) → k < length xs → get_or xs k 0 ≡ days_before_month (m + k)
unfolding days_before_month sum_to
from [] m t e k h = absurd (not-suc-le-zero h)
from (x ∷ xs) m t e zero h = e ∙ ap days_before_month (sym (add-zero m))
from (x ∷ []) m t e (suc k) h = absurd (not-suc-le-zero (le_of_suc-le-suc h))
from (x ∷ (y ∷ ys)) m t e (suc k) h =
    let s : y ≡ x + days_of_month m = grind (arith, nat_tests) in
    from (y ∷ ys) (suc m) (grind (arith, nat_tests)) (s ∙ ap (λ n. n + days_of_month m) e) k (le_of_suc-le-suc h)
    ∙ ap days_before_month (suc-add m k ∙ sym (add-suc m k))

pub entry : (xs : List ℕ) → T (steps xs) → (m : ℕ) → m < 1200 → get_or xs m 0 ≡ days_before_month m
unfolding days_before_month sum_to
entry xs t m h =
    let l : length xs ≡ 1200 = grind (arith, nat_tests) in
    from xs 0 (grind (arith, nat_tests)) (grind (arith, nat_tests)) m (omega arith)
    ∙ ap days_before_month (zero-add m)

pub at_most : (m : ℕ) → days_before_month m ≤ 31 * m
unfolding days_before_month sum_to
at_most zero = omega arith
at_most (suc m) =
    let b = at_most m in
    let d : days_of_month m ≤ 31 = grind (arith, nat_tests) in
    omega arith
