-- What the draw rules take, place by place.
use Rattle.std.proofs.Common.{◌≡◌, ℕ, zero, suc, ◌+◌, ◌-◌, ◌*◌, ◌/◌, ◌<◌, ◌≤◌, min, max, List, [], ◌∷◌, get_or, sym, refl, ap, ◌∙◌, arith, ⊎_elim}
use Rattle.std.proofs.Math.Seq.{take-nil}
use Rattle.std.proofs.lemmas.Bool.{cases_lt}
use Rattle.std.proofs.lemmas.List.{ext_get_or}
use Rattle.portions.specs.Sums.{sum}
use Rattle.portions.specs.Taking.{shares, proportional}
use Rattle.portions.specs.Takes.{oldest_length, oldest_each, proportional_length, proportional_bounded}
use Rattle.portions.specs.TakingByPlace.{sum_of_first, share_of_first, ByShare, OldestByPlace, ProportionalByPlace}

pub oldest_by_place : OldestByPlace
oldest_by_place ls w =
    (record { sized = oldest_length ls w; each = oldest_each ls w }, λ ts age. ext_get_or 0 ts _ (age.sized ∙ sym (oldest_length ls w)) (λ j lt. age.each j ∙ sym (oldest_each ls w j)))

shares_each : (w t b : ℕ) (ls : List ℕ) (j : ℕ) → get_or (shares w t b ls) j 0 ≡ w * (b + sum_of_first (suc j) ls) / t - w * (b + sum_of_first j ls) / t
shares_each w t b [] j = omega (arith, ap (λ xs. w * (b + sum xs) / t) (take-nil j))
shares_each w t b (a ∷ ls) zero =
    let up_to : b + sum_of_first 1 (a ∷ ls) ≡ b + a = omega arith in
    let before : b + sum_of_first 0 (a ∷ ls) ≡ b = omega arith in
    omega (arith, ap (λ n. w * n / t) up_to, ap (λ n. w * n / t) before)
shares_each w t b (a ∷ ls) (suc j) =
    let up_to : b + sum_of_first (suc (suc j)) (a ∷ ls) ≡ b + a + sum_of_first (suc j) ls = omega arith in
    let before : b + sum_of_first (suc j) (a ∷ ls) ≡ b + a + sum_of_first j ls = omega arith in
    omega (arith, shares_each w t (b + a) ls j, ap (λ n. w * n / t) up_to, ap (λ n. w * n / t) before)

at_most_sum : (ls : List ℕ) (j : ℕ) → get_or ls j 0 ≤ sum ls
at_most_sum [] j = omega arith
at_most_sum (a ∷ ls) zero = omega arith
at_most_sum (a ∷ ls) (suc j) = omega (arith, at_most_sum ls j)

by_share : (ls : List ℕ) (w : ℕ) → ByShare ls w (proportional ls w)
by_share ls w =
    let t = sum ls in
    record {
      sized = proportional_length ls w;
      each = λ some j.
          let total : max 1 t ≡ t = omega (arith, some) in
          let next : suc j ≡ j + 1 = omega arith in
          let share : (n m : ℕ) → n ≡ m → min w t * (0 + sum_of_first n ls) / max 1 t ≡ share_of_first m ls w = λ n m e.
          ap (λ d. min w t * (0 + sum_of_first n ls) / d) total ∙ ap (λ k. min w t * k / t) (omega arith) ∙ ap (λ k. share_of_first k ls w) e in
          omega (arith, shares_each (min w t) (max 1 t) 0 ls j, share (suc j) (j + 1) next, share j j refl);
      none = λ empty j. omega (arith, proportional_bounded ls w j, at_most_sum ls j, empty);
    }

pub proportional_by_place : ProportionalByPlace
proportional_by_place ls w =
    let own = by_share ls w in (
      own,
      λ ts share.
          let same : (j : ℕ) → get_or ts j 0 ≡ get_or (proportional ls w) j 0 = λ j.
          ⊎_elim (λ (some : 0 < sum ls). share.each some j ∙ sym (own.each some j)) (λ (le : sum ls ≤ 0). let empty : sum ls ≡ 0 = omega (arith, le) in share.none empty j ∙ sym (own.none empty j)) (cases_lt 0 (sum ls)) in
          ext_get_or 0 ts _ (share.sized ∙ sym own.sized) (λ j lt. same j),
    )
