-- What lawful coverings cover is paid for.
use Rattle.std.proofs.Common.{◌≡◌, ℕ, ◌+◌, ◌-◌, ◌*◌, ◌/◌, ◌≤◌, min, true, false, cond, eqb, List, [], ◌∷◌, sym, refl, subst, arith, add-mul}
use Rattle.histories.specs.Histories.{Always}
use Rattle.ledger.specs.Ledger.{left_in}
use Rattle.settlement.specs.Accounts.{Workings, Covering}
use Rattle.settlement.specs.Coverings.{covered_in, used_for, used_from, Lawful}

-- the largest amount within the rest and within the tenth part of x
pub largest_is : (rest x v : ℕ) → v ≤ rest → 10 * v ≤ x → ((w : ℕ) → w ≤ rest → 10 * w ≤ x → w ≤ v) → v ≡ min rest (x / 10)
largest_is rest x v within paid largest = omega (arith, within, paid, largest (min rest (x / 10)) (omega arith) (omega arith))

module _ {O A S Z T : Type 0} (works : Workings O A S Z T) where
  paid_with : (more all v u t : ℕ) → 10 * more ≤ all * t → 10 * v ≤ u * t → 10 * (v + more) ≤ (u + all) * t
  paid_with more all v u t le paid = omega (arith, le, paid, add-mul u all t)

  -- no more is covered than was paid for
  pub paid_for : (o : O) (a : A) (cs : List (Covering Z)) → Always (Lawful works o a) cs → (z : Z) → 10 * covered_in works z cs ≤ used_for works z cs * works.tenths o
  paid_for o a [] so z = omega arith
  paid_for o a (c ∷ cs) so z =
      let ih = paid_for o a cs so.1 z in
      elim (eqb (works.place c.zone) (works.place z)) as (λ b. 10 * (cond b c.covers 0 + covered_in works z cs) ≤ (cond b c.used 0 + used_for works z cs) * works.tenths o)
      [ true ↦ paid_with (covered_in works z cs) (used_for works z cs) c.covers c.used (works.tenths o) ih so.0.earned.paid_for | false ↦ omega (arith, ih) ]

  used_whole : (rest used v : ℕ) → used ≤ rest → 10 * v ≤ used * 10 → ((w : ℕ) → w ≤ rest → 10 * w ≤ used * 10 → w ≤ v) → v ≡ used
  used_whole rest used v few paid largest = omega (arith, paid, largest used few (omega arith))

  at_most : (wanted left used : ℕ) → used ≡ min wanted left → used ≤ wanted
  at_most wanted left used e = omega (arith, e)

  -- where ten tenths are covered, all that was used is
  pub all_used : (o : O) (a : A) → works.tenths o ≡ 10 → (cs : List (Covering Z)) → Always (Lawful works o a) cs → (z : Z) → covered_in works z cs ≡ used_for works z cs
  all_used o a ten [] so z = refl
  all_used o a ten (c ∷ cs) so z =
      let ih = all_used o a ten cs so.1 z in
      let e = so.0.earned in
      let within : c.used ≤ c.wanted = at_most c.wanted (left_in (works.store a c.from).portions - used_from works c.from cs) c.used e.used_is in
      let fits : c.wanted ≤ c.rest = e.least c.rest (subst (λ n. 10 * c.rest ≤ c.rest * n) (sym ten) (omega arith)) in
      let paid : 10 * c.covers ≤ c.used * 10 = subst (λ n. 10 * c.covers ≤ c.used * n) ten e.paid_for in
      let most : (w : ℕ) → w ≤ c.rest → 10 * w ≤ c.used * 10 → w ≤ c.covers = subst (λ n. (w : ℕ) → w ≤ c.rest → 10 * w ≤ c.used * n → w ≤ c.covers) ten e.largest in
      let one = used_whole c.rest c.used c.covers (omega (arith, within, fits)) paid most in
      elim (eqb (works.place c.zone) (works.place z)) as (λ b. cond b c.covers 0 + covered_in works z cs ≡ cond b c.used 0 + used_for works z cs)
      [ true ↦ omega (arith, ih, one) | false ↦ omega (arith, ih) ]
