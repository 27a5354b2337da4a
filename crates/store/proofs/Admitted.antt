-- An enter is admitted or refused by the tests in their order.
use Rattle.std.proofs.Common.{◌≡◌, ℕ, true, false, leb, Ok, Err, ⊎_elim, arith}
use Rattle.std.proofs.lemmas.Bool.{cases_Bool}
use Rattle.faults.specs.declared.StoreFault.TheVariants.{MonthTaken}
use Rattle.portions.specs.Portions.{Portion, fresh}
use Rattle.portions.specs.Made.{made}
use Rattle.ledger.specs.Ledger.{Ledger, has}
use Rattle.histories.specs.Machines.{answers}
use Rattle.ledger.specs.Calls.{enter_refusal}

module _ {T : Type 0} (m a : ℕ) (t : T) (v : Portion T) (h : Ok v ≡ made m a t) where
  made_small : leb a 100000000 ≡ true
  made_small = ⊎_elim (λ y. y) (λ n. absurd (let z : ◌≡◌ {A = ℕ} 0 1 = cc (simp n at h) in omega arith)) (cases_Bool (leb a 100000000))

  made_fresh : v ≡ fresh m a t
  made_fresh =
      let y = made_small in
      let k = simp y at h in cc

-- the store is open and the portion was made
module _ {T : Type 0} (a : ℕ) (t : T) (l : Ledger T) (o : l.opened ≡ true) (v : Portion T) (h : Ok v ≡ made l.month a t) where
  pub month_is_taken : has l.month l.portions ≡ true → Err MonthTaken ≡ answers (enter_refusal a l) (fresh l.month a t)
  month_is_taken y = let s = made_small l.month a t v h in simp (o, s, y)

  pub month_free : has l.month l.portions ≡ false → Ok v ≡ answers (enter_refusal a l) (fresh l.month a t)
  month_free n =
      let s = made_small l.month a t v h in
      let e = made_fresh l.month a t v h in
      simp (o, s, n, e)
