-- The calls on the stores inside an account: where its history brings it, and what its calls mean for a store.
use Rattle.std.proofs.Common.{◌≡◌, ℕ, true, false, cond, eqb, List, [], ◌∷◌, ◌++◌, refl, ◌∙◌, arith}
use Rattle.histories.proofs.Runs.{brought_there}
use Rattle.ledger.specs.Rules as rules
use Rattle.ledger.specs.Rules.{Rule, by_rule}
use Rattle.ledger.specs.History as store
use Rattle.ledger.specs.Totals as store_totals
use Rattle.settlement.specs.Accepted.{NoneRefused}
use Rattle.settlement.specs.Accounts.{Workings, Covering, machine}
use Rattle.settlement.specs.History.{History, Had, in_all, reached, entered, settled, turned}
use Rattle.settlement.specs.Inside.{at, draws_on, store_calls}

module _ {O A S Z T : Type 0} (works : Workings O A S Z T) where
  pub at_there : (o : O) (h : History O S) (a : A) → Had works o h a → at works o h ≡ a
  at_there o h a had = brought_there (machine works) o h a had

  module _ (rule : Rule) (z : Z) (calls : store.History T) where
    -- what draws leave as it is
    pub past_draws : (f : store.History T → ℕ) → ((given : rules.Draw) (used : ℕ) (h : store.History T) → f (store.drew given used ∷ h) ≡ f h) → (cs : List (Covering Z)) → f (draws_on works z rule cs ++ calls) ≡ f calls
    past_draws f same [] = refl
    past_draws f same (c ∷ cs) =
        let ih = past_draws f same cs in
        elim (eqb (works.place c.from) (works.place z)) as (λ b. f (cond b (store.drew (by_rule rule c.wanted) c.used ∷ draws_on works z rule cs) (draws_on works z rule cs) ++ calls) ≡ f calls)
        [ true ↦ same (by_rule rule c.wanted) c.used (draws_on works z rule cs ++ calls) ∙ ih | false ↦ ih ]

    draws_accepted : (cs : List (Covering Z)) → NoneRefused calls → NoneRefused (draws_on works z rule cs ++ calls)
    draws_accepted [] none = none
    draws_accepted (c ∷ cs) none =
        let ih = draws_accepted cs none in
        elim (eqb (works.place c.from) (works.place z)) as (λ b. NoneRefused (cond b (store.drew (by_rule rule c.wanted) c.used ∷ draws_on works z rule cs) (draws_on works z rule cs) ++ calls)) [ true ↦ (tt, ih) | false ↦ ih ]

  module _ (o : O) (z : Z) where
    -- the calls on a store enter what the enters have for it
    pub entered_is : (h : History O S) → store_totals.Entered (store_calls works o z h) ≡ in_all (λ sums. works.stored sums z) h
    entered_is [] = refl
    entered_is (entered sums ∷ h) = omega (arith, entered_is h)
    entered_is (settled rule lines answer ∷ h) = past_draws rule z (store_calls works o z h) store_totals.Entered (λ wanted used h. refl) (works.coverings rule (at works o h)) ∙ entered_is h
    entered_is (_ ∷ h) = entered_is h

    -- none is refused
    pub none_refused : (h : History O S) → NoneRefused (store_calls works o z h)
    none_refused [] = tt
    none_refused (entered sums ∷ h) = (tt, none_refused h)
    none_refused (settled rule lines answer ∷ h) = draws_accepted rule z (store_calls works o z h) (works.coverings rule (at works o h)) (none_refused h)
    none_refused (turned refunded lost ∷ h) = (tt, none_refused h)
    none_refused (_ ∷ h) = none_refused h

    -- they turn the months that the account turns
    pub reached_is : (m₀ : ℕ) (h : History O S) → store.reached m₀ (store_calls works o z h) ≡ reached m₀ h
    reached_is m₀ [] = refl
    reached_is m₀ (turned refunded lost ∷ h) = omega (arith, reached_is m₀ h)
    reached_is m₀ (settled rule lines answer ∷ h) = past_draws rule z (store_calls works o z h) (store.reached m₀) (λ wanted used h. refl) (works.coverings rule (at works o h)) ∙ reached_is m₀ h
    reached_is m₀ (_ ∷ h) = reached_is m₀ h
