-- What the turns of an account answer is what its stores refund and lose.
use Rattle.std.proofs.Common.{◌≡◌, ℕ, ◌+◌, List, [], ◌∷◌, sym, refl, ap, ◌∙◌, arith}
use Rattle.portions.specs.Sums.{total}
use Rattle.portions.specs.Totals.{total_parts}
use Rattle.histories.specs.Histories.{Always}
use Rattle.histories.proofs.Runs.{always}
use Rattle.ledger.specs.Steps.{refunds, losses}
use Rattle.ledger.specs.History as store
use Rattle.ledger.specs.Rules.{Draw}
use Rattle.ledger.specs.Totals.{Refunded, Lost}
use Rattle.settlement.specs.Accounts.{Workings, machine}
use Rattle.settlement.specs.History.{Event, History, Had, entered, settled, turned}
use Rattle.settlement.specs.Inside.{at, store_calls}
use Rattle.settlement.specs.Turned.{in_turns, TurnTold, TurnsTold}
use Rattle.settlement.proofs.Inside.{at_there, past_draws}

-- totals of figures that are the same, and of nothing
pub total_same : {X : Type 0} (f g : X → ℕ) → ((x : X) → f x ≡ g x) → (xs : List X) → total f xs ≡ total g xs
total_same f g same [] = refl
total_same f g same (x ∷ xs) = omega (arith, same x, total_same f g same xs)

total_none : {X : Type 0} (xs : List X) → 0 ≡ total (λ (x : X). 0) xs
total_none [] = refl
total_none (x ∷ xs) = omega (arith, total_none xs)

module _ {O A S Z T : Type 0} (works : Workings O A S Z T) (refunds_all : (a : A) → works.refunds a ≡ total (λ z. refunds works.kind (works.store a z)) works.zones)
    (losses_all : (a : A) → works.losses a ≡ total (λ z. losses works.kind (works.store a z)) works.zones) (o : O) where
  -- a turn answers for all stores
  turn_told : (h : History O S) (e : Event O S) (a : A) → Had works o (e ∷ h) a → TurnTold works o h e
  turn_told h (turned refunded lost) a had =
      let there = sym (at_there works o h had.0 had.1) in (
        ap (λ (x : ℕ × ℕ). x.0) had.2.1 ∙ ap works.refunds there ∙ refunds_all (at works o h),
        ap (λ (x : ℕ × ℕ). x.1) had.2.1 ∙ ap works.losses there ∙ losses_all (at works o h),
      )
  turn_told h _ a had = tt

  -- so a part of the answers of all turns is the figure of all stores that turns raise by that part, and nothing else changes
  all_turns : (part : ℕ → ℕ → ℕ) (figure : store.History T → ℕ) →
      ((h : History O S) (refunded lost : ℕ) → TurnTold works o h (turned refunded lost) → part refunded lost ≡ total (λ z. part (refunds works.kind (works.store (at works o h) z)) (losses works.kind (works.store (at works o h) z))) works.zones) →
      (figure [] ≡ 0) → ((amount : ℕ) (terms : T) (h : store.History T) → figure (store.entered amount terms ∷ h) ≡ figure h) → ((d : Draw) (used : ℕ) (h : store.History T) → figure (store.drew d used ∷ h) ≡ figure h) →
      ((refunded lost : ℕ) (h : store.History T) → figure (store.turned refunded lost ∷ h) ≡ figure h + part refunded lost) →
      (h : History O S) → Always (TurnTold works o) h → in_turns part h ≡ total (λ z. figure (store_calls works o z h)) works.zones
  all_turns part figure told none entering drawing turning [] all = total_none works.zones ∙ total_same _ _ (λ z. sym none) works.zones
  all_turns part figure told none entering drawing turning (entered sums ∷ h) all =
      all_turns part figure told none entering drawing turning h all.1 ∙ total_same _ _ (λ z. sym (entering (works.stored sums z) (works.terms o sums) (store_calls works o z h))) works.zones
  all_turns part figure told none entering drawing turning (settled rule lines answer ∷ h) all =
      all_turns part figure told none entering drawing turning h all.1 ∙ total_same _ _ (λ z. sym (past_draws works rule z (store_calls works o z h) figure drawing (works.coverings rule (at works o h)))) works.zones
  all_turns part figure told none entering drawing turning (turned refunded lost ∷ h) all =
      let ih = all_turns part figure told none entering drawing turning h all.1 in
      let parts : Z → ℕ = λ z. part (refunds works.kind (works.store (at works o h) z)) (losses works.kind (works.store (at works o h) z)) in
      let more = total_parts _ (λ z. figure (store_calls works o z h)) parts (λ z. turning (refunds works.kind (works.store (at works o h) z)) (losses works.kind (works.store (at works o h) z)) (store_calls works o z h)) works.zones in
      omega (arith, ih, told h refunded lost all.0, more)
  all_turns part figure told none entering drawing turning (_ ∷ h) all = all_turns part figure told none entering drawing turning h all.1

  pub turns_told : (h : History O S) (a : A) → Had works o h a → TurnsTold works o h
  turns_told h a had =
      let all = always (machine works) o (TurnTold works o) turn_told h a had in
      record {
        each = all;
        refunded_is = all_turns (λ refunded lost. refunded) Refunded (λ h refunded lost told. told.0) refl (λ amount terms h. refl) (λ d used h. refl) (λ refunded lost h. refl) h all;
        lost_is = all_turns (λ refunded lost. lost) Lost (λ h refunded lost told. told.1) refl (λ amount terms h. refl) (λ d used h. refl) (λ refunded lost h. refl) h all;
      }
