-- Each call keeps the promise of an account: from its answer and the account after it.
use Rattle.std.proofs.Common.{◌≡◌, ◌∷◌, Some, None, Option, Result, sym, refl, subst}
use Rattle.faults.specs.declared.AccountFault.{AccountFault}
use Rattle.histories.specs.Machines.{gives, leaves, becomes}
use Rattle.histories.specs.Histories.{event, Does}
use Rattle.histories.specs.Histories.Event.{refused}
use Rattle.histories.proofs.Keeps as histories
use Rattle.hours.specs.declared.sums.MonthSums.{MonthSums}
use Rattle.ledger.specs.Kinds.{LawfulKind}
use Rattle.ledger.specs.History as store
use Rattle.ledger.specs.Ways.{Way, Fair}
use Rattle.ledger.proofs.Promise.{promised}
use Rattle.settlement.specs.declared.answers.Returned.{Returned}
use Rattle.settlement.specs.Accounts.{Call, Answer, Follows, Workings, refusal, machine}
use Rattle.settlement.specs.Accounts.Call.{open_for, enter}
use Rattle.settlement.specs.Steps.{hands_back, enter_answer}
use Rattle.settlement.specs.History.{Event, History, enter_event, entered}
use Rattle.settlement.specs.Promises.{Promised, StoreKeeps, KeepsPromise, Keeps, OpenKeeps}
use Rattle.settlement.specs.Inside.{store_calls}
use Rattle.settlement.specs.Turned.{TurnsTold}
use Rattle.settlement.specs.Best.{WentOldestFirst, NoneBetter}
use Rattle.settlement.proofs.Inside.{entered_is, none_refused}
use Rattle.settlement.proofs.Oldest.{oldest_first, by_rules, none_better}

module _ {O A S Z T : Type 0} (works : Workings O A S Z T) where
  -- a store that has had them keeps the promise of stores
  pub store_keeps : LawfulKind works.kind → (o : O) (h : History O S) (a : A) (z : Z) → store.Had works.kind (works.own_month o) (store_calls works o z h) (works.store a z) → StoreKeeps works o h a z (store_calls works o z h)
  store_keeps law o h a z had =
      let kept = promised works.kind law (works.own_month o) (store_calls works o z h) (works.store a z) had in
      record {
        promised = kept;
        entered_is = entered_is works o z h;
        none_refused = none_refused works o z h;
        oldest_first = oldest_first works o z h;
        best = λ went. kept.best (oldest_first works o z h went);
        by_rules = by_rules works o z law h (works.store a z) had;
      }

  -- and over all stores no other ways are better
  pub account_best : (o : O) (h : History O S) (a : A) → ((z : Z) → StoreKeeps works o h a z (store_calls works o z h)) → TurnsTold works o h → ((z : Z) → WentOldestFirst works o z h) →
      (ways : Z → Way) → ((z : Z) → Fair works.kind (works.own_month o) (ways z) (store_calls works o z h)) → NoneBetter works o h ways
  account_best o h a stores told went ways fair = none_better works o h told ways (λ z. (stores z).best (went z) (ways z) (fair z))

module _ {O A S Z T : Type 0} (works : Workings O A S Z T) (law : KeepsPromise works) (a a' : A) where
  keeps : (e : Event O S) → Does (machine works) a e a' → Keeps works a e a'
  keeps e does o h had = law o (e ∷ h) a' (a, had, does)

  pub keeps_enter : (sums : MonthSums) (r : Result (Unit {0}) Returned) → r ≡ enter_answer works sums a → a' ≡ leaves (machine works) (enter sums) a → Keeps works a (enter_event sums r) a'
  keeps_enter sums r e s = subst (λ x. Keeps works a (enter_event sums x) a') (sym e) (go (refusal works (enter sums) a) refl s)
    where
      go : (o : Option AccountFault) → refusal works (enter sums) a ≡ o → a' ≡ becomes o (works.entering sums a) a → Keeps works a (enter_event sums (hands_back sums o)) a'
      go None w s' = keeps (entered sums) (w, refl, s', tt)
      go (Some fault) w s' = keeps (refused (enter sums) fault) (w, s')

  -- any other call
  pub keeps_call : (call : Call O) → Follows call → (r : Result (Answer S call) AccountFault) → r ≡ gives (machine works) call a → a' ≡ leaves (machine works) call a → Keeps works a (event call r) a'
  keeps_call call follows r e s = histories.keeps_call (machine works) (Promised works) law a a' call follows r e s

  pub keeps_open : (o : O) (r : Result (Unit {0}) AccountFault) → r ≡ gives (machine works) (open_for o) a → a' ≡ leaves (machine works) (open_for o) a → OpenKeeps works a o r a'
  keeps_open o r e s = histories.keeps_open (machine works) (Promised works) law a a' o (open_for o) (λ x. (x, refl)) r e s
