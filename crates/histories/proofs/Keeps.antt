-- A call keeps a promise: from what it gives and where it leaves the machine.
use Rattle.std.proofs.Common.{◌≡◌, List, [], ◌∷◌, Some, None, Option, Result, sym, refl, subst}
use Rattle.histories.specs.Machines.{Machine, answers, becomes, gives, leaves}
use Rattle.histories.specs.Histories.{Event, event, Does, Had, Keeps, OpenKeeps}
use Rattle.histories.specs.Histories.Event.{refused}

module _ {O C S F : Type 0} {Answer : C → Type 0} (machine : Machine O C Answer S F) (s s' : S) where
  -- a call that may follow is an event
  pub does : (call : C) → machine.Follows call → (r : Result (Answer call) F) → r ≡ gives machine call s → s' ≡ leaves machine call s → Does machine s (event call r) s'
  does call follows r told moved = subst (λ x. Does machine s (event call x) s') (sym told) (go (machine.refusal call s) refl moved)
    where
      go : (x : Option F) → machine.refusal call s ≡ x → s' ≡ becomes x (machine.after call s) s → Does machine s (event call (answers x (machine.answer call s))) s'
      go None e moved' = (e, refl, moved', follows)
      go (Some fault) e moved' = (e, moved')

  -- an opening that is refused is one, whatever one that is accepted means
  pub does_open : (call : C) (Means : Result (Answer call) F → Type 0) → (machine.refusal call s ≡ None → s' ≡ machine.after call s → Means (answers None (machine.answer call s))) →
      ((fault : F) → Does machine s (refused call fault) s' → Means (answers (Some fault) (machine.answer call s))) →
      (r : Result (Answer call) F) → r ≡ gives machine call s → s' ≡ leaves machine call s → Means r
  does_open call Means accepted failed r told moved = subst Means (sym told) (go (machine.refusal call s) refl moved)
    where
      go : (x : Option F) → machine.refusal call s ≡ x → s' ≡ becomes x (machine.after call s) s → Means (answers x (machine.answer call s))
      go None e moved' = accepted e moved'
      go (Some fault) e moved' = failed fault (e, moved')

module _ {O C S F : Type 0} {Answer : C → Type 0} (machine : Machine O C Answer S F) (Promised : O → List (Event C Answer F) → S → Type 0)
    (law : (o : O) (h : List (Event C Answer F)) (s : S) → Had machine o h s → Promised o h s) (s s' : S) where
  keeps : (e : Event C Answer F) → Does machine s e s' → Keeps machine Promised s e s'
  keeps e came o h had = law o (e ∷ h) s' (s, had, came)

  -- a call that may follow
  pub keeps_call : (call : C) → machine.Follows call → (r : Result (Answer call) F) → r ≡ gives machine call s → s' ≡ leaves machine call s → Keeps machine Promised s (event call r) s'
  keeps_call call follows r told moved = keeps (event call r) (does machine s s' call follows r told moved)

  -- an opening, which is a call too
  pub keeps_open : (o : O) (call : C) → (machine.refusal call s ≡ None → machine.Opens o × (machine.after call s ≡ machine.opening o)) → (r : Result (Answer call) F) → r ≡ gives machine call s → s' ≡ leaves machine call s → OpenKeeps machine Promised s o call r s'
  keeps_open o call opens =
      does_open machine s s' call (λ r. OpenKeeps machine Promised s o call r s')
      (λ e moved. let met = opens e in law o [] s' (met.0, subst (λ y. s' ≡ y) met.1 moved)) (λ fault came. keeps (refused call fault) came)
