-- Each call keeps the promise: from its answer and the ledger after it.
use Rattle.std.proofs.Common.{◌≡◌, ℕ, Some, None, Option, Result, OnOk, sym, refl, ap, ◌∙◌, subst}
use Rattle.faults.specs.declared.StoreFault.{StoreFault}
use Rattle.histories.specs.Machines.{answers, gives, leaves}
use Rattle.histories.specs.Histories.{event}
use Rattle.histories.proofs.Keeps as histories
use Rattle.ledger.specs.Kinds.{Kind, LawfulKind}
use Rattle.ledger.specs.Ledger.{Ledger}
use Rattle.ledger.specs.Calls.{Call, Answer, Follows, open_refusal}
use Rattle.ledger.specs.Calls.Call.{open_for}
use Rattle.ledger.specs.Steps.{machine}
use Rattle.ledger.specs.Refusals.{OpenedRightly}
use Rattle.ledger.specs.Promises.{Promised, Keeps, OpenKeeps}
use Rattle.ledger.proofs.Asked.{open_met}
use Rattle.ledger.proofs.Promise.{promised}

module _ {T : Type 0} (kind : Kind T) (law : LawfulKind kind) (l l' : Ledger T) where
  pub keeps : (call : Call T) → Follows call → (r : Result (Answer call) StoreFault) → r ≡ gives (machine kind) call l → l' ≡ leaves (machine kind) call l → Keeps kind l (event call r) l'
  keeps call follows r a s = histories.keeps_call (machine kind) (Promised kind) (promised kind law) l l' call follows r a s

  pub keeps_open : (slots month : ℕ) (r : Result (Unit {0}) StoreFault) → r ≡ gives (machine kind) (open_for slots month) l → l' ≡ leaves (machine kind) (open_for slots month) l →
      OpenKeeps kind l slots month r l'
  keeps_open slots month r a s =
      (rightly (open_refusal kind slots month) refl, histories.keeps_open (machine kind) (Promised kind) (promised kind law) l l' month (open_for slots month) (λ e. let met = open_met kind slots month e in ((met.from, met.to), refl)) r a s)
    where
      rightly : (o : Option StoreFault) → open_refusal kind slots month ≡ o → OnOk r (OpenedRightly kind slots month)
      rightly None e = let met = open_met kind slots month e in subst (λ x. OnOk x (OpenedRightly kind slots month)) (sym (a ∙ ap (λ x. answers x tt) e)) (met.roomy, met.from, met.to)
      rightly (Some fault) e = subst (λ x. OnOk x (OpenedRightly kind slots month)) (sym (a ∙ ap (λ x. answers x tt) e)) tt
