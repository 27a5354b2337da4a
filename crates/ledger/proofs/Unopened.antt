-- A store that was never opened stands as it was made, and refuses every call.
use Rattle.std.proofs.Common.{◌≡◌, Some, refl, ap}
use Rattle.faults.specs.Numbers.{store_number}
use Rattle.faults.specs.declared.StoreFault.{StoreFault}
use Rattle.faults.specs.declared.StoreFault.TheVariants.{NotOpen}
use Rattle.histories.proofs.Unopened as histories
use Rattle.ledger.specs.Kinds.{Kind}
use Rattle.ledger.specs.Ledger.{Ledger, closed}
use Rattle.ledger.specs.Calls.{Call, Follows, refusal}
use Rattle.ledger.specs.Calls.Call.{open_for, enter, draw, turn}
use Rattle.ledger.specs.Steps.{machine}
use Rattle.ledger.specs.History.{History}
use Rattle.ledger.specs.Unopened.{Shut, Unopened, NeverOpened}
use Rattle.ledger.proofs.Refusals.{opening_refused}

module _ {T : Type 0} (kind : Kind T) where
  shut : (call : Call T) → Follows call → (fault : StoreFault) × (refusal kind call closed ≡ Some fault)
  shut (open_for slots month) follows = absurd follows
  shut (enter amount terms) follows = (NotOpen, refl)
  shut (draw d) follows = (NotOpen, refl)
  shut turn follows = (NotOpen, refl)

  by_one : (fault : StoreFault) → Some NotOpen ≡ Some fault → store_number fault ≡ 1
  by_one fault e = let same : fault ≡ NotOpen = cc in ap store_number same

  shuts : (call : Call T) (fault : StoreFault) → refusal kind call closed ≡ Some fault → Shut kind call fault
  shuts (open_for slots month) fault e = opening_refused kind slots month fault e
  shuts (enter amount terms) fault e = by_one fault e
  shuts (draw d) fault e = by_one fault e
  shuts turn fault e = by_one fault e

  pub never_opened : (h : History T) (s : Ledger T) → Unopened kind h s → NeverOpened kind h s
  never_opened = histories.never_opened (machine kind) closed (Shut kind) shut shuts
