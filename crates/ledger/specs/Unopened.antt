-- Before an opening: a store tells no portion, and refuses everything but an opening by 1.
use Rattle.std.specs.Prelude.{◌≡◌}
use Rattle.faults.specs.Numbers.{store_number}
use Rattle.faults.specs.declared.StoreFault.{StoreFault}
use Rattle.histories.specs.Unopened as histories
use Rattle.ledger.specs.Kinds.{Kind}
use Rattle.ledger.specs.Ledger.{Ledger, closed}
use Rattle.ledger.specs.Calls.{Call}
use Rattle.ledger.specs.Calls.Call.{open_for, enter, draw, turn}
use Rattle.ledger.specs.Steps.{machine}
use Rattle.ledger.specs.History.{History}
use Rattle.ledger.specs.Refusals.{OpeningRefused}

module _ {T : Type 0} where
  -- by which fault a store that was never opened refuses a call
  abbrev pub Shut : Kind T → Call T → StoreFault → Type 0
  Shut kind (open_for slots month) fault = OpeningRefused kind slots month fault
  Shut kind (enter amount terms) fault = store_number fault ≡ 1
  Shut kind (draw d) fault = store_number fault ≡ 1
  Shut kind turn fault = store_number fault ≡ 1

  -- a store of this kind has had the calls h since it was made, with no opening accepted, and is at s
  abbrev pub Unopened : Kind T → History T → Ledger T → Type 0
  Unopened kind h s = histories.Unopened (machine kind) closed h s

  -- then it stands as it was made, without portions and with totals 0, and has refused every call as one that is shut
  -- does
  abbrev pub NeverOpened : Kind T → History T → Ledger T → Type 0
  NeverOpened kind h s = histories.NeverOpened (machine kind) closed (Shut kind) h s
