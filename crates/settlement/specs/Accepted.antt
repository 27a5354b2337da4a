-- Store histories in which every call was accepted.
use Rattle.histories.specs.Histories.{Always}
use Rattle.histories.specs.Histories.Event.{did, refused}
use Rattle.ledger.specs.History.{Event, History}

module _ {T : Type 0} where
  -- a call was not refused
  abbrev pub Accepted : History T → Event T → Type 0
  Accepted h (did call answer) = Unit {0}
  Accepted h (refused call fault) = ⊥

  -- no call of a store's history was
  abbrev pub NoneRefused : History T → Type 0
  NoneRefused h = Always Accepted h
