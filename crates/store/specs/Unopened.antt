-- Before an opening: a store tells no portion, refuses everything but an opening by 1, and holds the slots as they were lent.
use Rattle.std.specs.Prelude.{◌≡◌, ℕ, List, Result}
use Rattle.faults.specs.declared.StoreFault.{StoreFault}
use Rattle.histories.specs.Histories.{event}
use Rattle.histories.specs.Unopened.{Carries, OpenCarries}
use Rattle.portions.specs.declared.Slot.{Slot}
use Rattle.portions.specs.declared.Kind.{Ghosts}
use Rattle.ledger.specs.Calls.{Call, Answer}
use Rattle.ledger.specs.Calls.Call.{open_for}
use Rattle.ledger.specs.History.{History}
use Rattle.ledger.specs.Unopened.{NeverOpened}
use Rattle.store.specs.declared.Store.{Store}
use Rattle.store.specs.Held.{lent, room}
use Rattle.store.specs.Reading.{kind_of, ledger_of}

module _ {K T : Type 0} {k : Ghosts K T} where
  -- the store was made over these slots, has had the calls h, and was never opened
  pub record AsLent (slots : List Slot) (h : History T) (s : Store K T k) : Type 0 where
    -- it tells nothing and has refused every call
    pub shut : NeverOpened (kind_of k) h (ledger_of k s)
    -- no slot differs from what was lent
    pub slots_as_lent : lent s ≡ slots

  -- a call leaves all that so: whatever calls the store has had before
  abbrev pub StaysAsLent : Store K T k → (call : Call T) → Result (Answer call) StoreFault → Store K T k → Type 0
  StaysAsLent before call result after = (slots : List Slot) → Carries (AsLent slots) before (event call result) after

  -- and so does an opening that is refused
  abbrev pub OpenStaysAsLent : Store K T k → ℕ → Result (Unit {0}) StoreFault → Store K T k → Type 0
  OpenStaysAsLent before month result after = (slots : List Slot) → OpenCarries (AsLent slots) before (open_for (room before) month) result after
