-- Before an opening: an account tells no portion, refuses everything but an opening by 1, and holds the slots as they were lent.
use Rattle.std.specs.Prelude.{◌≡◌, Result}
use Rattle.faults.specs.declared.AccountFault.{AccountFault}
use Rattle.histories.specs.Unopened.{Carries, OpenCarries}
use Rattle.settlement.specs.Accounts.{Workings}
use Rattle.settlement.specs.Accounts.Call.{open_for}
use Rattle.settlement.specs.History.{Event, History}
use Rattle.settlement.specs.Unopened.{NeverOpened}

-- a sort of account of the code: how it works, what one means, and what the slots lent to it hold
pub record Sort (X O A S Z T L : Type 0) : Type 1 where
  pub works : Workings O A S Z T
  pub means : X → A
  pub lent : X → L

module _ {X O A S Z T L : Type 0} (sort : Sort X O A S Z T L) where
  -- the account was made over these slots, has had the calls h, and was never opened
  pub record AsLent (slots : L) (h : History O S) (x : X) : Type 0 where
    -- it tells nothing and has refused every call
    pub shut : NeverOpened sort.works h (sort.means x)
    -- no slot differs from what was lent
    pub slots_as_lent : sort.lent x ≡ slots

  -- a call leaves all that so: whatever calls the account has had before
  abbrev pub StaysAsLent : X → Event O S → X → Type 0
  StaysAsLent before event after = (slots : L) → Carries (AsLent slots) before event after

  -- and so does an opening that is refused
  abbrev pub OpenStaysAsLent : X → O → Result (Unit {0}) AccountFault → X → Type 0
  OpenStaysAsLent before opening result after = (slots : L) → OpenCarries (AsLent slots) before (open_for opening) result after
