-- Before an opening: an account tells no portion, and refuses everything but an opening by 1.
use Rattle.std.specs.Prelude.{◌≡◌}
use Rattle.faults.specs.Numbers.{account_number}
use Rattle.faults.specs.declared.AccountFault.{AccountFault}
use Rattle.histories.specs.Unopened as histories
use Rattle.ledger.specs.Ledger as ledger
use Rattle.settlement.specs.Accounts.{Call, Workings, machine}
use Rattle.settlement.specs.Accounts.Call.{open_for, enter, settle, turn}
use Rattle.settlement.specs.History.{History}
use Rattle.settlement.specs.Refusals.{Smallest}

module _ {O A S Z T : Type 0} (works : Workings O A S Z T) where
  -- by which fault an account that was never opened refuses a call
  abbrev pub Shut : Call O → AccountFault → Type 0
  Shut (open_for opening) fault = Smallest works opening (account_number fault)
  Shut (enter sums) fault = account_number fault ≡ 1
  Shut (settle rule lines) fault = account_number fault ≡ 1
  Shut turn fault = account_number fault ≡ 1

  -- an account has had the calls h since it was made, with no opening accepted, and is at a
  abbrev pub Unopened : History O S → A → Type 0
  Unopened h a = histories.Unopened (machine works) works.closed h a

  -- then
  pub record NeverOpened (h : History O S) (a : A) : Type 0 where
    -- it stands as it was made, and has refused every call as one that is shut does
    pub shut : histories.NeverOpened (machine works) works.closed Shut h a
    -- and none of its stores was opened: they tell no portion
    pub stores_closed : (z : Z) → works.store a z ≡ ledger.closed

  -- an account of this sort is shut until it is opened
  abbrev pub ShutUntilOpened : Type 0
  ShutUntilOpened = (h : History O S) (a : A) → Unopened h a → NeverOpened h a
