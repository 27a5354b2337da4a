-- What a store promises after every history, and what a call keeps of it.
use Rattle.std.specs.Prelude.{ℕ, ◌+◌, ◌≤◌, length, Result, OnOk}
use Rattle.faults.specs.declared.StoreFault.{StoreFault}
use Rattle.ledger.specs.Kinds.{Kind}
use Rattle.ledger.specs.Ledger.{Ledger}
use Rattle.ledger.specs.Calls.Call.{open_for}
use Rattle.histories.specs.Histories as histories
use Rattle.ledger.specs.History.{Event, History, Had}
use Rattle.ledger.specs.Steps.{machine}
use Rattle.ledger.specs.Totals.{Balanced}
use Rattle.ledger.specs.Told.{TellsExactly}
use Rattle.ledger.specs.Ways.{Way, Fair}
use Rattle.ledger.specs.Best.{WentOldestFirst, NoBetter}
use Rattle.ledger.specs.Service.{Own, ServesFairly}
use Rattle.ledger.specs.Refusals.{OpenedRightly, AllRightly}

-- the promise of a store of this kind, opened for month m₀, that has had the calls h and now tells s
pub record Promised {T : Type 0} (kind : Kind T) (m₀ : ℕ) (h : History T) (s : Ledger T) : Type 0 where
  pub had : Had kind m₀ h s
  -- entered equals used, refunded, lost and left together
  pub conserved : Balanced h s
  -- a portion is told exactly when it was entered and no turn has taken the month past its life
  pub exactly : TellsExactly kind m₀ h s
  -- at most life + 1 portions are open
  pub few : length s.portions ≤ kind.life + 1
  -- where every accepted draw went oldest first, no other way of serving the draws is better
  pub best : WentOldestFirst kind m₀ h → (way : Way) → Fair kind m₀ way h → NoBetter kind m₀ h way
  -- the store's own service, whatever the rules, is one of the ways compared
  pub own : (way : Way) × Own kind m₀ way h
  pub fairly : (way : Way) → Own kind m₀ way h → ServesFairly kind m₀ h s way
  -- every call was accepted or refused as it should have been
  pub rightly : AllRightly kind m₀ h

-- a call keeps the promise: whatever calls the store has had before, it has had them and this one after, and all is as promised
abbrev pub Keeps : {T : Type 0} → Kind T → Ledger T → Event T → Ledger T → Type 0
Keeps kind before event after = histories.Keeps (machine kind) (Promised kind) before event after

-- an opening keeps it: one that is rightly accepted begins a history, and a refused one is a call like any other
abbrev pub OpenKeeps : {T : Type 0} → Kind T → Ledger T → ℕ → ℕ → Result (Unit {0}) StoreFault → Ledger T → Type 0
OpenKeeps kind before slots month result after =
    OnOk result (OpenedRightly kind slots month)
    × histories.OpenKeeps (machine kind) (Promised kind) before month (open_for slots month) result after
