-- Oldest first is best: no other way of serving the draws uses more, or lets less run out.
use Rattle.std.specs.Prelude.{◌≡◌, ℕ, ◌+◌, ◌≤◌}
use Rattle.portions.specs.Taking.{oldest}
use Rattle.histories.specs.Histories.{Always}
use Rattle.ledger.specs.Kinds.{Kind}
use Rattle.ledger.specs.Ledger.{lefts}
use Rattle.ledger.specs.Steps.{takings}
use Rattle.ledger.specs.History.{Event, History, at, drew}
use Rattle.ledger.specs.Totals.{Used, Refunded, Lost}
use Rattle.ledger.specs.Ways.{Way, way_used, way_run_out}

module _ {T : Type 0} (kind : Kind T) (m₀ : ℕ) where
  -- an accepted draw after the calls h went oldest first: where they had brought the store, its rule gave those takings
  abbrev pub OldestFirst : History T → Event T → Type 0
  OldestFirst h (drew d answer) = takings d.rule d.wanted (at kind m₀ h) ≡ oldest (lefts (at kind m₀ h)) d.wanted
  OldestFirst h _ = Unit {0}

  -- every accepted draw did
  abbrev pub WentOldestFirst : History T → Type 0
  WentOldestFirst h = Always OldestFirst h

-- another way has used at most as much as the store's answers say, and let at least as much run out
pub record NoBetter {T : Type 0} (kind : Kind T) (m₀ : ℕ) (h : History T) (way : Way) : Type 0 where
  pub used_at_most : way_used way h ≤ Used h
  pub run_out_at_least : Refunded h + Lost h ≤ way_run_out kind m₀ way h
