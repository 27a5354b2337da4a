-- Oldest first is best for an account: no other way of serving its settlements' draws uses more, or lets less run out.
use Rattle.std.specs.Prelude.{◌≡◌, ℕ, ◌+◌, ◌≤◌, List, length}
use Rattle.histories.specs.Histories.{Always}
use Rattle.portions.specs.Sums.{total}
use Rattle.portions.specs.declared.TheConstants.{MOST_OPEN}
use Rattle.portions.specs.Taking.{oldest}
use Rattle.ledger.specs.Rules.{Rule}
use Rattle.ledger.specs.Ledger.{lefts}
use Rattle.ledger.specs.Steps.{takings}
use Rattle.ledger.specs.Totals as store
use Rattle.ledger.specs.Ways.{Way, way_used, way_run_out}
use Rattle.settlement.specs.Accounts.{Workings, Covering}
use Rattle.settlement.specs.History.{Event, History, reached, settled}
use Rattle.settlement.specs.Inside.{at, store_calls, store_after}
use Rattle.settlement.specs.Turned.{Refunded, Lost}

module _ {O A S Z T : Type 0} (works : Workings O A S Z T) (o : O) where
  -- if a covering draws on the store of z, the rule gave it the takings of oldest first, where that store stood after
  -- the calls h and the coverings before it
  abbrev pub OldestFirst : Z → History O S → Rule → List (Covering Z) → Covering Z → Type 0
  OldestFirst z h rule before c =
      works.place c.from ≡ works.place z →
      takings rule c.wanted (store_after works o h rule before z)
      ≡ oldest (lefts (store_after works o h rule before z)) c.wanted

  -- an accepted settlement went oldest first on the store of z: its rule did so in each of its draws on it
  abbrev pub SettledOldestFirst : Z → History O S → Event O S → Type 0
  SettledOldestFirst z h (settled rule lines answer) =
      Always (OldestFirst z h rule) (works.coverings rule (at works o h))
  SettledOldestFirst z h _ = Unit {0}

  -- every accepted settlement did
  abbrev pub WentOldestFirst : Z → History O S → Type 0
  WentOldestFirst z h = Always (SettledOldestFirst z) h

  -- an accepted settlement had a rule that goes oldest first in its month, for no more amounts than can be open
  abbrev pub HadOldestFirstRule : History O S → Event O S → Type 0
  HadOldestFirstRule h (settled rule lines answer) =
      (lefts : List ℕ) → length lefts ≤ MOST_OPEN → (wanted : ℕ) →
      rule (reached (works.own_month o) h) lefts wanted ≡ oldest lefts wanted
  HadOldestFirstRule h _ = Unit {0}

  -- every accepted settlement had one
  abbrev pub HadOldestFirstRules : History O S → Type 0
  HadOldestFirstRules h = Always HadOldestFirstRule h

  -- other ways, one for each store, have together used at most as much as the stores, and let at least as much run out
  -- as the account's turns answered
  pub record NoneBetter (h : History O S) (ways : Z → Way) : Type 0 where
    pub used_at_most :
        total (λ z. way_used (ways z) (store_calls works o z h)) works.zones
        ≤ total (λ z. store.Used (store_calls works o z h)) works.zones
    pub run_out_at_least :
        Refunded h + Lost h
        ≤ total (λ z. way_run_out works.kind (works.own_month o) (ways z) (store_calls works o z h)) works.zones
