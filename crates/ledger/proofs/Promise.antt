-- A store of a lawful kind keeps its promise after every history.
use Rattle.std.proofs.Common.{ℕ}
use Rattle.ledger.specs.Kinds.{Kind, LawfulKind}
use Rattle.ledger.specs.Ledger.{Ledger}
use Rattle.ledger.specs.History.{History, Had}
use Rattle.ledger.specs.Promises.{Promised}
use Rattle.ledger.proofs.Store.{conserves, tells_open, few_open}
use Rattle.ledger.proofs.Best.{oldest_best}
use Rattle.ledger.proofs.Own.{own_exists, serves_fairly}
use Rattle.ledger.proofs.Refusals.{all_rightly}

module _ {T : Type 0} (kind : Kind T) (law : LawfulKind kind) where
  pub promised : (m₀ : ℕ) (h : History T) (s : Ledger T) → Had kind m₀ h s → Promised kind m₀ h s
  promised m₀ h s had = record {
    had = had;
    conserved = conserves kind law m₀ h s had;
    exactly = tells_open kind m₀ h s had;
    few = few_open kind m₀ h s had;
    best = oldest_best kind law m₀ h s had;
    own = own_exists kind m₀ h;
    fairly = serves_fairly kind law m₀ h s had;
    rightly = all_rightly kind m₀ h s had;
  }
