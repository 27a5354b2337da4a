-- The store's own service, as one of the ways of serving the draws.
use Rattle.std.specs.Prelude.{◌≡◌, ℕ, ◌+◌, cond, List, [], ◌∷◌, length, ◌==◌, nat_le}
use Rattle.histories.specs.Histories.{Always}
use Rattle.portions.specs.Sums.{total}
use Rattle.portions.specs.Portions.{Portion}
use Rattle.ledger.specs.Kinds.{Kind}
use Rattle.ledger.specs.Ledger.{Ledger}
use Rattle.ledger.specs.Steps.{takings}
use Rattle.ledger.specs.History.{Event, History, at, drew}
use Rattle.ledger.specs.Totals.{Used, Refunded, Lost}
use Rattle.ledger.specs.Ways.{Way, Fair, way_used, way_run_out, way_left_from}

module _ {T : Type 0} where
  -- what these takings take from the portion of month k
  abbrev pub taken_from : ℕ → List ℕ → List (Portion T) → ℕ
  taken_from k [] ps = 0
  taken_from k (x ∷ xs) [] = 0
  taken_from k (x ∷ xs) (p ∷ ps) = cond (p.month == k) x 0 + taken_from k xs ps

  -- in an accepted draw after the calls h the way takes what the rule gave
  abbrev pub OwnDraw : Kind T → ℕ → Way → History T → Event T → Type 0
  OwnDraw kind m₀ way h (drew d answer) =
      (k : ℕ) → way (length h) k ≡ taken_from k (takings d.rule d.wanted (at kind m₀ h)) (at kind m₀ h).portions
  OwnDraw kind m₀ way h _ = Unit {0}

  -- the way is the store's own: it does so in every accepted draw
  abbrev pub Own : Kind T → ℕ → Way → History T → Type 0
  Own kind m₀ way h = Always (OwnDraw kind m₀ way) h

  -- what is left in the open portions of month m and later
  abbrev pub left_from : ℕ → List (Portion T) → ℕ
  left_from m ps = total (λ p. cond (nat_le m p.month) p.left 0) ps

-- the store's own way is fair, whatever the rules, and has used, run out and left what the store says
pub record ServesFairly {T : Type 0} (kind : Kind T) (m₀ : ℕ) (h : History T) (s : Ledger T) (way : Way) : Type 0 where
  pub fair : Fair kind m₀ way h
  pub same_used : way_used way h ≡ Used h
  pub same_run_out : way_run_out kind m₀ way h ≡ Refunded h + Lost h
  pub same_left : (m : ℕ) → way_left_from kind m₀ way h m ≡ left_from m s.portions
