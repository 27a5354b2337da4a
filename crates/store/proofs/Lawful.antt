-- The kinds and rules of the code keep the laws.
use Rattle.std.proofs.Common.{◌≡◌, ℕ, ◌≤◌, min, List, length, get_or}
use Rattle.portions.specs.declared.TheConstants.{MOST_OPEN}
use Rattle.portions.specs.Sums.{sum}
use Rattle.portions.specs.Portions.{Portion}
use Rattle.portions.specs.declared.Kind.{Ghosts}
use Rattle.ledger.specs.Kinds.{LawfulKind}
use Rattle.ledger.specs.Rules.{Rule, LawfulRule}
use Rattle.store.specs.Reading.{kind_of}

pub lawful : {K T : Type 0} (k : Ghosts K T) → 1 ≤ k.LIFE → k.LIFE ≤ 15 → ((p : Portion T) → k.refund p ≤ p.left) → LawfulKind (kind_of k)
lawful k lasting short within = record { life_from = lasting; life_to = short; refund_within = within }

pub lawful_rule : (gives : Rule) → ((m w : ℕ) (ls : List ℕ) → length ls ≤ MOST_OPEN → length (gives m ls w) ≡ length ls) →
    ((m w : ℕ) (ls : List ℕ) → length ls ≤ MOST_OPEN → (i : ℕ) → get_or (gives m ls w) i 0 ≤ get_or ls i 0) →
    ((m w : ℕ) (ls : List ℕ) → length ls ≤ MOST_OPEN → sum (gives m ls w) ≡ min w (sum ls)) → LawfulRule gives
lawful_rule gives sized bounded full = record { sized = sized; bounded = bounded; full = full }
