-- The rule that settlements go by keeps the law of rules.
use Rattle.std.proofs.Common.{◌≡◌, ℕ, ◌≤◌, min, Bool, true, false, cond, leb, List, length, get_or}
use Rattle.portions.specs.Sums.{sum}
use Rattle.portions.specs.Takes.{oldest_length, oldest_bounded, oldest_sum, proportional_length, proportional_bounded, proportional_sum}
use Rattle.ledger.specs.Rules.{LawfulRule}
use Rattle.desk.specs.Accounts.{settling_rule}

-- what holds of both holds of the one that is chosen
either : {X : Type 0} (P : X → Type 0) (b : Bool) {x y : X} → P x → P y → P (cond b x y)
either P true px py = px
either P false px py = py

-- both rules that it chooses from keep the law
pub settling_lawful : LawfulRule settling_rule
settling_lawful = record {
  sized = λ month wanted lefts few.
      either (λ (ts : List ℕ). length ts ≡ length lefts) (leb month 74) (proportional_length lefts wanted) (oldest_length lefts wanted);
  bounded = λ month wanted lefts few i.
      either (λ (ts : List ℕ). get_or ts i 0 ≤ get_or lefts i 0) (leb month 74) (proportional_bounded lefts wanted i) (oldest_bounded lefts wanted i);
  full = λ month wanted lefts few.
      either (λ (ts : List ℕ). sum ts ≡ min wanted (sum lefts)) (leb month 74) (proportional_sum lefts wanted) (oldest_sum lefts wanted);
}
