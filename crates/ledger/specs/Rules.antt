-- Draw rules, by what they say alone, and the law that they keep.
use Rattle.std.specs.Prelude.{◌≡◌, ℕ, ◌≤◌, min, List, length, slice_index}
use Rattle.portions.specs.declared.TheConstants.{MOST_OPEN}
use Rattle.portions.specs.Sums.{sum}

-- a rule: from the month, the amounts left in the open portions, oldest first, and the amount wanted, a taking for each portion
abbrev pub Rule : Type 0
Rule = ℕ → List ℕ → ℕ → List ℕ

-- a draw, as it is asked for: the rule that it goes by, and the amount wanted
pub record Draw : Type 0 where
  pub rule : Rule
  pub wanted : ℕ

-- one by this rule, of so much
abbrev pub by_rule : Rule → ℕ → Draw
by_rule rule wanted = record { rule = rule; wanted = wanted }

-- the law of rules, for no more portions than can be open: a taking for each, none more than its portion's amount
-- left, and together the smaller of the amount wanted and the total left
pub record LawfulRule (rule : Rule) : Type 0 where
  pub sized : (month wanted : ℕ) (lefts : List ℕ) → length lefts ≤ MOST_OPEN →
      length (rule month lefts wanted) ≡ length lefts
  pub bounded : (month wanted : ℕ) (lefts : List ℕ) → length lefts ≤ MOST_OPEN →
      (i : ℕ) → slice_index (rule month lefts wanted) i ≤ slice_index lefts i
  pub full : (month wanted : ℕ) (lefts : List ℕ) → length lefts ≤ MOST_OPEN →
      sum (rule month lefts wanted) ≡ min wanted (sum lefts)
