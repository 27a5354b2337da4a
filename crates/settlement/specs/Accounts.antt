-- Accounts of either sort: how one works, its calls, and by which fault each is refused.
use Rattle.std.specs.Prelude.{◌≡◌, ℕ, Bool, List, None, Option}
use Rattle.faults.specs.declared.AccountFault.{AccountFault}
use Rattle.histories.specs.Machines.{Machine}
use Rattle.hours.specs.declared.sums.MonthSums.{MonthSums}
use Rattle.hours.specs.declared.zones.Zone.{Zone}
use Rattle.ledger.specs.Kinds.{Kind}
use Rattle.ledger.specs.Rules.{Rule, LawfulRule}
use Rattle.ledger.specs.Ledger.{Ledger}
use Rattle.settlement.specs.declared.answers.Line.{Line}
use Rattle.settlement.specs.declared.standing.Standing.{Standing}
use Rattle.settlement.specs.Standing.{enter_refusal, settle_refusal, turn_refusal}

-- a call with its arguments: an opening for O, an enter of a month's sums, a settlement by a rule into so many lines, a turn
pub data Call (O : Type 0) : Type 0 where
  open_for : (opening : O) → Call O
  enter : (sums : MonthSums) → Call O
  settle : (rule : Rule) (lines : ℕ) → Call O
  turn : Call O

-- what an accepted call answers, where settlements answer S
abbrev pub Answer : {O : Type 0} → Type 0 → Call O → Type 0
Answer S (settle rule lines) = S
Answer S turn = ℕ × ℕ
Answer S _ = Unit {0}

-- the calls that may be accepted after an opening: any with lawful rules, but no further opening
abbrev pub Follows : {O : Type 0} → Call O → Type 0
Follows (open_for opening) = ⊥
Follows (settle rule lines) = LawfulRule rule
Follows _ = Unit {0}

-- a covering: a settlement draws on the store of a zone for what is not yet covered in a zone, the rest, wants so much
-- of it, uses so much, and covers so much of the rest by that
pub record Covering (Z : Type 0) : Type 0 where
  pub zone : Z
  pub from : Z
  pub rest : ℕ
  pub wanted : ℕ
  pub used : ℕ
  pub covers : ℕ

-- a sort of account A: opened for O, it has for each of the zones Z a store of portions with the terms T, and its settlements answer S
pub record Workings (O A S Z T : Type 0) : Type 1 where
  -- its zones, the place of each among them, and what marks its lines
  pub zones : List Z
  pub place : Z → ℕ
  pub mark : Z → Option Zone
  -- where an account stands, the store of a zone, and what is still to be covered in it
  pub standing : A → Standing
  pub store : A → Z → Ledger T
  pub pending : A → Z → ℕ
  -- its stores' kind, and the fewest lines that a settlement asks for
  pub kind : Kind T
  pub fewest_lines : ℕ
  -- the account before an opening, which openings are refused, and when a number applies to one
  pub closed : A
  pub open_refusal : O → Option AccountFault
  pub Applies : O → ℕ → Type 0
  -- for which month one is, with which months a period ends, and the account right after it
  pub own_month : O → ℕ
  pub ends_in : O → ℕ → Bool
  pub opening : O → A
  -- what a month's sums put into each store, on which terms, and what they add to the amount to be covered
  pub stored : MonthSums → Z → ℕ
  pub terms : O → MonthSums → T
  pub demand : MonthSums → Z → ℕ
  -- how many tenths of what is used are covered, and the coverings of a settlement, the newest first
  pub tenths : O → ℕ
  pub coverings : Rule → A → List (Covering Z)
  -- what a settlement answers, of that what it covered and left due and how many lines it has, and the lines
  pub settlement : Rule → A → S
  pub covered : S → Z → ℕ
  pub due : S → Z → ℕ
  pub count : S → ℕ
  pub lines : Rule → A → List Line
  -- what a turn refunds and loses
  pub refunds : A → ℕ
  pub losses : A → ℕ
  -- the account after each accepted call
  pub entering : MonthSums → A → A
  pub settling : Rule → A → A
  pub turning : A → A

module _ {O A S Z T : Type 0} (works : Workings O A S Z T) where
  -- the fault by which a call is refused, if it is: the smallest number that applies comes first
  abbrev pub refusal : Call O → A → Option AccountFault
  refusal (open_for opening) a = works.open_refusal opening
  refusal (enter sums) a = enter_refusal (works.standing a) sums.month
  refusal (settle rule lines) a = settle_refusal (works.standing a) works.fewest_lines lines
  refusal turn a = turn_refusal (works.standing a)

  -- what a call answers where it is accepted
  abbrev pub answer : (call : Call O) → A → Answer S call
  answer (settle rule lines) a = works.settlement rule a
  answer turn a = (works.refunds a, works.losses a)
  answer _ a = tt

  -- and what it makes of the account
  abbrev pub after : Call O → A → A
  after (open_for opening) a = works.opening opening
  after (enter sums) a = works.entering sums a
  after (settle rule lines) a = works.settling rule a
  after turn a = works.turning a

  -- an account as a machine
  abbrev pub machine : Machine O (Call O) (Answer S) A AccountFault
  machine = record {
    Opens = λ opening. works.open_refusal opening ≡ None;
    opening = works.opening;
    Follows = Follows;
    refusal = refusal;
    answer = answer;
    after = after;
  }
