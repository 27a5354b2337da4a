-- What an enter answers, which hands the sums back, and the caller's lines after a settlement.
use Rattle.std.specs.Prelude.{List, length, Some, None, Ok, Err, Option, Result}
use Rattle.faults.specs.declared.AccountFault.{AccountFault}
use Rattle.histories.specs.Machines.{becomes}
use Rattle.hours.specs.declared.sums.MonthSums.{MonthSums}
use Rattle.ledger.specs.Rules.{Rule}
use Rattle.settlement.specs.declared.answers.Line.{Line}
use Rattle.settlement.specs.declared.answers.Returned.{Returned}
use Rattle.settlement.specs.Lines.{written}
use Rattle.settlement.specs.Accounts.{Workings, refusal}
use Rattle.settlement.specs.Accounts.Call.{enter, settle}

-- the answer to an enter: a refusal hands the sums back
abbrev pub hands_back : MonthSums → Option AccountFault → Result (Unit {0}) Returned
hands_back sums None = Ok tt
hands_back sums (Some fault) = Err (record { fault = fault; sums = sums })

module _ {O A S Z T : Type 0} (works : Workings O A S Z T) where
  -- the answer to an enter
  abbrev pub enter_answer : MonthSums → A → Result (Unit {0}) Returned
  enter_answer sums a = hands_back sums (refusal works (enter sums) a)

  -- the caller's lines after a settlement
  abbrev pub settle_lines : Rule → A → List Line → List Line
  settle_lines rule a old = becomes (refusal works (settle rule (length old)) a) (written (works.lines rule a) old) old
