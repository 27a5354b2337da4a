-- Histories: the list of calls on one account since its opening, refused ones among them, each with its arguments and answer.
use Rattle.std.specs.Prelude.{ℕ, ◌+◌, List, [], ◌∷◌, Ok, Err, Result}
use Rattle.faults.specs.declared.AccountFault.{AccountFault}
use Rattle.histories.specs.Histories as histories
use Rattle.histories.specs.Histories.Event.{did}
pub use Rattle.histories.specs.Histories.Event.{refused}
use Rattle.hours.specs.declared.sums.MonthSums.{MonthSums}
use Rattle.ledger.specs.Rules.{Rule}
use Rattle.settlement.specs.declared.answers.Returned.{Returned}
use Rattle.settlement.specs.declared.states.MonthState.{MonthState}
use Rattle.settlement.specs.declared.states.MonthState.TheVariants.{Waiting, Entered, Settled}
use Rattle.settlement.specs.Accounts.{Call, Answer, Workings, machine}
use Rattle.settlement.specs.Accounts.Call.{enter, settle, turn}

-- a call with its arguments and its answer
abbrev pub Event : Type 0 → Type 0 → Type 0
Event O S = histories.Event (Call O) (Answer S) AccountFault

-- the calls, the newest first
abbrev pub History : Type 0 → Type 0 → Type 0
History O S = List (Event O S)

module _ {O S : Type 0} where
  -- an accepted call: an enter of a month's sums
  pattern abbrev pub entered : MonthSums → Event O S
  entered sums = did (enter sums) tt

  -- a settlement by a rule into so many lines
  pattern abbrev pub settled : Rule → ℕ → S → Event O S
  settled rule lines answer = did (settle rule lines) answer

  -- a turn that answered what it refunded and lost
  pattern abbrev pub turned : ℕ → ℕ → Event O S
  turned refunded lost = did turn (refunded, lost)

  -- an enter by its answer
  abbrev pub enter_event : MonthSums → Result (Unit {0}) Returned → Event O S
  enter_event sums (Ok _) = entered sums
  enter_event sums (Err back) = refused (enter sums) back.fault

  -- a figure of the month's sums, added up over the accepted enters
  abbrev pub in_all : (MonthSums → ℕ) → History O S → ℕ
  in_all figure [] = 0
  in_all figure (entered sums ∷ h) = in_all figure h + figure sums
  in_all figure (_ ∷ h) = in_all figure h

  -- and over those not yet settled
  abbrev pub unsettled : (MonthSums → ℕ) → History O S → ℕ
  unsettled figure [] = 0
  unsettled figure (entered sums ∷ h) = unsettled figure h + figure sums
  unsettled figure (settled rule lines answer ∷ h) = 0
  unsettled figure (_ ∷ h) = unsettled figure h

  -- the month reached: that of the opening and one for each accepted turn
  abbrev pub reached : ℕ → History O S → ℕ
  reached m₀ [] = m₀
  reached m₀ (turned refunded lost ∷ h) = reached m₀ h + 1
  reached m₀ (_ ∷ h) = reached m₀ h

  -- the state of the month reached, by what was last accepted
  abbrev pub month_state : History O S → MonthState
  month_state [] = Waiting
  month_state (entered sums ∷ h) = Entered
  month_state (settled rule lines answer ∷ h) = Settled
  month_state (turned refunded lost ∷ h) = Waiting
  month_state (_ ∷ h) = month_state h

module _ {O A S Z T : Type 0} (works : Workings O A S Z T) where
  -- an account that was opened so has had the calls h and is at a
  abbrev pub Had : O → History O S → A → Type 0
  Had opening h a = histories.Had (machine works) opening h a
