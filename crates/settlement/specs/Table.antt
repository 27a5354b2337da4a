-- The course of an account's month: what may be called in which state, and what comes of it.
use Rattle.std.specs.Prelude.{ℕ, ◌%◌, Bool, true, false, cond, Some, None, Ok, Err, Option, Result, ok_or, ◌==◌}
use Rattle.faults.specs.declared.AccountFault.{AccountFault}
use Rattle.faults.specs.declared.AccountFault.TheVariants.{AlreadyEntered, NothingEntered, PeriodGoesOn, NotSettled, AlreadySettled, PeriodUnknown}
use Rattle.settlement.specs.declared.states.MonthState.{MonthState}
use Rattle.settlement.specs.declared.states.MonthState.TheVariants.{Waiting, Entered, Settled}
use Rattle.settlement.specs.declared.states.Call.{Call}
use Rattle.settlement.specs.declared.states.Call.TheVariants.{Enter, Settle, Turn}
use Rattle.settlement.specs.declared.states.Period.{Period}
use Rattle.settlement.specs.declared.states.Period.TheVariants.{Monthly, TwoMonthly, HalfYearly}

-- the period of so many months
abbrev pub period_of : ℕ → Option Period
period_of n = cond (n == 1) (Some Monthly) (cond (n == 2) (Some TwoMonthly) (cond (n == 6) (Some HalfYearly) None))

-- that period, or the refusal of a number of months that no period has
abbrev pub known_period : ℕ → Result Period AccountFault
known_period n = ok_or (period_of n) PeriodUnknown

-- whether a period ends with the month: with every month, with even calendar months, with June and December; month 0 is a January
abbrev pub ends : Period → ℕ → Bool
ends Monthly m = true
ends TwoMonthly m = m % 2 == 1
ends HalfYearly m = m % 6 == 5

-- the state after a call, or its refusal; the last argument is whether a period ends with the month
abbrev pub table : MonthState → Call → Bool → Result MonthState AccountFault
table Waiting Enter end = Ok Entered
table Waiting Settle end = Err NothingEntered
table Waiting Turn end = Err NothingEntered
table Entered Enter end = Err AlreadyEntered
table Entered Settle true = Ok Settled
table Entered Settle false = Err PeriodGoesOn
table Entered Turn true = Err NotSettled
table Entered Turn false = Ok Waiting
table Settled Enter end = Err AlreadyEntered
table Settled Settle end = Err AlreadySettled
table Settled Turn end = Ok Waiting
