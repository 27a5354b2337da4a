-- How much can be pending in a zone.
use Rattle.std.specs.Prelude.{ℕ, ◌+◌, ◌*◌, ◌%◌}
use Rattle.settlement.specs.declared.states.MonthState.{MonthState}
use Rattle.settlement.specs.declared.states.MonthState.TheVariants.{Waiting, Entered, Settled}
use Rattle.settlement.specs.declared.states.Period.{Period}
use Rattle.settlement.specs.declared.states.Period.TheVariants.{Monthly, TwoMonthly, HalfYearly}

-- how many months of the period came before this one
abbrev pub months_before : Period → ℕ → ℕ
months_before Monthly m = 0
months_before TwoMonthly m = m % 2
months_before HalfYearly m = m % 6

-- how many months can be pending
abbrev pub pending_months : MonthState → Period → ℕ → ℕ
pending_months Waiting period m = months_before period m
pending_months Entered period m = months_before period m + 1
pending_months Settled period m = 0

-- a month brings at most 74,500,000 Wh
abbrev pub most_pending : MonthState → Period → ℕ → ℕ
most_pending state period m = 74500000 * pending_months state period m
