-- By which fault a call on an account is refused, from where it stands.
use Rattle.std.specs.Prelude.{ℕ, None, Option, ◌==◌, nat_le, nat_lt}
use Rattle.std.specs.Option.{option_or}
use Rattle.std.specs.Result.{result_err}
use Rattle.faults.specs.declared.AccountFault.{AccountFault}
use Rattle.faults.specs.declared.AccountFault.TheVariants.{InStore, NotOpen, OtherMonth, TooFewLines}
use Rattle.faults.specs.declared.StoreFault.{StoreFault}
use Rattle.faults.specs.declared.StoreFault.TheVariants as store
use Rattle.faults.specs.declared.StoreFault.TheVariants.{LastMonth}
use Rattle.histories.specs.Machines.{asks}
use Rattle.settlement.specs.declared.standing.Standing.{Standing}
use Rattle.settlement.specs.declared.states.Call.{Call}
use Rattle.settlement.specs.declared.states.Call.TheVariants.{Enter, Settle, Turn}
use Rattle.settlement.specs.Table.{table}

-- the refusal that the state table has for a call, if it has one
abbrev pub by_table : Standing → Call → Option AccountFault
by_table s call = result_err (table s.state call s.ends)

-- an enter asks for an open account, sums of its month, and what the table asks
abbrev pub enter_refusal : Standing → ℕ → Option AccountFault
enter_refusal s month = asks s.opened NotOpen (asks (month == s.month) OtherMonth (by_table s Enter))

-- a settlement asks for an open account, what the table asks, and room for its lines
abbrev pub settle_refusal : Standing → ℕ → ℕ → Option AccountFault
settle_refusal s fewest lines = asks s.opened NotOpen (option_or (by_table s Settle) (asks (nat_le fewest lines) TooFewLines None))

-- each store of an account asks of a turn that it is open, and for a month before 1,199
abbrev pub stores_turn_refusal : Standing → Option StoreFault
stores_turn_refusal s = asks s.opened store.NotOpen (asks (nat_lt s.month 1199) LastMonth None)

-- a turn asks for an open account, a month before 1,199, and what the table asks
abbrev pub turn_refusal : Standing → Option AccountFault
turn_refusal s = asks s.opened NotOpen (asks (nat_lt s.month 1199) (InStore LastMonth) (by_table s Turn))
