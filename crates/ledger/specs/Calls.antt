-- The calls on a store, what each answers, and by which fault it is refused.
use Rattle.std.specs.Prelude.{ℕ, not, None, Option, nat_le, nat_lt}
use Rattle.faults.specs.declared.StoreFault.{StoreFault}
use Rattle.faults.specs.declared.StoreFault.TheVariants.{TooFewSlots, NotOpen, MonthOutOfRange, AmountTooLarge, MonthTaken, WantedTooLarge, LastMonth}
use Rattle.histories.specs.Machines.{asks}
use Rattle.ledger.specs.Kinds.{Kind}
use Rattle.ledger.specs.Rules.{Draw, LawfulRule}
use Rattle.ledger.specs.Ledger.{Ledger, has}

-- a call with its arguments; an opening is of a store that has so many slots
pub data Call (T : Type 0) : Type 0 where
  open_for : (slots : ℕ) (month : ℕ) → Call T
  enter : (amount : ℕ) (terms : T) → Call T
  draw : (asked : Draw) → Call T
  turn : Call T

module _ {T : Type 0} where
  -- what an accepted call answers
  abbrev pub Answer : Call T → Type 0
  Answer (draw d) = ℕ
  Answer turn = ℕ × ℕ
  Answer _ = Unit {0}

  -- the calls that may be accepted after an opening: any with lawful rules, but no further opening
  abbrev pub Follows : Call T → Type 0
  Follows (open_for slots month) = ⊥
  Follows (draw d) = LawfulRule d.rule
  Follows _ = Unit {0}

  -- an opening asks for a slot more than the life has months, and for a month from 47 to 1,199
  abbrev pub open_refusal : Kind T → ℕ → ℕ → Option StoreFault
  open_refusal kind slots month = asks (nat_lt kind.life slots) TooFewSlots (asks (nat_le 47 month) MonthOutOfRange (asks (nat_le month 1199) MonthOutOfRange None))

  -- an enter asks for an open store, an amount of at most 100,000,000 and a month that has no portion yet
  abbrev pub enter_refusal : ℕ → Ledger T → Option StoreFault
  enter_refusal amount s = asks s.opened NotOpen (asks (nat_le amount 100000000) AmountTooLarge (asks (not (has s.month s.portions)) MonthTaken None))

  -- a draw asks for an open store and an amount wanted of at most 1,000,000,000
  abbrev pub draw_refusal : ℕ → Ledger T → Option StoreFault
  draw_refusal wanted s = asks s.opened NotOpen (asks (nat_le wanted 1000000000) WantedTooLarge None)

  -- a turn asks for an open store and a month before 1,199
  abbrev pub turn_refusal : Ledger T → Option StoreFault
  turn_refusal s = asks s.opened NotOpen (asks (nat_lt s.month 1199) LastMonth None)

  -- the fault by which a call is refused, if it is; the smallest number comes first
  abbrev pub refusal : Kind T → Call T → Ledger T → Option StoreFault
  refusal kind (open_for slots month) s = open_refusal kind slots month
  refusal kind (enter amount terms) s = enter_refusal amount s
  refusal kind (draw d) s = draw_refusal d.wanted s
  refusal kind turn s = turn_refusal s
