-- Machines: by which fault a call is refused, what it answers otherwise, and what it makes of a state.
use Rattle.std.specs.Prelude.{Bool, cond, Some, None, Ok, Err, Option, Result}

-- a call asks for this first, or is refused by the fault, and then for the rest
abbrev pub asks : {F : Type 0} → Bool → F → Option F → Option F
asks holds fault rest = cond holds rest (Some fault)

-- the answer to a call that is refused by this fault, if by any, and otherwise answered with v
abbrev pub answers : {F V : Type 0} → Option F → V → Result V F
answers None v = Ok v
answers (Some fault) v = Err fault

-- a refused call leaves things as they are, and an accepted one makes others of them
abbrev pub becomes : {F X : Type 0} → Option F → X → X → X
becomes None new old = new
becomes (Some fault) new old = old

-- a machine: opened for O, it has the states S and the calls C, each answered by an Answer or refused by an F
pub record Machine (O C : Type 0) (Answer : C → Type 0) (S F : Type 0) : Type 1 where
  -- for what it may be opened, and the state right after that
  pub Opens : O → Type 0
  pub opening : O → S
  -- the calls that may be accepted later; an opening is none of them, since it begins anew
  pub Follows : C → Type 0
  -- by which fault a call is refused at a state, if by any
  pub refusal : C → S → Option F
  -- what it answers there otherwise, and which state it makes of that one
  pub answer : (call : C) → S → Answer call
  pub after : C → S → S

module _ {O C S F : Type 0} {Answer : C → Type 0} (machine : Machine O C Answer S F) where
  -- what a call gives at s
  abbrev pub gives : (call : C) → S → Result (Answer call) F
  gives call s = answers (machine.refusal call s) (machine.answer call s)

  -- where it leaves the machine
  abbrev pub leaves : C → S → S
  leaves call s = becomes (machine.refusal call s) (machine.after call s) s
