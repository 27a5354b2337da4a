-- Histories: the list of calls on one store since its opening, refused ones among them, each with its arguments and answer.
use Rattle.std.specs.Prelude.{ℕ, ◌+◌, List, [], ◌∷◌}
use Rattle.faults.specs.declared.StoreFault.{StoreFault}
use Rattle.histories.specs.Histories as histories
use Rattle.histories.specs.Histories.Event.{did}
use Rattle.ledger.specs.Kinds.{Kind}
use Rattle.ledger.specs.Rules.{Draw}
use Rattle.ledger.specs.Ledger.{Ledger}
use Rattle.ledger.specs.Calls.{Call, Answer}
use Rattle.ledger.specs.Calls.Call.{enter, draw, turn}
use Rattle.ledger.specs.Steps.{machine}

-- a call with its arguments and its answer
abbrev pub Event : Type 0 → Type 0
Event T = histories.Event (Call T) Answer StoreFault

-- the calls, the newest first
abbrev pub History : Type 0 → Type 0
History T = List (Event T)

module _ {T : Type 0} where
  -- an accepted call: an enter of an amount on terms
  pattern abbrev pub entered : ℕ → T → Event T
  entered amount terms = did (enter amount terms) tt

  -- a draw that answered what it took
  pattern abbrev pub drew : Draw → ℕ → Event T
  drew d answer = did (draw d) answer

  -- a turn that answered what it refunded and lost
  pattern abbrev pub turned : ℕ → ℕ → Event T
  turned refunded lost = did turn (refunded, lost)

  -- a store of this kind, opened for month m₀, has had the calls h and is at s
  abbrev pub Had : Kind T → ℕ → History T → Ledger T → Type 0
  Had kind m₀ h s = histories.Had (machine kind) m₀ h s

  -- where the calls h bring it
  abbrev pub at : Kind T → ℕ → History T → Ledger T
  at kind m₀ h = histories.brought (machine kind) m₀ h

  -- the month reached: that of the opening and one for each accepted turn
  abbrev pub reached : ℕ → History T → ℕ
  reached m₀ [] = m₀
  reached m₀ (turned refunded lost ∷ h) = reached m₀ h + 1
  reached m₀ (_ ∷ h) = reached m₀ h
