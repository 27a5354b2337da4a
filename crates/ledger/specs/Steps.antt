-- What an accepted call answers and makes of a ledger.
use Rattle.std.specs.Prelude.{ℕ, ◌+◌, ◌≤◌, Bool, true, not, List, [], ◌∷◌, ◌++◌, filter, nat_lt}
use Rattle.faults.specs.declared.StoreFault.{StoreFault}
use Rattle.histories.specs.Machines.{Machine}
use Rattle.portions.specs.Sums.{total, sum}
use Rattle.portions.specs.Portions.{Portion, fresh, less}
use Rattle.ledger.specs.Kinds.{Kind, loss}
use Rattle.ledger.specs.Rules.{Rule}
use Rattle.ledger.specs.Ledger.{Ledger, opening, lefts}
use Rattle.ledger.specs.Calls.{Call, Answer, Follows, refusal}
use Rattle.ledger.specs.Calls.Call.{open_for, enter, draw, turn}

module _ {T : Type 0} where
  -- after an accepted enter: one more portion, of the current month, stands last
  abbrev pub entering : ℕ → T → Ledger T → Ledger T
  entering amount terms s = record {
    opened = true;
    month = s.month;
    portions = s.portions ++ (fresh s.month amount terms ∷ []);
    entered = s.entered + amount;
    used = s.used;
    refunded = s.refunded;
    lost = s.lost;
  }

  -- each portion less its taking
  abbrev pub taking : List ℕ → List (Portion T) → List (Portion T)
  taking [] ps = ps
  taking (x ∷ xs) [] = []
  taking (x ∷ xs) (p ∷ ps) = less p x ∷ taking xs ps

  -- what a rule gives in a draw
  abbrev pub takings : Rule → ℕ → Ledger T → List ℕ
  takings rule wanted s = rule s.month (lefts s) wanted

  -- after an accepted draw with these takings
  abbrev pub drawing : List ℕ → Ledger T → Ledger T
  drawing xs s = record {
    opened = true;
    month = s.month;
    portions = taking xs s.portions;
    entered = s.entered;
    used = s.used + sum xs;
    refunded = s.refunded;
    lost = s.lost;
  }

  -- whether a portion has ended by month m
  abbrev pub ends_by : ℕ → ℕ → Portion T → Bool
  ends_by life m p = nat_lt (p.month + life) m

  -- whether it has not
  abbrev pub stays_in : ℕ → ℕ → Portion T → Bool
  stays_in life m p = not (ends_by life m p)

  -- the portions that the turn to the next month ends
  abbrev pub ending : Kind T → Ledger T → List (Portion T)
  ending kind s = filter (ends_by kind.life (s.month + 1)) s.portions

  -- their refunds, summed
  abbrev pub refunds : Kind T → Ledger T → ℕ
  refunds kind s = total kind.refund (ending kind s)

  -- their losses, summed
  abbrev pub losses : Kind T → Ledger T → ℕ
  losses kind s = total (loss kind) (ending kind s)

  -- after an accepted turn
  abbrev pub turning : Kind T → Ledger T → Ledger T
  turning kind s = record {
    opened = true;
    month = s.month + 1;
    portions = filter (stays_in kind.life (s.month + 1)) s.portions;
    entered = s.entered;
    used = s.used;
    refunded = s.refunded + refunds kind s;
    lost = s.lost + losses kind s;
  }

  -- what a call answers where it is accepted
  abbrev pub answer : Kind T → (call : Call T) → Ledger T → Answer call
  answer kind (draw d) s = sum (takings d.rule d.wanted s)
  answer kind turn s = (refunds kind s, losses kind s)
  answer kind _ s = tt

  -- and what it makes of the ledger
  abbrev pub after : Kind T → Call T → Ledger T → Ledger T
  after kind (open_for slots month) s = opening month
  after kind (enter amount terms) s = entering amount terms s
  after kind (draw d) s = drawing (takings d.rule d.wanted s) s
  after kind turn s = turning kind s

  -- a store of this kind, opened for a month, as a machine
  abbrev pub machine : Kind T → Machine ℕ (Call T) Answer (Ledger T) StoreFault
  machine kind = record {
    Opens = λ m. (47 ≤ m) × (m ≤ 1199);
    opening = opening;
    Follows = Follows;
    refusal = refusal kind;
    answer = answer kind;
    after = after kind;
  }
