-- How a ledger is read off a store.
use Rattle.std.specs.Prelude.{map, Option, option_map}
use Rattle.portions.specs.Slots.{reads}
use Rattle.portions.specs.declared.Kind.{Ghosts}
use Rattle.store.specs.declared.Store.{Store}
use Rattle.store.specs.declared.totals.Totals.{Totals}
use Rattle.store.specs.Held.{held}
use Rattle.ledger.specs.Kinds.{Kind}
use Rattle.ledger.specs.Ledger.{Ledger}

-- a kind of the code, as plain data
abbrev pub kind_of : {K T : Type 0} → Ghosts K T → Kind T
kind_of k = record { life = k.LIFE; refund = k.refund }

-- what a store means: its open portions are those in the rows in use
abbrev pub ledger_of : {K T : Type 0} (k : Ghosts K T) → Store K T k → Ledger T
ledger_of k s = record {
  opened = s.opened;
  month = s.month;
  portions = map (reads k.term) (held s.rows);
  entered = s.totals.entered;
  used = s.totals.used;
  refunded = s.totals.refunded;
  lost = s.totals.lost;
}

-- the four totals of a ledger
abbrev pub ledger_totals : {T : Type 0} → Ledger T → Totals
ledger_totals l = record { entered = l.entered; used = l.used; refunded = l.refunded; lost = l.lost }

-- a portion that may be there, by what it means
abbrev pub told : {S V : Type 0} → (S → V) → Option S → Option V
told f portion = option_map f portion
