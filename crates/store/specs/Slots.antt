-- What the slots hold after a call.
use Rattle.std.specs.Prelude.{◌≡◌, Bool, cond, List, ◌++◌, map, length, drop}
use Rattle.portions.specs.declared.Slot.{Slot}
use Rattle.portions.specs.declared.Kind.{Ghosts}
use Rattle.portions.specs.Portions.{Portion}
use Rattle.portions.specs.Slots.{row_of}
use Rattle.store.specs.declared.Store.{Store}
use Rattle.store.specs.Held.{lent, room}
use Rattle.store.specs.Reading.{ledger_of}

-- the slots with these portions in the first of them: just the rows that they are kept as, and all others as they were
unfoldable pub kept_over : {K T : Type 0} → Ghosts K T → List (Portion T) → List Slot → List Slot
kept_over k portions slots = map (row_of k.kept) portions ++ drop (length portions) slots

-- every slot is accounted for, from the store s before a call to s' after it
pub record Accounted {K T : Type 0} {k : Ghosts K T} (accepted : Bool) (s s' : Store K T k) : Type 0 where
  -- those in use hold just the portions then told, and all others are as they were, those too that the call took out of use;
  -- a refused call leaves every slot as it was
  pub kept : lent s' ≡ cond accepted (kept_over k (ledger_of k s').portions (lent s)) (lent s)
  -- there are as many as before, and they are still the lender's
  pub same_room : room s' ≡ room s
  pub lender : s'.rows.slots.ghost_name ≡ s.rows.slots.ghost_name
