-- The slots of a store, and those in use.
use Rattle.std.specs.Prelude.{ℕ, List, length, take}
use Rattle.portions.specs.declared.Slot.{Slot}
use Rattle.portions.specs.declared.Kind.{Ghosts}
use Rattle.store.specs.declared.rows.Rows.{Rows}
use Rattle.store.specs.declared.Store.{Store}

-- the rows in use: one for each open portion, oldest first
abbrev pub held : Rows → List Slot
held r = take r.filled r.slots.now

module _ {K T : Type 0} {k : Ghosts K T} where
  -- what the lent slots hold
  abbrev pub lent : Store K T k → List Slot
  lent s = s.rows.slots.now

  -- how many slots there are
  abbrev pub room : Store K T k → ℕ
  room s = length (lent s)

  -- how many are in use, the first ones
  abbrev pub in_use : Store K T k → ℕ
  in_use s = s.rows.filled
