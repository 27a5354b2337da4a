-- What the rows in use hold, number by number.
use Rattle.std.specs.Prelude.{◌≡◌, List, map, take}
use Rattle.portions.specs.declared.Slot.{Slot}
use Rattle.portions.specs.declared.Kind.{Ghosts}
use Rattle.portions.specs.Slots.{reads, row_of}
use Rattle.store.specs.declared.rows.Rows.{Rows}

module _ {K T : Type 0} where
  -- the slot that the portion in a row is kept as
  abbrev pub kept_anew : Ghosts K T → Slot → Slot
  kept_anew k row = row_of k.kept (reads k.term row)

  -- rows have just the numbers that their portions are kept as
  abbrev pub Exact : Ghosts K T → List Slot → Type 0
  Exact k rows = map (kept_anew k) rows ≡ rows

  -- so have the rows in use
  abbrev pub Clean : Ghosts K T → Rows → Type 0
  Clean k rows = Exact k (take rows.filled rows.slots.now)
