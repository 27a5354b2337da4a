-- What a call on an account does to the slots of its stores.
use Rattle.std.specs.Prelude.{◌≡◌, Bool, true}
use Rattle.portions.specs.declared.Kind.{Ghosts}
use Rattle.store.specs.declared.Store.{Store}
use Rattle.store.specs.Held.{lent, in_use}
use Rattle.store.specs.Slots.{Accounted}
use Rattle.settlement.specs.declared.zones.Zones.{Zones}
use Rattle.accounts.specs.Means.{EnergyStore}

-- every slot is as it was, and still the lender's
pub record SameSlots {K T : Type 0} {k : Ghosts K T} (s s' : Store K T k) : Type 0 where
  pub same : lent s' ≡ lent s
  pub lender : s'.rows.slots.ghost_name ≡ s.rows.slots.ghost_name

-- draws: every slot is accounted for, and the same ones are in use
pub record Drawn {K T : Type 0} {k : Ghosts K T} (s s' : Store K T k) : Type 0 where
  pub accounted : Accounted true s s'
  pub same_use : in_use s' ≡ in_use s

-- the slots of the three stores after an opening
abbrev pub EachSame : Zones EnergyStore → Zones EnergyStore → Type 0
EachSame s s' = SameSlots s.one s'.one × SameSlots s.two s'.two × SameSlots s.three s'.three

-- after any other call
abbrev pub EachAccounted : Bool → Zones EnergyStore → Zones EnergyStore → Type 0
EachAccounted accepted s s' = Accounted accepted s.one s'.one × Accounted accepted s.two s'.two × Accounted accepted s.three s'.three

-- and through a settlement
abbrev pub EachDrawn : Zones EnergyStore → Zones EnergyStore → Type 0
EachDrawn s s' = Drawn s.one s'.one × Drawn s.two s'.two × Drawn s.three s'.three
