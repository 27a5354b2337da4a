-- What a metering account of the code means.
use Rattle.std.specs.Prelude.{ℕ, List}
use Rattle.portions.specs.declared.Slot.{Slot}
use Rattle.store.specs.Held.{lent}
use Rattle.hours.specs.declared.zones.Zone.{Zone}
use Rattle.settlement.specs.declared.answers.Settlement.{Settlement}
use Rattle.settlement.specs.declared.zones.Zones.{Zones}
use Rattle.settlement.specs.Zones.{each}
use Rattle.settlement.specs.Metering.{MeterAccount, MeterOpening, Course, metering}
use Rattle.accounts.specs.declared.metering.Meters.{Meters}
use Rattle.accounts.specs.declared.metering.Metering.{Metering}
use Rattle.accounts.specs.Coefficients.{tenths}
use Rattle.accounts.specs.Means.{energies}
use Rattle.accounts.specs.Unopened.{Sort}

-- how far a settlement of these meters has come: what is pending is what is not covered yet
abbrev pub course : Meters → Course
course m = record { stores = each energies m.stores; rests = m.pending }

-- what it means, with its stores read as ledgers
abbrev pub metered : Metering → MeterAccount
metered m = record { opened = (energies m.meters.stores.one).opened; coefficient = tenths m.coefficient; period = m.period; state = m.state; pending = m.meters.pending; stores = each energies m.meters.stores }

-- what it is opened for
abbrev pub meter_opening : (slots month power months : ℕ) → MeterOpening
meter_opening slots month power months = record { slots = slots; month = month; power = power; months = months }

-- the sort of metering accounts, with the slots of each zone's store
abbrev pub meters : Sort Metering MeterOpening MeterAccount Settlement Zone (Unit {0}) (Zones (List Slot))
meters = record { works = metering; means = metered; lent = λ m. each lent m.meters.stores }
