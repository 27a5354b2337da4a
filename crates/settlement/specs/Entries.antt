-- What a metering account takes of a month's sums.
use Rattle.std.specs.Prelude.{◌≡◌, ◌-◌, slice_index}
use Rattle.hours.specs.declared.sums.MonthSums.{MonthSums}
use Rattle.hours.specs.declared.zones.Zone.{Zone}
use Rattle.hours.specs.Zones.{zone_number}
use Rattle.settlement.specs.Metering.{metering}

-- each zone's export is stored and its import pends; the sums list both by the number of the zone, from 1
pub record TakesByZone : Type 0 where
  pub stored : (sums : MonthSums) (z : Zone) →
      metering.stored sums z ≡ slice_index sums.totals.export (zone_number z - 1)
  pub pending : (sums : MonthSums) (z : Zone) →
      metering.demand sums z ≡ slice_index sums.totals.import (zone_number z - 1)
