use Rattle.std.proofs.Common.{refl}
use Rattle.settlement.proofs.zones.Zones.map.Goals as goal

pub returns : goal.returns
returns g c = (
  record { shown = _; shows = refl; says = record { met = c.make.ensures } },
  record { shown = _; shows = refl; says = record { met = c.make-2.ensures } },
  record { shown = _; shows = refl; says = record { met = c.make-3.ensures } },
)
