-- What becomes of zones when the thing of one is lent out to be changed.
use Rattle.std.specs.Borrow.{Lends, MutBor, Fml}
use denote.RattleType.{RattleType}
use Rattle.hours.specs.declared.zones.Zone.{Zone}
use Rattle.settlement.specs.declared.zones.Zones.{Zones}
use Rattle.settlement.specs.contracts.zones.Zones.{the_row}
use Rattle.settlement.specs.Zones.{put}

-- the zones end with the last value behind r in this zone
abbrev pub LendsZone : (T : RattleType) → MutBor (Zones T.Denot) → Zone → MutBor T.Denot → Fml
LendsZone T s zone r = Lends (the_row T) T s r (λ w. put zone w s.now)
