-- For how many lines the settlements of accounts ask.
use Rattle.std.specs.Prelude.{◌≡◌, ◌+◌, ◌*◌, length}
use Rattle.settlement.specs.Accounts.{Workings}
use Rattle.settlement.specs.Metering.{metering}
use Rattle.settlement.specs.Billing.{billing}

-- a store holds a portion of its month and one of each month of a life, and each store may be full
abbrev pub RoomForAll : {O A S Z T : Type 0} → Workings O A S Z T → Type 0
RoomForAll works = works.fewest_lines ≡ length works.zones * (works.kind.life + 1)

-- a metering account asks for 39 lines and a billing account for 13
pub record AsksForLines : Type 0 where
  pub metered : metering.fewest_lines ≡ 39
  pub billed : billing.fewest_lines ≡ 13
  pub metered_room : RoomForAll metering
  pub billed_room : RoomForAll billing
