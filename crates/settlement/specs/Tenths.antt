-- How many tenths of what is used are covered.
use Rattle.std.specs.Prelude.{◌≡◌, ◌≤◌}
use Rattle.settlement.specs.Metering.{MeterOpening, metering}
use Rattle.settlement.specs.Billing.{BillOpening, billing}

-- a metering account's tenths follow its power in W, and a billing account's are all ten
pub record GivesTenths : Type 0 where
  pub eight : (o : MeterOpening) → 1 ≤ o.power → o.power ≤ 10000 → metering.tenths o ≡ 8
  pub seven : (o : MeterOpening) → 10001 ≤ o.power → o.power ≤ 50000 → metering.tenths o ≡ 7
  pub ten : (o : BillOpening) → billing.tenths o ≡ 10
