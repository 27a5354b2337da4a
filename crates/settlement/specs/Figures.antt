-- Worked figures of accounts, settled oldest first, from the definitions themselves.
use Rattle.std.specs.Prelude.{◌≡◌, ℕ, true, Some, None, Option, option_map}
use Rattle.faults.specs.Numbers.{account_number}
use Rattle.portions.specs.Taking.{oldest}
use Rattle.ledger.specs.Rules.{Rule}
use Rattle.ledger.specs.Ledger as ledger
use Rattle.ledger.specs.Ledger.{Ledger, left_in}
use Rattle.ledger.specs.Steps.{entering}
use Rattle.settlement.specs.declared.states.MonthState.TheVariants.{Entered}
use Rattle.settlement.specs.declared.states.Period.TheVariants.{Monthly}
use Rattle.settlement.specs.declared.zones.Zones.{Zones}
use Rattle.settlement.specs.Zones.{each}
use Rattle.settlement.specs.Billing.{billing, deposit_for, cap_for, bill_for}
use Rattle.settlement.specs.Metering.{MeterAccount, metering, coefficient_for, wanted, covered, settlement, settling_meter}

-- oldest first, as a rule
abbrev pub oldest_first : Rule
oldest_first month lefts wanted = oldest lefts wanted

-- a number for each zone
abbrev pub zoned : ℕ → ℕ → ℕ → Zones ℕ
zoned a b c = record { one = a; two = b; three = c }

-- an account in month 97 that covers so many tenths, with imports pending and exports stored
abbrev pub with_sums : ℕ → Zones ℕ → Zones ℕ → MeterAccount
with_sums tenths imports exports = record {
  opened = true;
  coefficient = tenths;
  period = Monthly;
  state = Entered;
  pending = imports;
  stores = each (λ export. entering export tt (ledger.opening 97)) exports;
}

-- what the settlement of one leaves due in each zone
abbrev pub due_of : MeterAccount → Zones ℕ
due_of a = (settlement oldest_first a).due

-- what it covers in each zone
abbrev pub covered_of : MeterAccount → Zones ℕ
covered_of a = (settlement oldest_first a).covered

-- what it uses from each store
abbrev pub used_of : MeterAccount → Zones ℕ
used_of a = each (λ s. s.used) (settling_meter oldest_first a).stores

-- and what it leaves in each store
abbrev pub left_of : MeterAccount → Zones ℕ
left_of a = each (λ s. left_in s.portions) (settling_meter oldest_first a).stores

-- what the turn from a later month loses of it
abbrev pub lost_from : ℕ → MeterAccount → ℕ
lost_from m a =
    metering.losses (record a { stores = each (λ (s : Ledger (Unit {0})). record s { month = m }) a.stores })

-- the number by which the opening of a metering account is refused, if it is
abbrev pub meter_barred : (slots month power months : ℕ) → Option ℕ
meter_barred slots month power months =
    option_map account_number
    (metering.open_refusal (record { slots = slots; month = month; power = power; months = months }))

-- and that of a billing account
abbrev pub bill_barred : (slots month percentage : ℕ) → Option ℕ
bill_barred slots month percentage =
    option_map account_number (billing.open_refusal (record { slots = slots; month = month; percentage = percentage }))

-- openings at each bound, and one past it
pub record Openings : Type 0 where
  pub first_month : meter_barred 13 47 1 1 ≡ None
  pub last_month : meter_barred 13 1199 10000 2 ≡ None
  pub most_power : meter_barred 13 47 50000 6 ≡ None
  pub few_slots : meter_barred 12 47 1 1 ≡ Some 1
  pub early : meter_barred 13 46 1 1 ≡ Some 2
  pub late : meter_barred 13 1200 1 1 ≡ Some 2
  pub no_power : meter_barred 13 47 0 1 ≡ Some 21
  pub much_power : meter_barred 13 47 50001 1 ≡ Some 21
  pub no_months : meter_barred 13 47 1 0 ≡ Some 22
  pub three_months : meter_barred 13 47 1 3 ≡ Some 22
  -- up to 10,000 W eight tenths are covered, and seven above
  pub tenths_at_10000 : coefficient_for 10000 ≡ 8
  pub tenths_at_10001 : coefficient_for 10001 ≡ 7
  pub no_percentage : bill_barred 13 47 0 ≡ None
  pub whole_percentage : bill_barred 13 1199 100 ≡ None
  pub billed_few_slots : bill_barred 12 47 0 ≡ Some 1
  pub billed_early : bill_barred 13 46 0 ≡ Some 2
  pub billed_late : bill_barred 13 1200 0 ≡ Some 2
  pub much_percentage : bill_barred 13 47 101 ≡ Some 23

-- what settlements use, cover and leave, what a turn loses, and what is deposited and billed
pub record Figures : Type 0 where
  -- imports 200,000 and 300,000, exports 600,000 and 100,000: left 75,000 and 0
  pub left_of_two : left_of (with_sums 8 (zoned 200000 300000 0) (zoned 600000 100000 0)) ≡ zoned 75000 0 0
  -- import 2,006,000, stored 2,461,000: due 37,200
  pub due_of_a_year : due_of (with_sums 8 (zoned 2006000 0 0) (zoned 2461000 0 0)) ≡ zoned 37200 0 0
  -- c = 7, import 1,000: 1,429 wanted, 1,000 covered
  pub wanted_for_1000 : wanted 7 1000 ≡ 1429
  pub covered_by_1429 : covered 7 1000 1429 ≡ 1000
  -- c = 7, import 1,000, stored 999: covered 699, due 301
  pub covered_by_999 : covered_of (with_sums 7 (zoned 1000 0 0) (zoned 999 0 0)) ≡ zoned 699 0 0
  pub due_after_999 : due_of (with_sums 7 (zoned 1000 0 0) (zoned 999 0 0)) ≡ zoned 301 0 0
  -- import 1, left 1: used 1, covered 0, due 1
  pub used_for_1 : used_of (with_sums 8 (zoned 1 0 0) (zoned 1 0 0)) ≡ zoned 1 0 0
  pub covered_of_1 : covered_of (with_sums 8 (zoned 1 0 0) (zoned 1 0 0)) ≡ zoned 0 0 0
  pub due_of_1 : due_of (with_sums 8 (zoned 1 0 0) (zoned 1 0 0)) ≡ zoned 1 0 0
  -- imports 400 and 800 with 900 in zone 3: zone 1 is covered by 500, and zone 2 gets the other 400, which cover 320
  pub due_of_zones_in_need : due_of (with_sums 8 (zoned 400 800 0) (zoned 0 0 900)) ≡ zoned 0 480 0
  -- import 800 in zone 3, with 300, 900 and 100 stored: 100 and 300 cover 320 of it, and 600 of zone 2 the rest
  pub left_by_zone_in_need : left_of (with_sums 8 (zoned 0 0 800) (zoned 300 900 100)) ≡ zoned 0 300 0
  -- 500 and 70 of month 97 in the zones 1 and 3: lost with the turn from month 109, and not before
  pub kept_by_108 : lost_from 108 (with_sums 8 (zoned 0 0 0) (zoned 500 0 70)) ≡ 0
  pub lost_by_109 : lost_from 109 (with_sums 8 (zoned 0 0 0) (zoned 500 0 70)) ≡ 570
  -- a value of 30,000,000,000: deposit 36,900, and its cap at 20 percent 6,000
  pub deposit_for_300_zloty : deposit_for 30000000000 ≡ 36900
  pub cap_at_20_percent : cap_for 20 30000000000 ≡ 6000
  -- 61.5 grosz are rounded up, and what is less down; and so are 1.5
  pub deposit_at_a_half : deposit_for 50000000 ≡ 62
  pub deposit_below_a_half : deposit_for 49999999 ≡ 61
  pub bill_at_a_half : bill_for 1500000 ≡ 2
  pub bill_below_a_half : bill_for 1499999 ≡ 1
  -- a cap is always rounded down
  pub cap_below_2 : cap_for 100 1999999 ≡ 1
  pub openings : Openings
