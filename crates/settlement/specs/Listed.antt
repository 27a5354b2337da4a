-- The zones of an account are listed, each once, and named as the tariff does.
use Rattle.std.specs.Prelude.{◌≡◌, [], ◌∷◌, map, Contains, Some, None}
use Rattle.hours.specs.declared.zones.Zone.{Zone}
use Rattle.hours.specs.Zones.{zone_number}
use Rattle.portions.specs.Sums.{total}
use Rattle.settlement.specs.Accounts.{Workings}
use Rattle.settlement.specs.Coverings.{counted_for}
use Rattle.settlement.specs.Metering.{metering}
use Rattle.settlement.specs.Billing.{billing}

-- what holds of the zones of a sort of account
pub record ListsZones {O A S Z T : Type 0} (works : Workings O A S Z T) : Type 0 where
  -- zones that have one place are one
  pub placed : (y z : Z) → works.place y ≡ works.place z → y ≡ z
  -- each is in the list, and only once
  pub listed : (z : Z) → Contains works.zones z
  pub once : (z : Z) → total (λ k. counted_for works z k 1) works.zones ≡ 1

-- a metering account's zones have their numbers for places, are listed in their order, and mark their lines; a deposit's line has
-- no zone
pub record NamesZones : Type 0 where
  pub place : (z : Zone) → metering.place z ≡ zone_number z
  pub order : map metering.place metering.zones ≡ 1 ∷ 2 ∷ 3 ∷ []
  pub mark : (z : Zone) → metering.mark z ≡ Some z
  pub no_mark : billing.mark tt ≡ None
