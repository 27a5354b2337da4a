-- How much a month's sums can bring.
use Rattle.std.proofs.Common.{◌≡◌, ℕ, ◌≤◌, List, length, sum, arith}
use Rattle.std.proofs.lemmas.List.Sums.{get_or-le-sum_by}
use Rattle.hours.specs.declared.sums.MonthSums.{MonthSums}
use Rattle.hours.specs.declared.zones.Zone.{Zone}
use Rattle.hours.specs.declared.zones.Zone.TheVariants.{First, Second, Third}
use Rattle.settlement.specs.Zones.{of}
use Rattle.settlement.specs.Metering.{split_by_zone}
use Rattle.settlement.specs.Billing.{month_deposit, month_bill}

abbrev pub import_of : Zone → MonthSums → ℕ
import_of z sums = of z (split_by_zone sums.totals.import)

abbrev pub export_of : Zone → MonthSums → ℕ
export_of z sums = of z (split_by_zone sums.totals.export)

-- an energy of a zone is at most that of all
in_one_zone : (xs : List ℕ) → length xs ≡ 3 → (z : Zone) → of z (split_by_zone xs) ≤ sum xs
in_one_zone xs long First = get_or-le-sum_by (λ x. x) xs 0 0 (omega (arith, long))
in_one_zone xs long Second = get_or-le-sum_by (λ x. x) xs 1 0 (omega (arith, long))
in_one_zone xs long Third = get_or-le-sum_by (λ x. x) xs 2 0 (omega (arith, long))

pub import_small : (z : Zone) (sums : MonthSums) → import_of z sums ≤ 74500000
import_small z sums = omega (arith, sums.energy, in_one_zone sums.totals.import sums.zoned.0 z)

pub export_small : (z : Zone) (sums : MonthSums) → export_of z sums ≤ 74500000
export_small z sums = omega (arith, sums.energy, in_one_zone sums.totals.export sums.zoned.1 z)

pub deposit_small : (sums : MonthSums) → month_deposit sums ≤ 100000000
deposit_small sums = omega (arith, sums.valued)

pub bill_small : (sums : MonthSums) → month_bill sums ≤ 74500000
bill_small sums = omega (arith, sums.charged)
