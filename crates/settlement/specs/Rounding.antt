-- How money is rounded to whole grosz.
use Rattle.std.specs.Prelude.{ℕ, ◌+◌, ◌*◌, ◌<◌, ◌≤◌}
use Rattle.hours.specs.declared.sums.MonthSums.{MonthSums}
use Rattle.settlement.specs.Billing.{BillOpening, billing}

-- n is the whole number nearest to a / d, and the larger where two are: a / d is from a half below it to less than a
-- half above
pub record Nearest (n a d : ℕ) : Type 0 where
  pub from : 2 * (n * d) ≤ 2 * a + d
  pub below : 2 * a < 2 * (n * d) + d

-- n is the largest whole number that is at most a / d
pub record Largest (n a d : ℕ) : Type 0 where
  pub within : n * d ≤ a
  pub no_larger : (k : ℕ) → k * d ≤ a → k ≤ n

-- what a billing account makes of a month's sums, which are in millionths of a grosz
pub record RoundsMoney : Type 0 where
  -- the bill is nearest to the charge, and the deposit to the value by 1.23
  pub bill : (sums : MonthSums) → Nearest (billing.demand sums tt) sums.totals.charge 1000000
  pub deposit : (sums : MonthSums) → Nearest (billing.stored sums tt) (sums.totals.value * 123) (1000000 * 100)
  -- the cap of a refund is the largest within the percentage of the value
  pub cap : (o : BillOpening) (sums : MonthSums) →
      Largest (billing.terms o sums) (sums.totals.value * o.percentage) (1000000 * 100)
