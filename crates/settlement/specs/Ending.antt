-- How long the portions of accounts are open, and what becomes of what is left in one at its end.
use Rattle.std.specs.Prelude.{◌≡◌, ℕ, ◌+◌, ◌≤◌, ◌⊎◌}
use Rattle.portions.specs.Portions.{Portion}
use Rattle.ledger.specs.Kinds.{Kind, loss}
use Rattle.settlement.specs.Metering.{metering}
use Rattle.settlement.specs.Billing.{billing}

-- n is the smaller of a and b: at most both, and one of them
pub record Smaller (n a b : ℕ) : Type 0 where
  pub at_most_one : n ≤ a
  pub at_most_other : n ≤ b
  pub one_of_them : (n ≡ a) ⊎ (n ≡ b)

-- what is not refunded is lost
abbrev pub LosesRest : {T : Type 0} → Kind T → Type 0
LosesRest {T} kind = (p : Portion T) → kind.refund p + loss kind p ≡ p.left

-- the ends of energy and of deposits
pub record EndsPortions : Type 0 where
  -- the life of both is 12 months
  pub energy_life : metering.kind.life ≡ 12
  pub deposit_life : billing.kind.life ≡ 12
  -- nothing of energy is refunded, and of a deposit the smaller of its cap and what is left
  pub energy_refund : (p : Portion (Unit {0})) → metering.kind.refund p ≡ 0
  pub deposit_refund : (p : Portion ℕ) → Smaller (billing.kind.refund p) p.terms p.left
  pub energy_rest : LosesRest metering.kind
  pub deposit_rest : LosesRest billing.kind
