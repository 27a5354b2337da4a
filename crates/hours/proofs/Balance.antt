-- Import − export of an hour, split by its sign.
use Rattle.std.proofs.Common.{◌≡◌, ℕ, ◌-◌, ◌≤◌, ◌∙◌, arith}
use Rattle.std.proofs.lemmas.Int.{ints}
use Rattle.hours.specs.Balance.{balance, energy_given}

given_is : (i e : ℕ) → energy_given (balance i e) ≡ e - i
given_is i e = grind (arith, ints)

-- nothing is given where the export is not larger
pub none_given : (i e : ℕ) → e ≤ i → energy_given (balance i e) ≡ 0
none_given i e h = given_is i e ∙ omega arith
