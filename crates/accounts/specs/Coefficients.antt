-- What the coefficients of the code mean.
use Rattle.std.specs.Prelude.{ℕ}
use Rattle.accounts.specs.declared.metering.coefficient.Coefficient.{Coefficient}
use Rattle.accounts.specs.declared.metering.coefficient.Coefficient.TheVariants.{Seven, Eight}

-- how many tenths one is
abbrev pub tenths : Coefficient → ℕ
tenths Seven = 7
tenths Eight = 8
