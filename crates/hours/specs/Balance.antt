-- The balance of an hour.
use Rattle.std.specs.Prelude.{ℕ, suc, ℤ, pos, negsuc, ◌-ℤ◌}

-- import − export, in Wh: positive where the hour took energy from the grid, negative where it gave energy to it
abbrev pub balance : ℕ → ℕ → ℤ
balance i e = pos i -ℤ pos e

-- the energy taken: a positive balance
abbrev pub energy_taken : ℤ → ℕ
energy_taken (pos n) = n
energy_taken (negsuc n) = 0

-- the energy given: the size of a negative one
abbrev pub energy_given : ℤ → ℕ
energy_given (pos n) = 0
energy_given (negsuc n) = suc n
