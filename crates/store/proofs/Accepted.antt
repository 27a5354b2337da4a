-- A call that was accepted was refused by nothing.
use Rattle.std.proofs.Common.{◌≡◌, ℕ, Some, None, Ok, Option, refl, arith}
use Rattle.faults.specs.declared.StoreFault.{StoreFault}
use Rattle.histories.specs.Machines.{answers}

pub accepted : {V : Type 0} (o : Option StoreFault) (v w : V) → Ok w ≡ answers o v → o ≡ None
accepted None v w e = refl
accepted (Some other) v w e = let z : ◌≡◌ {A = ℕ} 0 1 = cc in absurd (omega arith)

pub given : {V : Type 0} (o : Option StoreFault) (v w : V) → Ok w ≡ answers o v → w ≡ v
given None v w e = cc
given (Some other) v w e = let z : ◌≡◌ {A = ℕ} 0 1 = cc in absurd (omega arith)
