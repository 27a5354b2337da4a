-- The making of a portion.
use Rattle.std.specs.Prelude.{ℕ, cond, Ok, Err, Result, nat_le}
use Rattle.faults.specs.declared.StoreFault.{StoreFault}
use Rattle.faults.specs.declared.StoreFault.TheVariants.{AmountTooLarge}
use Rattle.portions.specs.Portions.{Portion, fresh}

-- an answer, with what it holds read by f
abbrev pub answered : {S V E : Type 0} → (S → V) → Result S E → Result V E
answered f (Ok v) = Ok (f v)
answered f (Err e) = Err e

-- a portion of month m with amount a and terms t, refused only for an amount over 100,000,000
abbrev pub made : {T : Type 0} → ℕ → ℕ → T → Result (Portion T) StoreFault
made m a t = cond (nat_le a 100000000) (Ok (fresh m a t)) (Err AmountTooLarge)
