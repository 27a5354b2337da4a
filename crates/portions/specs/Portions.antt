-- Portions.
use Rattle.std.specs.Prelude.{ℕ, ◌-◌}

-- a portion: its month, the amount entered, the amount left and the terms of its kind
pub record Portion (T : Type 0) : Type 0 where
  pub month : ℕ
  pub entered : ℕ
  pub left : ℕ
  pub terms : T

-- a new portion has all of its amount left
abbrev pub fresh : {T : Type 0} → ℕ → ℕ → T → Portion T
fresh m a t = record { month = m; entered = a; left = a; terms = t }

-- a portion from which n was taken
abbrev pub less : {T : Type 0} → Portion T → ℕ → Portion T
less p n = record { month = p.month; entered = p.entered; left = p.left - n; terms = p.terms }
