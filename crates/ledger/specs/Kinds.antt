-- Kinds of portion, by what they say alone, and the law that they keep.
use Rattle.std.specs.Prelude.{ℕ, ◌-◌, ◌≤◌}
use Rattle.portions.specs.Portions.{Portion}

-- a kind: how many months after its own a portion is open, and how much of what is left at its end is refunded
pub record Kind (T : Type 0) : Type 0 where
  pub life : ℕ
  pub refund : Portion T → ℕ

-- the rest of what is left at a portion's end is lost
abbrev pub loss : {T : Type 0} → Kind T → Portion T → ℕ
loss kind p = p.left - kind.refund p

-- the law of kinds: a life from 1 to 15 months, and no more refunded than is left
pub record LawfulKind {T : Type 0} (kind : Kind T) : Type 0 where
  pub life_from : 1 ≤ kind.life
  pub life_to : kind.life ≤ 15
  pub refund_within : (p : Portion T) → kind.refund p ≤ p.left
