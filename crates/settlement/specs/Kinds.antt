-- The two kinds of portion that accounts hold.
use Rattle.std.specs.Prelude.{ℕ, min}
use Rattle.ledger.specs.Kinds.{Kind}

-- energy: a life of 12 months, no terms and no refund
abbrev pub energy : Kind (Unit {0})
energy = record { life = 12; refund = λ p. 0 }

-- a deposit: a life of 12 months, and a refund up to the cap that is its terms
abbrev pub deposit : Kind ℕ
deposit = record { life = 12; refund = λ p. min p.terms p.left }
