-- Amounts of the code as a list.
use Rattle.std.specs.Prelude.{ℕ, List, take}
use Rattle.portions.specs.declared.amounts.Amounts.{Amounts}

-- the amounts, the first ones of the rows
abbrev pub listed : Amounts → List ℕ
listed a = take a.len a.rows
