-- Prices in bytes: four bytes each, a negative price as its two's complement.
use Rattle.std.specs.Prelude.{ℕ, List, [], ◌∷◌, ℤ}
use Rattle.std.specs.Int.{w32}
use Rattle.std.proofs.Common.{to_z}
use Rattle.records.specs.Bytes.{four_at}

-- the price of the four bytes from place i on
abbrev pub price_at : List ℕ → ℕ → ℤ
price_at bs i = to_z w32 (four_at bs i)

-- the prices of the bytes, as many as are whole
abbrev pub prices_read : List ℕ → List ℤ
prices_read [] = []
prices_read (a ∷ []) = []
prices_read (a ∷ b ∷ []) = []
prices_read (a ∷ b ∷ c ∷ []) = []
prices_read (a ∷ b ∷ c ∷ d ∷ rest) = price_at (a ∷ b ∷ c ∷ d ∷ []) 0 ∷ prices_read rest
