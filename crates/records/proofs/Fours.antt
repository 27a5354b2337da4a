-- Lists of prices, read four bytes at a time.
use Rattle.std.proofs.Common.{◌≡◌, ℕ, zero, suc, ◌-◌, ◌*◌, ◌/◌, List, [], ◌∷◌, ◌++◌, length, map, refl, ap, arith}
use Rattle.std.specs.Simd.{first_chunks}
use Rattle.records.specs.Prices.{price_at, prices_read}

-- the prices of the whole fours are the prices of the bytes
pub fours_read : (k : ℕ) (bs : List ℕ) → k ≡ length bs / 4 → map (λ four. price_at four 0) (first_chunks 4 k bs) ≡ prices_read bs
fours_read zero [] h = refl
fours_read zero (a ∷ []) h = refl
fours_read zero (a ∷ b ∷ []) h = refl
fours_read zero (a ∷ b ∷ c ∷ []) h = refl
fours_read zero (a ∷ b ∷ c ∷ d ∷ rest) h = absurd (omega arith)
fours_read (suc k) [] h = absurd (omega arith)
fours_read (suc k) (a ∷ []) h = absurd (omega arith)
fours_read (suc k) (a ∷ b ∷ []) h = absurd (omega arith)
fours_read (suc k) (a ∷ b ∷ c ∷ []) h = absurd (omega arith)
fours_read (suc k) (a ∷ b ∷ c ∷ d ∷ rest) h = ap (λ t. price_at (a ∷ b ∷ c ∷ d ∷ []) 0 ∷ t) (fours_read k rest (omega arith))

-- after whole prices, further bytes are further prices
pub prices_append : (p q : List ℕ) (i : ℕ) → length p ≡ 4 * i → prices_read (p ++ q) ≡ prices_read p ++ prices_read q
prices_append [] q i h = refl
prices_append (a ∷ []) q i h = absurd (omega arith)
prices_append (a ∷ b ∷ []) q i h = absurd (omega arith)
prices_append (a ∷ b ∷ c ∷ []) q i h = absurd (omega arith)
prices_append (a ∷ b ∷ c ∷ d ∷ p) q i h = ap (λ t. price_at (a ∷ b ∷ c ∷ d ∷ []) 0 ∷ t) (prices_append p q (i - 1) (omega arith))
