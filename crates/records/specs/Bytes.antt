-- Numbers of several bytes, the lowest byte first.
use Rattle.std.specs.Prelude.{ℕ, ◌+◌, ◌*◌, List, slice_index}

-- the number of two bytes
abbrev pub two : ℕ → ℕ → ℕ
two a b = a + b * 256

-- the number of four bytes
abbrev pub four : ℕ → ℕ → ℕ → ℕ → ℕ
four a b c d = a + b * 256 + c * 65536 + d * 16777216

-- the number of the two bytes from place i on
abbrev pub two_at : List ℕ → ℕ → ℕ
two_at bs i = two (slice_index bs i) (slice_index bs (i + 1))

-- the number of the four bytes from place i on
abbrev pub four_at : List ℕ → ℕ → ℕ
four_at bs i = four (slice_index bs i) (slice_index bs (i + 1)) (slice_index bs (i + 2)) (slice_index bs (i + 3))
