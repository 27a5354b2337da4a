-- What the draw rules take, place by place. Places count from 0, and past the last one stands 0.
use Rattle.std.specs.Prelude.{◌≡◌, ℕ, ◌+◌, ◌-◌, ◌*◌, ◌/◌, ◌<◌, min, List, length, take, slice_index}
use Rattle.portions.specs.Sums.{sum}
use Rattle.portions.specs.Taking.{oldest, proportional}

-- the first n amounts, summed
abbrev pub sum_of_first : ℕ → List ℕ → ℕ
sum_of_first n ls = sum (take n ls)

-- the smaller of wanted and the total, times the first n amounts, by the total, rounded down
abbrev pub share_of_first : ℕ → List ℕ → ℕ → ℕ
share_of_first n ls w = min w (sum ls) * sum_of_first n ls / sum ls

-- takings by age: one for each amount, the smaller of it and what the older ones have not served
pub record ByAge (ls : List ℕ) (w : ℕ) (ts : List ℕ) : Type 0 where
  pub sized : length ts ≡ length ls
  pub each : (j : ℕ) → slice_index ts j ≡ min (slice_index ls j) (w - sum_of_first j ls)

-- takings by share: one for each amount, the share of those up to it less that of those before it, and none where the total is 0
pub record ByShare (ls : List ℕ) (w : ℕ) (ts : List ℕ) : Type 0 where
  pub sized : length ts ≡ length ls
  pub each : 0 < sum ls → (j : ℕ) → slice_index ts j ≡ share_of_first (j + 1) ls w - share_of_first j ls w
  pub none : sum ls ≡ 0 → (j : ℕ) → slice_index ts j ≡ 0

-- oldest first takes by age, and nothing else does
abbrev pub OldestByPlace : Type 0
OldestByPlace = (ls : List ℕ) (w : ℕ) → ByAge ls w (oldest ls w) × ((ts : List ℕ) → ByAge ls w ts → ts ≡ oldest ls w)

-- proportional takes by share, and nothing else does
abbrev pub ProportionalByPlace : Type 0
ProportionalByPlace = (ls : List ℕ) (w : ℕ) → ByShare ls w (proportional ls w) × ((ts : List ℕ) → ByShare ls w ts → ts ≡ proportional ls w)
