-- What the draw rules take.
use Rattle.std.specs.Prelude.{ℕ, ◌+◌, ◌-◌, ◌*◌, ◌/◌, min, max, List, [], ◌∷◌}
use Rattle.portions.specs.Sums.{sum}

-- oldest first: from each amount the smaller of it and what the older ones have not served
abbrev pub oldest : List ℕ → ℕ → List ℕ
oldest [] w = []
oldest (a ∷ ls) w = min w a ∷ oldest ls (w - a)

-- shares of w in proportion to the amounts, of which t is the total and `before` the sum of those that went before:
-- w × S / t rounded down, with S the sum up to an amount, less the same for the sum before it
abbrev pub shares : ℕ → ℕ → ℕ → List ℕ → List ℕ
shares w t before [] = []
shares w t before (a ∷ ls) = (w * (before + a) / t - w * before / t) ∷ shares w t (before + a) ls

-- proportional: shares of the smaller of wanted and the total; with a total of 0 nothing is taken, so any divisor but 0 does
abbrev pub proportional : List ℕ → ℕ → List ℕ
proportional ls w = shares (min w (sum ls)) (max 1 (sum ls)) 0 ls
