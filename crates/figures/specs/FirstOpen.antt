-- A rule that keeps the law of rules for as many amounts as portions can be open, and for no more.
use Rattle.std.specs.Prelude.{◌≡◌, ℕ, ◌<◌, ◌≤◌, List, length, take}
use Rattle.std.proofs.Common.{ap}
use Rattle.std.proofs.lemmas.List.{take_all}
use Rattle.portions.specs.declared.TheConstants.{MOST_OPEN}
use Rattle.portions.specs.Taking.{oldest}

-- oldest first of the first amounts, as many as portions can be open; for those beyond it gives no taking
abbrev pub first_open : List ℕ → ℕ → List ℕ
first_open ls w = oldest (take MOST_OPEN ls) w

-- where there are more, it gives too few takings
abbrev pub UnlawfulBeyond : Type 0
UnlawfulBeyond = (ls : List ℕ) (w : ℕ) → MOST_OPEN < length ls → length (first_open ls w) < length ls

-- where there are not, it is oldest first
pub as_oldest : (ls : List ℕ) (w : ℕ) → length ls ≤ MOST_OPEN → first_open ls w ≡ oldest ls w
as_oldest ls w few = ap (λ xs. oldest xs w) (take_all MOST_OPEN ls few)
