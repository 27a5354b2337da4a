-- Lists of a known length, by their elements.
use Rattle.std.proofs.Common.{◌≡◌, List, [], ◌∷◌, length, get_or, refl, arith}

-- a list of two
pub by_two : {X : Type 0} (xs : List X) (d : X) → length xs ≡ 2 → xs ≡ get_or xs 0 d ∷ get_or xs 1 d ∷ []
by_two [] d h = absurd (omega arith)
by_two (x ∷ []) d h = absurd (omega arith)
by_two (x ∷ y ∷ []) d h = refl
by_two (x ∷ y ∷ z ∷ rest) d h = absurd (omega arith)

-- a list of three
pub by_three : {X : Type 0} (xs : List X) (d : X) → length xs ≡ 3 → xs ≡ get_or xs 0 d ∷ get_or xs 1 d ∷ get_or xs 2 d ∷ []
by_three [] d h = absurd (omega arith)
by_three (x ∷ []) d h = absurd (omega arith)
by_three (x ∷ y ∷ []) d h = absurd (omega arith)
by_three (x ∷ y ∷ z ∷ []) d h = refl
by_three (x ∷ y ∷ z ∷ w ∷ rest) d h = absurd (omega arith)
