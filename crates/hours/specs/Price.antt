-- What a price source gives.
use Rattle.std.specs.Prelude.{ℕ, ◌<◌, Bool, true, false, ◌&&◌, List, length, ℤ, pos, negsuc, ◌≤ℤ◌, Some, None, Option, ◌≡◌, ◌==◌, nat_lt, slice_index_or, refl}
use Rattle.std.specs.Option.{option_map}
use Rattle.std.proofs.Common.{ap, ◌∙◌}

-- a price in gr per MWh, from −1,000,000 to 1,000,000
abbrev pub Priced : ℤ → Type 0
Priced z = (negsuc 999999 ≤ℤ z) × (z ≤ℤ pos 1000000)

-- every price of the list
abbrev pub AllPriced : List ℤ → Type 0
AllPriced prices = (k : ℕ) → k < length prices → Priced (slice_index_or prices k (pos 0))

-- an answer in range: a price, or none
abbrev pub Ranged : Option ℤ → Type 0
Ranged None = Unit {0}
Ranged (Some z) = Priced z

-- what asking makes of the lower of two sources: nothing where the upper one gave a price
abbrev pub unless_some : {A : Type 0} → Option ℤ → A → A → A
unless_some (Some z) a b = a
unless_some None a b = b

-- the answer of the source that is there, and none where there is no source
abbrev pub from_some : {A : Type 0} → (A → Option ℤ) → Option A → Option ℤ
from_some answer (Some a) = answer a
from_some answer None = None

-- a price where the test holds, else none
abbrev pub when : Bool → ℤ → Option ℤ
when true z = Some z
when false z = None

-- one price at every place of one month
abbrev pub month_gives : ℕ → ℤ → ℕ → ℕ → Option ℤ
month_gives month price m p = when (m == month) price

-- the prices of one month by their place, and none past the list's end
abbrev pub hour_gives : ℕ → List ℤ → ℕ → ℕ → Option ℤ
hour_gives month prices m p = when (m == month && nat_lt p (length prices)) (slice_index_or prices p (pos 0))

-- a negative price counts as 0
abbrev pub positive : ℤ → ℕ
positive (pos n) = n
positive (negsuc n) = 0

-- what an answer is worth for each Wh: none is worth nothing
abbrev pub worth : Option ℤ → ℕ
worth None = 0
worth (Some price) = positive price

-- a source over another is as it was where asking leaves each as it is
pub still_pair : {A B : Type 0} (a : A) (b : B) (a' : A) (b' : B) (g : Option ℤ) →
    a' ≡ a → b' ≡ b → ◌≡◌ {A = A × B} (a', unless_some g b b') (a, b)
still_pair a b a' b' (Some z) p q = ap (λ x. (x, b)) p
still_pair a b a' b' None p q = ap (λ x. (x, b')) p ∙ ap (λ y. (a, y)) q

-- so is one that may be missing
pub still_option : {A : Type 0} (f : A → A) → ((a : A) → f a ≡ a) → (o : Option A) → option_map f o ≡ o
still_option f e (Some a) = ap Some (e a)
still_option f e None = refl
