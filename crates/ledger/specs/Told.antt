-- Which portions a store tells: those that were entered and are not past their life.
use Rattle.std.specs.Prelude.{◌≡◌, ℕ, ◌+◌, ◌≤◌, ◌⊎◌, List, [], ◌∷◌}
use Rattle.portions.specs.Portions.{Portion}
use Rattle.ledger.specs.Kinds.{Kind}
use Rattle.ledger.specs.Ledger.{Ledger}
use Rattle.ledger.specs.History.{History, reached, entered}

module _ {T : Type 0} where
  -- a portion of this month, with this amount and these terms, was entered
  abbrev pub WasEntered : ℕ → History T → ℕ → ℕ → T → Type 0
  WasEntered m₀ [] month amount terms = ⊥
  WasEntered m₀ (entered a t ∷ h) month amount terms = ((reached m₀ h ≡ month) × (a ≡ amount) × (t ≡ terms)) ⊎ WasEntered m₀ h month amount terms
  WasEntered m₀ (_ ∷ h) month amount terms = WasEntered m₀ h month amount terms

  -- some portion of the list has this month, amount entered and terms
  abbrev pub Tells : List (Portion T) → ℕ → ℕ → T → Type 0
  Tells [] month amount terms = ⊥
  Tells (p ∷ ps) month amount terms = ((p.month ≡ month) × (p.entered ≡ amount) × (p.terms ≡ terms)) ⊎ Tells ps month amount terms

  -- the months rise strictly, from b on
  abbrev pub RisingFrom : ℕ → List (Portion T) → Type 0
  RisingFrom b [] = Unit {0}
  RisingFrom b (p ∷ ps) = (b ≤ p.month) × RisingFrom (p.month + 1) ps

-- a store tells the month reached, and a portion exactly when it was entered and no turn has taken the month past its life;
-- oldest first, and at most one of a month
pub record TellsExactly {T : Type 0} (kind : Kind T) (m₀ : ℕ) (h : History T) (s : Ledger T) : Type 0 where
  pub month_told : s.month ≡ reached m₀ h
  pub told_are_open : (month amount : ℕ) (terms : T) → Tells s.portions month amount terms → WasEntered m₀ h month amount terms × (reached m₀ h ≤ month + kind.life)
  pub open_are_told : (month amount : ℕ) (terms : T) → WasEntered m₀ h month amount terms → reached m₀ h ≤ month + kind.life → Tells s.portions month amount terms
  pub oldest_stands_first : RisingFrom 0 s.portions
