-- Another way of serving the draws of a history, with the same enters and turns.
use Rattle.std.specs.Prelude.{ℕ, zero, suc, ◌+◌, ◌-◌, ◌<◌, ◌≤◌, cond, ◌&&◌, [], ◌∷◌, length, nat_le, nat_lt}
use Rattle.histories.specs.Histories.{Always}
use Rattle.ledger.specs.Kinds.{Kind}
use Rattle.ledger.specs.History.{Event, History, reached, drew}
use Rattle.ledger.specs.Totals.{received}
use Rattle.ledger.specs.Told.{WasEntered}

-- f summed over the numbers below n
unfoldable pub sum_below : ℕ → (ℕ → ℕ) → ℕ
sum_below zero f = 0
sum_below (suc n) f = sum_below n f + f n

-- f summed over all months, from 0 to 1,199
abbrev pub over_months : (ℕ → ℕ) → ℕ
over_months f = sum_below 1200 f

-- a way gives a taking for each draw and month: way n k is what the draw with n calls before it takes from the portion of month k
abbrev pub Way : Type 0
Way = ℕ → ℕ → ℕ

module _ {T : Type 0} where
  -- what a way has taken, over all draws, from the portion of month k
  abbrev pub taken : Way → History T → ℕ → ℕ
  taken way [] k = 0
  taken way (drew d answer ∷ h) k = taken way h k + way (length h) k
  taken way (_ ∷ h) k = taken way h k

  -- what a way has used: the sum of its takings
  abbrev pub way_used : Way → History T → ℕ
  way_used way [] = 0
  way_used way (drew d answer ∷ h) = way_used way h + over_months (way (length h))
  way_used way (_ ∷ h) = way_used way h

  -- the portion of month k was entered, and no turn has taken the month past its life
  abbrev pub Open : Kind T → ℕ → History T → ℕ → Type 0
  Open kind m₀ h k = ((amount : ℕ) × (terms : T) × WasEntered m₀ h k amount terms) × (reached m₀ h ≤ k + kind.life)

  -- takings after the calls h are fair: at most the amount wanted, from open portions only,
  -- and with what was taken before no more than a portion has received
  pub record FairDraw (kind : Kind T) (m₀ : ℕ) (h : History T) (wanted : ℕ) (before takes : ℕ → ℕ) : Type 0 where
    pub at_most_wanted : over_months takes ≤ wanted
    pub from_open : (k : ℕ) → 0 < takes k → Open kind m₀ h k
    pub within_received : (k : ℕ) → before k + takes k ≤ received m₀ h k

  -- in an accepted draw after the calls h the way's takings are
  abbrev pub FairIn : Kind T → ℕ → Way → History T → Event T → Type 0
  FairIn kind m₀ way h (drew d answer) = FairDraw kind m₀ h d.wanted (taken way h) (way (length h))
  FairIn kind m₀ way h _ = Unit {0}

  -- a way is fair if they are in every accepted draw
  abbrev pub Fair : Kind T → ℕ → Way → History T → Type 0
  Fair kind m₀ way h = Always (FairIn kind m₀ way) h

  -- what a way leaves of the portion of month k
  abbrev pub remains : ℕ → Way → History T → ℕ → ℕ
  remains m₀ way h k = received m₀ h k - taken way h k

  -- what has run out in a way: what it leaves of the portions that have ended
  abbrev pub way_run_out : Kind T → ℕ → Way → History T → ℕ
  way_run_out kind m₀ way h = over_months (λ k. cond (nat_lt (k + kind.life) (reached m₀ h)) (remains m₀ way h k) 0)

  -- what a way leaves in the open portions of month m and later
  abbrev pub way_left_from : Kind T → ℕ → Way → History T → ℕ → ℕ
  way_left_from kind m₀ way h m = over_months (λ k. cond (nat_le m k && nat_le (reached m₀ h) (k + kind.life)) (remains m₀ way h k) 0)
