-- What a history amounts to: sums over its calls, and the totals told balance with them.
use Rattle.std.specs.Prelude.{◌≡◌, ℕ, ◌+◌, cond, [], ◌∷◌, ◌==◌}
use Rattle.ledger.specs.Ledger.{Ledger, left_in}
use Rattle.ledger.specs.History.{History, reached, entered, drew, turned}

module _ {T : Type 0} where
  -- entered: the amounts of the accepted enters
  abbrev pub Entered : History T → ℕ
  Entered [] = 0
  Entered (entered amount terms ∷ h) = Entered h + amount
  Entered (_ ∷ h) = Entered h

  -- used: the answers of the accepted draws
  abbrev pub Used : History T → ℕ
  Used [] = 0
  Used (drew d answer ∷ h) = Used h + answer
  Used (_ ∷ h) = Used h

  -- refunded: the first answers of the accepted turns
  abbrev pub Refunded : History T → ℕ
  Refunded [] = 0
  Refunded (turned refunded lost ∷ h) = Refunded h + refunded
  Refunded (_ ∷ h) = Refunded h

  -- lost: the second answers of the accepted turns
  abbrev pub Lost : History T → ℕ
  Lost [] = 0
  Lost (turned refunded lost ∷ h) = Lost h + lost
  Lost (_ ∷ h) = Lost h

  -- what the portion of month k has received
  abbrev pub received : ℕ → History T → ℕ → ℕ
  received m₀ [] k = 0
  received m₀ (entered amount terms ∷ h) k = received m₀ h k + cond (reached m₀ h == k) amount 0
  received m₀ (_ ∷ h) k = received m₀ h k

-- the totals told are the history's own sums, and entered equals used, refunded, lost and left together
pub record Balanced {T : Type 0} (h : History T) (s : Ledger T) : Type 0 where
  pub entered_told : s.entered ≡ Entered h
  pub used_told : s.used ≡ Used h
  pub refunded_told : s.refunded ≡ Refunded h
  pub lost_told : s.lost ≡ Lost h
  pub balance : Entered h ≡ Used h + Refunded h + Lost h + left_in s.portions
