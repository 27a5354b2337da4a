-- What the turns of an account answer, against its stores.
use Rattle.std.specs.Prelude.{◌≡◌, ℕ, ◌+◌, [], ◌∷◌}
use Rattle.histories.specs.Histories.{Always}
use Rattle.portions.specs.Sums.{total}
use Rattle.ledger.specs.Steps.{refunds, losses}
use Rattle.ledger.specs.Totals as store
use Rattle.settlement.specs.Accounts.{Workings}
use Rattle.settlement.specs.History.{Event, History, turned}
use Rattle.settlement.specs.Inside.{at, store_calls}

module _ {O S : Type 0} where
  -- a part of the answer, added up over the accepted turns
  abbrev pub in_turns : (ℕ → ℕ → ℕ) → History O S → ℕ
  in_turns part [] = 0
  in_turns part (turned refunded lost ∷ h) = in_turns part h + part refunded lost
  in_turns part (_ ∷ h) = in_turns part h

  -- refunded: their first answers
  abbrev pub Refunded : History O S → ℕ
  Refunded h = in_turns (λ refunded lost. refunded) h

  -- lost: their second answers
  abbrev pub Lost : History O S → ℕ
  Lost h = in_turns (λ refunded lost. lost) h

module _ {O A S Z T : Type 0} (works : Workings O A S Z T) (o : O) where
  -- an accepted turn after the calls h answers what it makes each store refund and lose, added up
  abbrev pub TurnTold : History O S → Event O S → Type 0
  TurnTold h (turned refunded lost) =
      (refunded ≡ total (λ z. refunds works.kind (works.store (at works o h) z)) works.zones)
      × (lost ≡ total (λ z. losses works.kind (works.store (at works o h) z)) works.zones)
  TurnTold h _ = Unit {0}

  -- every turn does, and all together answer what the stores have refunded and lost
  pub record TurnsTold (h : History O S) : Type 0 where
    pub each : Always TurnTold h
    pub refunded_is : Refunded h ≡ total (λ z. store.Refunded (store_calls works o z h)) works.zones
    pub lost_is : Lost h ≡ total (λ z. store.Lost (store_calls works o z h)) works.zones
