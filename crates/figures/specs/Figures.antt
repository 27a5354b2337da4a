-- Worked figures, as statements about the definitions themselves.
use Rattle.std.specs.Prelude.{◌≡◌, ℕ, true, List, [], ◌∷◌, None}
use Rattle.calendar.specs.Hour.{month_hours}
use Rattle.hours.specs.Month.{HourRead, sum_over, taken_in, given_in}
use Rattle.portions.specs.Portions.{Portion, fresh}
use Rattle.portions.specs.Taking.{oldest, proportional}
use Rattle.ledger.specs.Steps.{ends_by, stays_in}
use Rattle.settlement.specs.Kinds.{energy, deposit}
use Rattle.settlement.specs.Figures as settlement

-- an hour's import and export in Wh, with no price
abbrev pub hour : ℕ → ℕ → HourRead
hour i e = record { import = i; export = e; price = None }

-- the hours 11 to 18 of a seller's balancing table: import and export of each
abbrev pub sellers_hours : List HourRead
sellers_hours =
    hour 1000 500 ∷ hour 1500 2000 ∷ hour 1000 3000 ∷ hour 2000 3000
    ∷ hour 1000 2000 ∷ hour 3000 1500 ∷ hour 4000 1000 ∷ hour 5000 1000 ∷ []

-- every hour in zone 1
abbrev pub one_zone : ℕ → ℕ
one_zone k = 1

-- the six portions of a seller's invoice, in Wh
abbrev pub invoice : List ℕ
invoice = 793000 ∷ 684000 ∷ 557000 ∷ 307000 ∷ 98000 ∷ 22000 ∷ []

-- a portion of energy of month 75
abbrev pub of_month_75 : Portion (Unit {0})
of_month_75 = fresh 75 1000 tt

-- a deposit of month 75 with so much left, whose refund is capped at 300
abbrev pub deposit_with : ℕ → Portion ℕ
deposit_with left = record { month = 75; entered = 1000; left = left; terms = 300 }

-- the figures; those of settlements stand with the accounts' definitions
pub record Figures : Type 0 where
  pub february_2024_hours : month_hours 97 ≡ 696
  pub march_2024_hours : month_hours 98 ≡ 743
  pub october_2024_hours : month_hours 105 ≡ 745
  pub sellers_table_taken : sum_over (taken_in one_zone 1) 0 sellers_hours ≡ 9000
  pub sellers_table_given : sum_over (given_in one_zone 1) 0 sellers_hours ≡ 4500
  -- proportional, 250,000 from 200,000 and 300,000
  pub halves : proportional (200000 ∷ 300000 ∷ []) 250000 ≡ 100000 ∷ 150000 ∷ []
  -- proportional, 2 from 1, 1 and 1
  pub thirds : proportional (1 ∷ 1 ∷ 1 ∷ []) 2 ≡ 0 ∷ 1 ∷ 1 ∷ []
  -- oldest first, all that the invoice's portions hold
  pub invoice_emptied : oldest invoice 2461000 ≡ invoice
  -- open in month 87 and ended in month 88, and a deposit likewise
  pub open_in_87 : stays_in energy.life 87 of_month_75 ≡ true
  pub ended_in_88 : ends_by energy.life 88 of_month_75 ≡ true
  pub deposit_open_in_87 : stays_in deposit.life 87 (deposit_with 300) ≡ true
  pub deposit_ended_in_88 : ends_by deposit.life 88 (deposit_with 300) ≡ true
  -- of energy nothing is refunded, and of a deposit what is left, up to its cap
  pub energy_refund : energy.refund of_month_75 ≡ 0
  pub refund_below_the_cap : deposit.refund (deposit_with 299) ≡ 299
  pub refund_at_the_cap : deposit.refund (deposit_with 300) ≡ 300
  pub refund_above_the_cap : deposit.refund (deposit_with 800) ≡ 300
  pub settlements : settlement.Figures
