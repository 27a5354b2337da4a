-- With which months of the year the periods of accounts end.
use Rattle.std.specs.Prelude.{◌≡◌, ℕ, true, ◌↔◌, List, [], ◌∷◌, Contains}
use Rattle.calendar.specs.Calendar.{calendar_month_of}
use Rattle.settlement.specs.Metering.{MeterOpening, metering}
use Rattle.settlement.specs.Billing.{BillOpening, billing}

-- a period of so many months ends with these months of the year, January 1 and December 12
abbrev pub EndsWith : ℕ → List ℕ → Type 0
EndsWith months ends =
    (o : MeterOpening) → o.months ≡ months →
    (m : ℕ) → (metering.ends_in o m ≡ true) ↔ Contains ends (calendar_month_of m)

-- the periods of metering accounts, and that of billing accounts
pub record EndsPeriods : Type 0 where
  pub every_month : (o : MeterOpening) → o.months ≡ 1 → (m : ℕ) → metering.ends_in o m ≡ true
  pub every_second : EndsWith 2 (2 ∷ 4 ∷ 6 ∷ 8 ∷ 10 ∷ 12 ∷ [])
  pub every_sixth : EndsWith 6 (6 ∷ 12 ∷ [])
  pub billed : (o : BillOpening) (m : ℕ) → billing.ends_in o m ≡ true
