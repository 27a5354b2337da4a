-- The billing account: one deposit store, a bill for each month.
use Rattle.std.specs.Prelude.{◌≡◌, ℕ, ◌+◌, ◌-◌, ◌*◌, ◌/◌, ◌<◌, Bool, true, false, List, [], ◌∷◌, length, None, Option, nat_le, nat_lt, ◌⊎◌}
use Rattle.faults.specs.declared.AccountFault.{AccountFault}
use Rattle.faults.specs.declared.AccountFault.TheVariants.{InStore, MonthOutOfRange, PercentageTooHigh}
use Rattle.faults.specs.declared.StoreFault.TheVariants.{TooFewSlots}
use Rattle.hours.specs.declared.sums.MonthSums.{MonthSums}
use Rattle.portions.specs.Sums.{sum}
use Rattle.ledger.specs.Rules.{Rule}
use Rattle.ledger.specs.Ledger as ledger
use Rattle.ledger.specs.Ledger.{Ledger, lefts}
use Rattle.histories.specs.Machines.{asks}
use Rattle.ledger.specs.Steps.{takings, drawing, entering, turning, refunds, losses}
use Rattle.settlement.specs.declared.answers.Line.{Line}
use Rattle.settlement.specs.declared.answers.Payment.{Payment}
use Rattle.settlement.specs.declared.states.MonthState.{MonthState}
use Rattle.settlement.specs.declared.states.MonthState.TheVariants.{Waiting, Entered, Settled}
use Rattle.settlement.specs.Kinds.{deposit}
use Rattle.settlement.specs.Lines.{lines_of}
use Rattle.settlement.specs.Accounts.{Workings, Covering}

-- what a billing account means: the percentage that caps refunds, the bill to be settled, and the deposits
pub record BillAccount : Type 0 where
  pub opened : Bool
  pub percentage : ℕ
  pub state : MonthState
  pub bill : ℕ
  pub store : Ledger ℕ

-- what one is opened for, over so many slots
pub record BillOpening : Type 0 where
  pub slots : ℕ
  pub month : ℕ
  pub percentage : ℕ

-- before an opening is accepted
abbrev pub closed : BillAccount
closed = record { opened = false; percentage = 0; state = Waiting; bill = 0; store = ledger.closed }

-- right after one
abbrev pub opening : BillOpening → BillAccount
opening o = record { opened = true; percentage = o.percentage; state = Waiting; bill = 0; store = ledger.opening o.month }

-- an opening asks for 13 slots, a month from 47 to 1,199 and a percentage of at most 100
abbrev pub open_refusal : BillOpening → Option AccountFault
open_refusal o = asks (nat_lt 12 o.slots) (InStore TooFewSlots) (asks (nat_le 47 o.month) MonthOutOfRange (asks (nat_le o.month 1199) MonthOutOfRange (asks (nat_le o.percentage 100) PercentageTooHigh None)))

-- when a number applies to an opening: for the slots, the month and the percentage
abbrev pub Applies : BillOpening → ℕ → Type 0
Applies o n =
    ((n ≡ 1) × (o.slots < 13))
    ⊎ (((n ≡ 2) × ((o.month < 47) ⊎ (1199 < o.month)))
    ⊎ ((n ≡ 23) × (100 < o.percentage)))

-- the deposit for a value given: the value by the factor 1.23, in whole grosz
abbrev pub deposit_for : ℕ → ℕ
deposit_for value = (value * 123 + 50000000) / 100000000

-- the cap of its refund: a percentage of the value itself
abbrev pub cap_for : ℕ → ℕ → ℕ
cap_for percentage value = value * percentage / 100000000

-- the bill for a charge, in whole grosz
abbrev pub bill_for : ℕ → ℕ
bill_for charge = (charge + 500000) / 1000000

-- the deposit of a month's sums
abbrev pub month_deposit : MonthSums → ℕ
month_deposit sums = deposit_for sums.totals.value

-- and its cap
abbrev pub month_cap : ℕ → MonthSums → ℕ
month_cap percentage sums = cap_for percentage sums.totals.value

-- the bill of a month's sums
abbrev pub month_bill : MonthSums → ℕ
month_bill sums = bill_for sums.totals.charge

-- after an accepted enter: a deposit of the month, and its bill
abbrev pub entering_bill : MonthSums → BillAccount → BillAccount
entering_bill sums b = record { opened = true; percentage = b.percentage; state = Entered; bill = month_bill sums; store = entering (month_deposit sums) (month_cap b.percentage sums) b.store }

-- what the rule takes for the bill
abbrev pub paid : Rule → BillAccount → List ℕ
paid rule b = takings rule b.bill b.store

-- after an accepted settlement: the bill is drawn on the deposits
abbrev pub settling_bill : Rule → BillAccount → BillAccount
settling_bill rule b = record { opened = true; percentage = b.percentage; state = Settled; bill = 0; store = drawing (paid rule b) b.store }

-- its one covering
abbrev pub bill_covering : Rule → BillAccount → Covering (Unit {0})
bill_covering rule b = record {
  zone = tt;
  from = tt;
  rest = b.bill;
  wanted = b.bill;
  used = sum (paid rule b);
  covers = sum (paid rule b);
}

-- its lines
abbrev pub bill_lines : Rule → BillAccount → List Line
bill_lines rule b = lines_of None (lefts b.store) (drawing (paid rule b) b.store).portions

-- its answer: what was used, and the rest, which is due
abbrev pub payment : Rule → BillAccount → Payment
payment rule b = record { used = sum (paid rule b); due = b.bill - sum (paid rule b); lines = length (bill_lines rule b) }

-- after an accepted turn
abbrev pub turning_bill : BillAccount → BillAccount
turning_bill b = record { opened = true; percentage = b.percentage; state = Waiting; bill = b.bill; store = turning deposit b.store }

-- how a billing account works: every month is settled
abbrev pub billing : Workings BillOpening BillAccount Payment (Unit {0}) ℕ
billing = record {
  zones = tt ∷ [];
  place = λ z. 0;
  mark = λ z. None;
  standing = λ b. record { opened = b.opened; month = b.store.month; state = b.state; ends = true };
  store = λ b z. b.store;
  pending = λ b z. b.bill;
  kind = deposit;
  fewest_lines = 13;
  closed = closed;
  open_refusal = open_refusal;
  Applies = Applies;
  own_month = λ o. o.month;
  ends_in = λ o m. true;
  opening = opening;
  stored = λ sums z. month_deposit sums;
  terms = λ o sums. month_cap o.percentage sums;
  demand = λ sums z. month_bill sums;
  tenths = λ o. 10;
  coverings = λ rule b. bill_covering rule b ∷ [];
  settlement = payment;
  covered = λ p z. p.used;
  due = λ p z. p.due;
  count = λ p. p.lines;
  lines = bill_lines;
  refunds = λ b. refunds deposit b.store;
  losses = λ b. losses deposit b.store;
  entering = entering_bill;
  settling = settling_bill;
  turning = turning_bill;
}
