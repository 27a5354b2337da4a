-- What a billing account of the code means.
use Rattle.std.specs.Prelude.{ℕ, List}
use Rattle.portions.specs.declared.Slot.{Slot}
use Rattle.store.specs.Held.{lent}
use Rattle.settlement.specs.declared.answers.Payment.{Payment}
use Rattle.settlement.specs.Billing.{BillAccount, BillOpening, billing}
use Rattle.accounts.specs.declared.billing.Billing.{Billing}
use Rattle.accounts.specs.Means.{deposits}
use Rattle.accounts.specs.Unopened.{Sort}

-- what it means, with its store read as a ledger
abbrev pub billed : Billing → BillAccount
billed b = record { opened = (deposits b.store).opened; percentage = b.percentage; state = b.state; bill = b.bill; store = deposits b.store }

-- what it is opened for
abbrev pub bill_opening : (slots month percentage : ℕ) → BillOpening
bill_opening slots month percentage = record { slots = slots; month = month; percentage = percentage }

-- the sort of billing accounts, with the slots of the one store
abbrev pub bills : Sort Billing BillOpening BillAccount Payment (Unit {0}) ℕ (List Slot)
bills = record { works = billing; means = billed; lent = λ b. lent b.store }
