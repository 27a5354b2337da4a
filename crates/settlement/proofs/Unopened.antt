-- An account that was never opened stands as it was made, and refuses every call.
use Rattle.std.proofs.Common.{◌≡◌, false, Some, Option, refl, ap, ◌∙◌}
use Rattle.faults.specs.Numbers.{account_number}
use Rattle.faults.specs.declared.AccountFault.{AccountFault}
use Rattle.faults.specs.declared.AccountFault.TheVariants.{NotOpen}
use Rattle.histories.specs.Machines.{asks}
use Rattle.histories.proofs.Unopened as histories
use Rattle.ledger.specs.Ledger as ledger
use Rattle.settlement.specs.Accounts.{Call, Follows, Workings, refusal, machine}
use Rattle.settlement.specs.Accounts.Call.{open_for, enter, settle, turn}
use Rattle.settlement.specs.Refusals.{Smallest}
use Rattle.settlement.specs.Unopened.{Shut, ShutUntilOpened}
use Rattle.settlement.specs.Metering.{metering}
use Rattle.settlement.specs.Billing.{billing}
use Rattle.settlement.proofs.ByZone.{of_all}
use Rattle.settlement.proofs.Openings.{meter_refused, bill_refused}

module _ {O A S Z T : Type 0} (works : Workings O A S Z T) (closed : (works.standing works.closed).opened ≡ false) (stores : (z : Z) → works.store works.closed z ≡ ledger.closed)
    (opens : (opening : O) (fault : AccountFault) → works.open_refusal opening ≡ Some fault → Smallest works opening (account_number fault)) where
  -- what asks for an open account first is refused
  not_open : (rest : Option AccountFault) → asks (works.standing works.closed).opened NotOpen rest ≡ Some NotOpen
  not_open rest = ap (λ b. asks b NotOpen rest) closed

  shut : (call : Call O) → Follows call → (fault : AccountFault) × (refusal works call works.closed ≡ Some fault)
  shut (open_for opening) follows = absurd follows
  shut (enter sums) follows = (NotOpen, not_open _)
  shut (settle rule lines) follows = (NotOpen, not_open _)
  shut turn follows = (NotOpen, not_open _)

  by_one : (rest : Option AccountFault) (fault : AccountFault) → asks (works.standing works.closed).opened NotOpen rest ≡ Some fault → account_number fault ≡ 1
  by_one rest fault e = let first = not_open rest in let same : fault ≡ NotOpen = cc in ap account_number same

  shuts : (call : Call O) (fault : AccountFault) → refusal works call works.closed ≡ Some fault → Shut works call fault
  shuts (open_for opening) fault e = opens opening fault e
  shuts (enter sums) fault e = by_one _ fault e
  shuts (settle rule lines) fault e = by_one _ fault e
  shuts turn fault e = by_one _ fault e

  shut_until_opened : ShutUntilOpened works
  shut_until_opened h a had =
      let so = histories.never_opened (machine works) works.closed (Shut works) shut shuts h a had in
      record { shut = so; stores_closed = λ z. ap (λ x. works.store x z) so.as_made ∙ stores z }

pub metering_shut : ShutUntilOpened metering
metering_shut = shut_until_opened metering refl (λ z. of_all z ledger.closed) meter_refused

pub billing_shut : ShutUntilOpened billing
billing_shut = shut_until_opened billing refl (λ z. refl) bill_refused
