-- The history of the open account, read off the records.
use Rattle.std.specs.Prelude.{List, [], ◌∷◌, Some, None, Ok, Err, Option, Result}
use Rattle.faults.specs.declared.ProgramFault.{ProgramFault}
use Rattle.faults.specs.declared.ProgramFault.TheVariants.{InBook, InAccount, FileEnds, Malformed, OutOfPlace}
use Rattle.hours.specs.declared.sums.MonthSums.{MonthSums}
use Rattle.settlement.specs.declared.answers.Settlement.{Settlement}
use Rattle.settlement.specs.declared.answers.Payment.{Payment}
use Rattle.settlement.specs.Accounts as account
use Rattle.settlement.specs.History as history
use Rattle.settlement.specs.History.{History}
use Rattle.settlement.specs.Promises.{Promised}
use Rattle.settlement.specs.Metering.{MeterOpening, metering}
use Rattle.settlement.specs.Billing.{BillOpening, billing}
use Rattle.records.specs.Records.{Rec, Read}
use Rattle.records.specs.Records.Rec.{opens_metering, opens_billing, opens_book, gives_month_price, gives_hour_prices, reading, finish, settle, turn}
use Rattle.answers.specs.Said.{Said}
use Rattle.answers.specs.Said.Said.{nothing, settled, paid, turned}
use Rattle.desk.specs.State.{Account, BookState, State}
use Rattle.desk.specs.State.Account.{none, metered, billed}
use Rattle.desk.specs.Accounts.{settling_rule}
use Rattle.desk.specs.Books.{book_sums}
use Rattle.desk.specs.Steps.{meter_opening, bill_opening}
use Rattle.report.specs.Runs.{Entry, says, outcome, program_memory}

-- what the open account was opened for, and the calls that it has had since
pub data Past : Type 0 where
  no_account : Past
  of_metering : (opening : MeterOpening) (calls : History MeterOpening Settlement) → Past
  of_billing : (opening : BillOpening) (calls : History BillOpening Payment) → Past

-- the sums of the open book, if there is one
abbrev pub sums_in : Option BookState → Option MonthSums
sums_in None = None
sums_in (Some b) = book_sums b

module _ {O S : Type 0} where
  -- a call that the account refused; what is refused before it comes to the account is no call
  abbrev pub refused_call : account.Call O → ProgramFault → History O S → History O S
  refused_call call (InAccount fault) h = history.refused call fault ∷ h
  refused_call call (InBook fault) h = h
  refused_call call FileEnds h = h
  refused_call call Malformed h = h
  refused_call call OutOfPlace h = h

  -- the calls after a finish, which enters the book's sums
  abbrev pub after_finish : Option MonthSums → Result Said ProgramFault → History O S → History O S
  after_finish None answer h = h
  after_finish (Some sums) (Ok said) h = history.entered sums ∷ h
  after_finish (Some sums) (Err fault) h = refused_call (account.enter sums) fault h

  -- after a turn
  abbrev pub after_turn : Result Said ProgramFault → History O S → History O S
  after_turn (Ok (turned refunded lost)) h = history.turned refunded lost ∷ h
  after_turn (Ok (settled lines answer)) h = h
  after_turn (Ok (paid lines answer)) h = h
  after_turn (Ok nothing) h = h
  after_turn (Err fault) h = refused_call account.turn fault h

  -- after any record; the first argument is what a settlement adds
  abbrev pub after_record : (Result Said ProgramFault → History O S → History O S) → State → Result Said ProgramFault → Rec → History O S → History O S
  after_record settling before answer (opens_metering month power period) h = h
  after_record settling before answer (opens_billing month percentage) h = h
  after_record settling before answer (opens_book marks sale) h = h
  after_record settling before answer (gives_month_price price) h = h
  after_record settling before answer (gives_hour_prices prices) h = h
  after_record settling before answer (reading import export) h = h
  after_record settling before answer finish h = after_finish (sums_in before.book) answer h
  after_record settling before answer settle h = settling answer h
  after_record settling before answer turn h = after_turn answer h

  -- after what was read; a malformed record is no call
  abbrev pub after_read : (Result Said ProgramFault → History O S → History O S) → State → Result Said ProgramFault → Read → History O S → History O S
  after_read settling before answer (Ok said) h = after_record settling before answer said h
  after_read settling before answer (Err fault) h = h

-- the calls of a metering account after a settlement
abbrev pub after_settlement : Result Said ProgramFault → History MeterOpening Settlement → History MeterOpening Settlement
after_settlement (Ok (settled lines answer)) h = history.settled settling_rule program_memory.lines answer ∷ h
after_settlement (Ok (paid lines answer)) h = h
after_settlement (Ok (turned refunded lost)) h = h
after_settlement (Ok nothing) h = h
after_settlement (Err fault) h = refused_call (account.settle settling_rule program_memory.lines) fault h

-- and those of a billing account
abbrev pub after_payment : Result Said ProgramFault → History BillOpening Payment → History BillOpening Payment
after_payment (Ok (paid lines answer)) h = history.settled settling_rule program_memory.lines answer ∷ h
after_payment (Ok (settled lines answer)) h = h
after_payment (Ok (turned refunded lost)) h = h
after_payment (Ok nothing) h = h
after_payment (Err fault) h = refused_call (account.settle settling_rule program_memory.lines) fault h

-- a record that opens an account, where none is open
abbrev pub opened_by : Read → Result Said ProgramFault → Past
opened_by (Err fault) answer = no_account
opened_by (Ok said) (Err fault) = no_account
opened_by (Ok (opens_metering month power period)) (Ok answer) = of_metering (meter_opening program_memory month power period) []
opened_by (Ok (opens_billing month percentage)) (Ok answer) = of_billing (bill_opening program_memory month percentage) []
opened_by (Ok (opens_book marks sale)) (Ok answer) = no_account
opened_by (Ok (gives_month_price price)) (Ok answer) = no_account
opened_by (Ok (gives_hour_prices prices)) (Ok answer) = no_account
opened_by (Ok (reading import export)) (Ok answer) = no_account
opened_by (Ok finish) (Ok answer) = no_account
opened_by (Ok settle) (Ok answer) = no_account
opened_by (Ok turn) (Ok answer) = no_account

-- the past after one record more
abbrev pub past_after : Past → Entry → Past
past_after no_account e = opened_by (says e.bytes) (outcome e).answer
past_after (of_metering o h) e = of_metering o (after_read after_settlement e.before (outcome e).answer (says e.bytes) h)
past_after (of_billing o h) e = of_billing o (after_read after_payment e.before (outcome e).answer (says e.bytes) h)

-- the past after these records, from an earlier one
abbrev pub past_from : Past → List Entry → Past
past_from past [] = past
past_from past (e ∷ es) = past_from (past_after past e) es

-- the past that records from the beginning of a file make
abbrev pub past_of : List Entry → Past
past_of es = past_from no_account es

-- the account with that past keeps the promise of accounts
abbrev pub Keeps : Past → Account → Type 0
Keeps no_account none = Unit {0}
Keeps no_account (metered a) = ⊥
Keeps no_account (billed b) = ⊥
Keeps (of_metering o h) none = ⊥
Keeps (of_metering o h) (metered a) = Promised metering o h a
Keeps (of_metering o h) (billed b) = ⊥
Keeps (of_billing o h) none = ⊥
Keeps (of_billing o h) (metered a) = ⊥
Keeps (of_billing o h) (billed b) = Promised billing o h b
