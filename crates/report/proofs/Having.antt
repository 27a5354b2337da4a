-- The account has had the calls that are read off the records, and a record adds its call.
use Rattle.std.proofs.Common.{◌≡◌, ℕ, List, Some, None, Ok, Err, Option, refl}
use Rattle.faults.specs.declared.AccountFault.{AccountFault}
use Rattle.faults.specs.declared.BookFault.{BookFault}
use Rattle.faults.specs.declared.ProgramFault.TheVariants.{InAccount, InBook}
use Rattle.hours.specs.declared.sums.MonthSums.{MonthSums}
use Rattle.settlement.specs.declared.answers.Settlement.{Settlement}
use Rattle.settlement.specs.declared.answers.Payment.{Payment}
use Rattle.settlement.specs.Accounts as account
use Rattle.settlement.specs.Accounts.{refusal}
use Rattle.settlement.specs.History.{History, Had}
use Rattle.settlement.specs.Metering.{MeterOpening, MeterAccount, metering}
use Rattle.settlement.specs.Billing.{BillOpening, BillAccount, billing}
use Rattle.settlement.proofs.Metered.{metering_keeps}
use Rattle.settlement.proofs.Billed.{billing_keeps}
use Rattle.records.specs.Records.{Read}
use Rattle.records.specs.Records.Rec.{opens_metering, opens_billing, opens_book, gives_month_price, gives_hour_prices, reading, finish, settle, turn}
use Rattle.answers.specs.Said.{Said}
use Rattle.desk.specs.State.{Account, BookState, State}
use Rattle.desk.specs.State.Account.{none, metered, billed}
use Rattle.desk.specs.Outcome.{Outcome, refused, accepted, by_account}
use Rattle.desk.specs.Accounts.{settling_rule, sums_entered}
use Rattle.desk.specs.Books.{finish_refusal, book_sums}
use Rattle.desk.specs.Steps.{meter_opening, bill_opening, enter_book, finish_complete, finish_book}
use Rattle.report.specs.Runs.{Entry, says, handled, outcome, program_memory}
use Rattle.report.specs.Past.{Past, sums_in, after_finish, after_turn, after_read, after_settlement, after_payment, opened_by, past_after, Keeps}
use Rattle.report.specs.Past.Past.{no_account, of_metering, of_billing}
use Rattle.report.proofs.Rules.{settling_lawful}

-- the account with that past has had its calls
abbrev pub HadBy : Past → Account → Type 0
HadBy no_account none = Unit {0}
HadBy no_account (metered a) = ⊥
HadBy no_account (billed b) = ⊥
HadBy (of_metering o h) none = ⊥
HadBy (of_metering o h) (metered a) = Had metering o h a
HadBy (of_metering o h) (billed b) = ⊥
HadBy (of_billing o h) none = ⊥
HadBy (of_billing o h) (metered a) = ⊥
HadBy (of_billing o h) (billed b) = Had billing o h b

-- an account that has had calls keeps its promise for them
pub kept : (p : Past) (a : Account) → HadBy p a → Keeps p a
kept no_account none had = tt
kept no_account (metered a) had = absurd had
kept no_account (billed b) had = absurd had
kept (of_metering o h) none had = absurd had
kept (of_metering o h) (metered a) had = metering_keeps o h a had
kept (of_metering o h) (billed b) had = absurd had
kept (of_billing o h) none had = absurd had
kept (of_billing o h) (metered a) had = absurd had
kept (of_billing o h) (billed b) had = billing_keeps o h b had

-- what holds of a refusal and of an acceptance holds of what comes of the call
by_refusal : {X : Type 0} (P : Outcome X → Type 0) (x : Option AccountFault) {old : X} {said : Said} {new : X} →
    ((fault : AccountFault) → x ≡ Some fault → P (refused (InAccount fault) old)) → (x ≡ None → P (accepted said new)) → P (by_account x old said new)
by_refusal P (Some fault) out in_place = out fault refl
by_refusal P None out in_place = in_place refl

-- a finish that the book refuses is no call, and any other enters its sums
module _ {O S : Type 0} (past : History O S → Past) (a : Account) (h : History O S) (stays : HadBy (past h) a)
    (enters : (sums : MonthSums) → HadBy (past (after_finish (Some sums) (sums_entered sums a).answer h)) (sums_entered sums a).after) where
  finish_refused : (fault : BookFault) (sums : Option MonthSums) → HadBy (past (after_finish sums (Err (InBook fault)) h)) a
  finish_refused fault None = stays
  finish_refused fault (Some sums) = stays

  finish_enters : (b : BookState) (sums : Option MonthSums) → HadBy (past (after_finish sums (enter_book sums a b).answer h)) (enter_book sums a b).after.account
  finish_enters b None = stays
  finish_enters b (Some sums) = enters sums

  finish_completes : (b : BookState) (x : Option BookFault) → HadBy (past (after_finish (book_sums b) (finish_complete x a b).answer h)) (finish_complete x a b).after.account
  finish_completes b (Some fault) = finish_refused fault (book_sums b)
  finish_completes b None = finish_enters b (book_sums b)

  finish_had : (month : ℕ) (book : Option BookState) → HadBy (past (after_finish (sums_in book) (finish_book (Some month) a book).answer h)) (finish_book (Some month) a book).after.account
  finish_had month None = stays
  finish_had month (Some b) = finish_completes b (finish_refusal b)

-- what is held where this account is open
abbrev state : Account → Option BookState → State
state a book = record { account = a; book = book }

-- where no account is open, an accepted opening begins a past
none_after : (book : Option BookState) (r : Read) → HadBy (opened_by r (handled (state none book) r).answer) (handled (state none book) r).after.account
none_after book (Err fault) = tt
none_after book (Ok (opens_metering month power period)) =
    by_refusal (λ (out : Outcome Account). HadBy (opened_by (Ok (opens_metering month power period)) out.answer) out.after)
    (metering.open_refusal (meter_opening program_memory month power period)) (λ fault e. tt) (λ e. (e, refl))
none_after book (Ok (opens_billing month percentage)) =
    by_refusal (λ (out : Outcome Account). HadBy (opened_by (Ok (opens_billing month percentage)) out.answer) out.after)
    (billing.open_refusal (bill_opening program_memory month percentage)) (λ fault e. tt) (λ e. (e, refl))
none_after book (Ok (opens_book marks sale)) = tt
none_after book (Ok (gives_month_price price)) = tt
none_after book (Ok (gives_hour_prices prices)) = tt
none_after book (Ok (reading import export)) = tt
none_after book (Ok finish) = tt
none_after book (Ok settle) = tt
none_after book (Ok turn) = tt

-- a metering account has had the record's call too
metered_after : (o : MeterOpening) (h : History MeterOpening Settlement) (a : MeterAccount) (book : Option BookState) (r : Read) → Had metering o h a →
    HadBy (of_metering o (after_read after_settlement (state (metered a) book) (handled (state (metered a) book) r).answer r h)) (handled (state (metered a) book) r).after.account
metered_after o h a book (Err fault) had = had
metered_after o h a book (Ok (opens_metering month power period)) had = had
metered_after o h a book (Ok (opens_billing month percentage)) had = had
metered_after o h a book (Ok (opens_book marks sale)) had = had
metered_after o h a book (Ok (gives_month_price price)) had = had
metered_after o h a book (Ok (gives_hour_prices prices)) had = had
metered_after o h a book (Ok (reading import export)) had = had
metered_after o h a book (Ok finish) had =
    finish_had (of_metering o) (metered a) h had
    (λ sums. by_refusal (λ (out : Outcome Account). HadBy (of_metering o (after_finish (Some sums) out.answer h)) out.after)
    (refusal metering (account.enter sums) a) (λ fault e. (a, had, (e, refl))) (λ e. (a, had, (e, refl, refl, tt))))
    (metering.standing a).month book
metered_after o h a book (Ok settle) had =
    by_refusal (λ (out : Outcome Account). HadBy (of_metering o (after_settlement out.answer h)) out.after)
    (refusal metering (account.settle settling_rule program_memory.lines) a) (λ fault e. (a, had, (e, refl))) (λ e. (a, had, (e, refl, refl, settling_lawful)))
metered_after o h a book (Ok turn) had =
    by_refusal (λ (out : Outcome Account). HadBy (of_metering o (after_turn out.answer h)) out.after)
    (refusal metering account.turn a) (λ fault e. (a, had, (e, refl))) (λ e. (a, had, (e, refl, refl, tt)))

-- and so has a billing account
billed_after : (o : BillOpening) (h : History BillOpening Payment) (b : BillAccount) (book : Option BookState) (r : Read) → Had billing o h b →
    HadBy (of_billing o (after_read after_payment (state (billed b) book) (handled (state (billed b) book) r).answer r h)) (handled (state (billed b) book) r).after.account
billed_after o h b book (Err fault) had = had
billed_after o h b book (Ok (opens_metering month power period)) had = had
billed_after o h b book (Ok (opens_billing month percentage)) had = had
billed_after o h b book (Ok (opens_book marks sale)) had = had
billed_after o h b book (Ok (gives_month_price price)) had = had
billed_after o h b book (Ok (gives_hour_prices prices)) had = had
billed_after o h b book (Ok (reading import export)) had = had
billed_after o h b book (Ok finish) had =
    finish_had (of_billing o) (billed b) h had
    (λ sums. by_refusal (λ (out : Outcome Account). HadBy (of_billing o (after_finish (Some sums) out.answer h)) out.after)
    (refusal billing (account.enter sums) b) (λ fault e. (b, had, (e, refl))) (λ e. (b, had, (e, refl, refl, tt))))
    (billing.standing b).month book
billed_after o h b book (Ok settle) had =
    by_refusal (λ (out : Outcome Account). HadBy (of_billing o (after_payment out.answer h)) out.after)
    (refusal billing (account.settle settling_rule program_memory.lines) b) (λ fault e. (b, had, (e, refl))) (λ e. (b, had, (e, refl, refl, settling_lawful)))
billed_after o h b book (Ok turn) had =
    by_refusal (λ (out : Outcome Account). HadBy (of_billing o (after_turn out.answer h)) out.after)
    (refusal billing account.turn b) (λ fault e. (b, had, (e, refl))) (λ e. (b, had, (e, refl, refl, tt)))

-- an account that has had the calls of a past has had, after a record, those of the past after it
past_read : (p : Past) (a : Account) (book : Option BookState) (at : ℕ) (bytes : List ℕ) → HadBy p a →
    HadBy (past_after p (record { place = at; bytes = bytes; before = state a book })) (handled (state a book) (says bytes)).after.account
past_read no_account none book at bytes had = none_after book (says bytes)
past_read no_account (metered a) book at bytes had = absurd had
past_read no_account (billed b) book at bytes had = absurd had
past_read (of_metering o h) none book at bytes had = absurd had
past_read (of_metering o h) (metered a) book at bytes had = metered_after o h a book (says bytes) had
past_read (of_metering o h) (billed b) book at bytes had = absurd had
past_read (of_billing o h) none book at bytes had = absurd had
past_read (of_billing o h) (metered a) book at bytes had = absurd had
past_read (of_billing o h) (billed b) book at bytes had = billed_after o h b book (says bytes) had

-- the same of an entry
pub had_after : (p : Past) (e : Entry) → HadBy p e.before.account → HadBy (past_after p e) (outcome e).after.account
had_after p e had = past_read p e.before.account e.before.book e.place e.bytes had
