-- What a refused record leaves.
use Rattle.std.proofs.Common.{◌≡◌, ℕ, ◌⊎◌, List, Some, None, Ok, Err, Option, sym, refl, ap, ◌∙◌, subst, inl, inr, arith}
use Rattle.faults.specs.declared.AccountFault.{AccountFault}
use Rattle.faults.specs.declared.BookFault.{BookFault}
use Rattle.faults.specs.declared.ProgramFault.{ProgramFault}
use Rattle.faults.specs.declared.ProgramFault.TheVariants.{InAccount}
use Rattle.hours.specs.declared.sums.MonthSums.{MonthSums}
use Rattle.settlement.specs.Metering.{MeterOpening}
use Rattle.settlement.specs.Billing.{BillOpening}
use Rattle.records.specs.Records.{Read}
use Rattle.records.specs.Records.Rec.{opens_metering, opens_billing, opens_book, gives_month_price, gives_hour_prices, reading, finish, settle, turn}
use Rattle.answers.specs.Said.{Said}
use Rattle.desk.specs.State.{Account, BookState, State}
use Rattle.desk.specs.State.Account.{none, metered, billed}
use Rattle.desk.specs.Outcome.{Outcome, by_account, by_book}
use Rattle.desk.specs.Accounts.{own_month, metering_opened, billing_opened, sums_entered, account_settled, account_turned}
use Rattle.desk.specs.Books.{finish_refusal, book_sums}
use Rattle.desk.specs.Steps.{meter_opening, bill_opening, on_account, book_opened, change, with_account, book_step, enter_book, finish_complete, finish_book}
use Rattle.report.specs.Runs.{Entry, says, handled, outcome, answer_text, program_memory}
use Rattle.report.specs.Laws.{NothingDiffers, BookGone, RefusedAlone}

module _ {X : Type 0} where
  -- where the outcome is a refusal, it leaves x
  abbrev Leaves : Outcome X → X → Type 0
  Leaves o x = (fault : ProgramFault) → o.answer ≡ Err fault → o.after ≡ x

  -- what an account refuses leaves the old
  by_account_leaves : (refusal : Option AccountFault) (old : X) (said : Said) (new : X) → Leaves (by_account refusal old said new) old
  by_account_leaves (Some f) old said new fault e = refl
  by_account_leaves None old said new fault e = let z : ◌≡◌ {A = ℕ} 0 1 = cc in absurd (omega arith)

  -- and what a book refuses
  by_book_leaves : (refusal : Option BookFault) (old new : X) → Leaves (by_book refusal old new) old
  by_book_leaves (Some f) old new fault e = refl
  by_book_leaves None old new fault e = let z : ◌≡◌ {A = ℕ} 0 1 = cc in absurd (omega arith)

-- a metering account that is not opened
metering_leaves : (o : MeterOpening) (a : Account) → Leaves (metering_opened o a) a
metering_leaves o none = by_account_leaves _ _ _ _
metering_leaves o (metered a) = λ fault e. refl
metering_leaves o (billed b) = λ fault e. refl

-- the same of a billing account
billing_leaves : (o : BillOpening) (a : Account) → Leaves (billing_opened o a) a
billing_leaves o none = by_account_leaves _ _ _ _
billing_leaves o (metered a) = λ fault e. refl
billing_leaves o (billed b) = λ fault e. refl

-- an account that is not settled
settling_leaves : (room : ℕ) (a : Account) → Leaves (account_settled room a) a
settling_leaves room none = λ fault e. refl
settling_leaves room (metered a) = by_account_leaves _ _ _ _
settling_leaves room (billed b) = by_account_leaves _ _ _ _

-- an account that is not turned
turning_leaves : (a : Account) → Leaves (account_turned a) a
turning_leaves none = λ fault e. refl
turning_leaves (metered a) = by_account_leaves _ _ _ _
turning_leaves (billed b) = by_account_leaves _ _ _ _

-- what leaves the account leaves the state
account_leaves : (s : State) (o : Outcome Account) → Leaves o s.account → Leaves (on_account s.book o) s
account_leaves s o leaves fault e = ap (λ (a : Account). record { account = a; book = s.book }) (leaves fault e)

-- a book that is not opened
opening_leaves : (marks : List (List ℕ)) (sale : List ℕ) (month : ℕ) (book : Option BookState) → Leaves (book_opened marks sale month book) book
opening_leaves marks sale month (Some b) = λ fault e. refl
opening_leaves marks sale month None = by_book_leaves _ _ _

-- a book that is not changed
change_leaves : (refusal : BookState → Option BookFault) (becomes : BookState → BookState) (month : ℕ) (book : Option BookState) → Leaves (change refusal becomes month book) book
change_leaves refusal becomes month None = λ fault e. refl
change_leaves refusal becomes month (Some b) = by_book_leaves _ _ _

-- where no account is open, the book is left too
with_account_leaves : (does : ℕ → Option BookState → Outcome (Option BookState)) → ((month : ℕ) (book : Option BookState) → Leaves (does month book) book) → (month : Option ℕ) (book : Option BookState) → Leaves (with_account does month book) book
with_account_leaves does leaves None book = λ fault e. refl
with_account_leaves does leaves (Some month) book = leaves month book

-- what leaves the book leaves the state
book_leaves : (does : ℕ → Option BookState → Outcome (Option BookState)) → ((month : ℕ) (book : Option BookState) → Leaves (does month book) book) → (s : State) → Leaves (book_step does s) s
book_leaves does leaves s fault e = ap (λ (b : Option BookState). record { account = s.account; book = b }) (with_account_leaves does leaves (own_month s.account) s.book fault e)

-- the account refused the book's sums, and the book is gone
record Struck (old : Account) (fault : ProgramFault) (o : Outcome State) : Type 0 where
  refuses : (f : AccountFault) × (fault ≡ InAccount f)
  account : o.after.account ≡ old
  book : o.after.book ≡ None

-- nothing differs, or the book is gone
abbrev Left : State → ProgramFault → Outcome State → Type 0
Left s fault o = (o.after ≡ s) ⊎ Struck s.account fault o

-- what an account refuses of a book that is gone is struck
by_account_strikes : (refusal : Option AccountFault) (old : Account) (said : Said) (new : Account) (fault : ProgramFault) → (by_account refusal old said new).answer ≡ Err fault → Struck old fault (on_account None (by_account refusal old said new))
by_account_strikes (Some f) old said new fault e = record { refuses = (f, cc); account = refl; book = refl }
by_account_strikes None old said new fault e = let z : ◌≡◌ {A = ℕ} 0 1 = cc in absurd (omega arith)

-- an account strikes the sums that it refuses
abbrev Strikes : Account → Type 0
Strikes account = (sums : MonthSums) (fault : ProgramFault) → (sums_entered sums account).answer ≡ Err fault → Struck account fault (on_account None (sums_entered sums account))

module _ (account : Account) (strikes : Strikes account) (b : BookState) where
  -- what a refused entry of its sums leaves: a book without sums stays, and one with sums is gone
  enter_left : (sums : Option MonthSums) (fault : ProgramFault) → (enter_book sums account b).answer ≡ Err fault → Left (record { account = account; book = Some b }) fault (enter_book sums account b)
  enter_left (Some sums) fault e = inr (strikes sums fault e)
  enter_left None fault e = inl refl

  -- a book that is not complete is left
  complete_left : (refusal : Option BookFault) (fault : ProgramFault) → (finish_complete refusal account b).answer ≡ Err fault → Left (record { account = account; book = Some b }) fault (finish_complete refusal account b)
  complete_left (Some f) fault e = inl refl
  complete_left None fault e = enter_left (book_sums b) fault e

-- what a refused finish leaves
finish_left : (account : Account) (book : Option BookState) (fault : ProgramFault) → (finish_book (own_month account) account book).answer ≡ Err fault → Left (record { account = account; book = book }) fault (finish_book (own_month account) account book)
finish_left none book fault e = inl refl
finish_left (metered a) None fault e = inl refl
finish_left (metered a) (Some b) fault e = complete_left (metered a) (λ sums. by_account_strikes _ _ _ _) b (finish_refusal b) fault e
finish_left (billed c) None fault e = inl refl
finish_left (billed c) (Some b) fault e = complete_left (billed c) (λ sums. by_account_strikes _ _ _ _) b (finish_refusal b) fault e

module _ (account : Account) (strikes : Strikes account) (b : BookState) (f : AccountFault) where
  -- sums that the account refuses are struck
  enter_struck : (sums : Option MonthSums) (fault : ProgramFault) → fault ≡ InAccount f → (enter_book sums account b).answer ≡ Err fault → Struck account fault (enter_book sums account b)
  enter_struck (Some sums) fault is e = strikes sums fault e
  enter_struck None fault is e = let z : ◌≡◌ {A = ℕ} 0 1 = cc in absurd (omega arith)

  -- and those of a complete book; what a book refuses is no refusal of the account
  complete_struck : (refusal : Option BookFault) (fault : ProgramFault) → fault ≡ InAccount f → (finish_complete refusal account b).answer ≡ Err fault → Struck account fault (finish_complete refusal account b)
  complete_struck (Some g) fault is e = let z : ◌≡◌ {A = ℕ} 0 1 = cc in absurd (omega arith)
  complete_struck None fault is e = enter_struck (book_sums b) fault is e

-- what the account refuses of a finish is struck
finish_struck : (account : Account) (book : Option BookState) (f : AccountFault) (fault : ProgramFault) → fault ≡ InAccount f → (finish_book (own_month account) account book).answer ≡ Err fault → Struck account fault (finish_book (own_month account) account book)
finish_struck none book f fault is e = let z : ◌≡◌ {A = ℕ} 0 1 = cc in absurd (omega arith)
finish_struck (metered a) None f fault is e = let z : ◌≡◌ {A = ℕ} 0 1 = cc in absurd (omega arith)
finish_struck (metered a) (Some b) f fault is e = complete_struck (metered a) (λ sums. by_account_strikes _ _ _ _) b f (finish_refusal b) fault is e
finish_struck (billed c) None f fault is e = let z : ◌≡◌ {A = ℕ} 0 1 = cc in absurd (omega arith)
finish_struck (billed c) (Some b) f fault is e = complete_struck (billed c) (λ sums. by_account_strikes _ _ _ _) b f (finish_refusal b) fault is e

-- nothing differs, or what was said is a finish and the book is gone
abbrev LeftBy : State → Read → ProgramFault → Outcome State → Type 0
LeftBy s said_by fault o = (o.after ≡ s) ⊎ ((said_by ≡ Ok finish) × Struck s.account fault o)

-- the same, with what was said
finish_left_by : (s : State) (fault : ProgramFault) (o : Outcome State) → Left s fault o → LeftBy s (Ok finish) fault o
finish_left_by s fault o (inl same) = inl same
finish_left_by s fault o (inr struck) = inr (refl, struck)

-- what any refused record leaves
handled_left : (s : State) (said_by : Read) (fault : ProgramFault) → (handled s said_by).answer ≡ Err fault → LeftBy s said_by fault (handled s said_by)
handled_left s (Err f) fault e = inl refl
handled_left s (Ok (opens_metering month power period)) fault e = inl (account_leaves s _ (metering_leaves (meter_opening program_memory month power period) s.account) fault e)
handled_left s (Ok (opens_billing month percentage)) fault e = inl (account_leaves s _ (billing_leaves (bill_opening program_memory month percentage) s.account) fault e)
handled_left s (Ok (opens_book marks sale)) fault e = inl (book_leaves _ (opening_leaves marks sale) s fault e)
handled_left s (Ok (gives_month_price price)) fault e = inl (book_leaves _ (change_leaves _ _) s fault e)
handled_left s (Ok (gives_hour_prices prices)) fault e = inl (book_leaves _ (change_leaves _ _) s fault e)
handled_left s (Ok (reading import export)) fault e = inl (book_leaves _ (change_leaves _ _) s fault e)
handled_left s (Ok finish) fault e = finish_left_by s fault _ (finish_left s.account s.book fault e)
handled_left s (Ok settle) fault e = inl (account_leaves s _ (settling_leaves program_memory.lines s.account) fault e)
handled_left s (Ok turn) fault e = inl (account_leaves s _ (turning_leaves s.account) fault e)

-- a book whose sums were struck is gone
entry_gone : (e : Entry) (fault : ProgramFault) → says e.bytes ≡ Ok finish → Struck e.before.account fault (outcome e) → BookGone e fault
entry_gone e fault finishes struck = record { finishes = finishes; by_account = struck.refuses; account = struck.account; book = struck.book }

-- the same of a record of the file
entry_left : (e : Entry) (fault : ProgramFault) → LeftBy e.before (says e.bytes) fault (outcome e) → NothingDiffers e ⊎ BookGone e fault
entry_left e fault (inl same) = inl same
entry_left e fault (inr (finishes, struck)) = inr (entry_gone e fault finishes struck)

-- where the account refuses the sums of a record of the file, their book is gone
entry_struck : (e : Entry) (fault : ProgramFault) → (outcome e).answer ≡ Err fault → says e.bytes ≡ Ok finish → (f : AccountFault) → fault ≡ InAccount f → BookGone e fault
entry_struck e fault refusal finishes f is =
    let same : outcome e ≡ handled e.before (Ok finish) = ap (handled e.before) finishes in
    let answer : (handled e.before (Ok finish)).answer ≡ Err fault = ap (λ (o : Outcome State). o.answer) (sym same) ∙ refusal in
    entry_gone e fault finishes (subst (Struck e.before.account fault) (sym same) (finish_struck e.before.account e.before.book f fault is answer))

-- a refused record prints its refusal line alone, and leaves what was there, but for sums that are struck
pub refusals_alone : (input : List ℕ) → RefusedAlone input
refusals_alone input earlier e follows fault refusal =
    record { alone = ap (answer_text e.place) refusal; leaves = entry_left e fault (handled_left e.before (says e.bytes) fault refusal); struck = entry_struck e fault refusal }
