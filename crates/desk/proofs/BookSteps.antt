-- Records that bear on the book, where an account is open and where none is.
use Rattle.std.proofs.Common.{◌≡◌, ℕ, Some, None, Ok, Err, Option, Result, sym, refl, ap, ◌∙◌, subst, arith}
use Rattle.faults.specs.declared.ProgramFault.{ProgramFault}
use Rattle.faults.specs.declared.BookFault.{BookFault}
use Rattle.faults.specs.declared.ProgramFault.TheVariants.{InBook}
use Rattle.answers.specs.Said.{Said}
use Rattle.answers.specs.Said.Said.{nothing}
use Rattle.desk.specs.declared.book.OpenBook.{OpenBook}
use Rattle.desk.specs.declared.steps.Desk.{Desk}
use Rattle.desk.specs.State.{BookState, State}
use Rattle.desk.specs.Outcome.{Outcome, by_book}
use Rattle.desk.specs.Accounts.{own_month}
use Rattle.desk.specs.Steps.{book_step, change, with_account}
use Rattle.desk.specs.declared.account_calls.Accounts.{Accounts}
use Rattle.desk.specs.declared.account_calls.Sort.{Sort}
use Rattle.desk.specs.declared.account_calls.Sort.TheVariants.{Metering, Billing}
use Rattle.desk.specs.Means.{BookCame, BookHolds, Came, Changes, HoldsAfter, Means, Rests, account_of, in_place}

-- an account that nothing was done to is as it was
rests_all : (o : Option Sort) (a : Accounts) → Rests o a a
rests_all None a = refl
rests_all (Some Metering) a = refl
rests_all (Some Billing) a = refl

pub rests_same : (a : Accounts) → Rests a.opened a a
rests_same a = rests_all a.opened a

abbrev Does : Type 0
Does = ℕ → Option BookState → Outcome (Option BookState)

-- a month that is there
pub month_some : (month : Option ℕ) (n : ℕ) → Ok n ≡ in_place month → month ≡ Some n
month_some None n e = let z : ◌≡◌ {A = ℕ} 0 1 = cc in absurd (omega arith)
month_some (Some m) n e = cc

-- with an account, the book is as what is done to it leaves it
there : (does : Does) (month : Option ℕ) (n : ℕ) (book : Option BookState) (book' : Option OpenBook) (r : Result Said ProgramFault) → month ≡ Some n → BookCame (does n book) r book' →
    BookCame (with_account does month book) r book'
there does month n book book' r e came = subst (λ (o : Option ℕ). BookCame (with_account does o book) r book') (sym e) came

module _ (s : State) (d : Desk) (means : Means d s) where
  -- a record on the book of the account's month
  pub book_came : (does : Does) (n : ℕ) (book' : Option OpenBook) (r : Result Said ProgramFault) → Ok n ≡ in_place (own_month (account_of d.accounts)) → BookCame (does n s.book) r book' →
      Came (book_step does s) r (Means (record { accounts = d.accounts; book = book' }))
  book_came does n book' r e came =
      let c = there does (own_month s.account) n s.book book' r (sym (ap own_month means.account) ∙ month_some _ n e) came in
      (c.0, record { account = means.account; book = c.1 })

-- what a call on a book says
abbrev pub said_of : Result (Unit {0}) BookFault → Result Said ProgramFault
said_of (Ok _) = Ok nothing
said_of (Err fault) = Err (InBook fault)

-- a call on the open book came out so
by_book_came : (refusal : Option BookFault) (old new : BookState) (b : OpenBook) (r : Result (Unit {0}) BookFault) → HoldsAfter refusal old new r b →
    BookCame (by_book refusal (Some old) (Some new)) (said_of r) (Some b)
by_book_came refusal old new b (Ok tt) h = subst (λ (o : Option BookFault). BookCame (by_book o (Some old) (Some new)) (Ok nothing) (Some b)) (sym h.0) (refl, h.1)
by_book_came refusal old new b (Err f) h = subst (λ (o : Option BookFault). BookCame (by_book o (Some old) (Some new)) (Err (InBook f)) (Some b)) (sym h.0) (refl, h.1)

-- and so did what was done to the book of a state
pub change_came : (Done : OpenBook → Result (Unit {0}) BookFault → OpenBook → Type 0) (refusal : BookState → Option BookFault) (becomes : BookState → BookState) (month : ℕ) (book : Option BookState)
    (b b' : OpenBook) (r : Result (Unit {0}) BookFault) (out : Result Said ProgramFault) → Changes Done refusal becomes → Done b r b' → said_of r ≡ out → BookHolds (Some b) book →
    BookCame (change refusal becomes month book) out (Some b')
change_came Done refusal becomes month None b b' r out changes done e holds = absurd holds
change_came Done refusal becomes month (Some s) b b' r out changes done e holds =
    subst (λ (o : Result Said ProgramFault). BookCame (by_book (refusal s) (Some s) (Some (becomes s))) o (Some b')) e (by_book_came (refusal s) s (becomes s) b' r (changes b b' r s done holds))
