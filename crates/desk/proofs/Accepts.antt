-- Reading on at a desk: what its open book accepts is accepted, and where no book or no account is open nothing is.
use Rattle.std.proofs.Common.{◌≡◌, ℕ, zero, suc, true, false, List, Some, None, Ok, Err, Option, Result, sym, refl, ap, ◌∙◌, subst, arith}
use Rattle.std.specs.Result.{is_err}
use Rattle.faults.specs.declared.BookFault.{BookFault}
use Rattle.faults.specs.declared.ProgramFault.{ProgramFault}
use Rattle.answers.specs.Said.{Said}
use Rattle.answers.specs.Said.Said.{nothing}
use Rattle.records.specs.Records.Rec.{reading}
use Rattle.desk.specs.declared.book.OpenBook.{OpenBook}
use Rattle.desk.specs.declared.steps.Desk.{Desk}
use Rattle.desk.specs.State.{Account, BookState, State, Memory}
use Rattle.desk.specs.Outcome.{Outcome, accepted, by_book}
use Rattle.desk.specs.Accounts.{own_month}
use Rattle.desk.specs.Books.{hour_refusal, with_next_hour}
use Rattle.desk.specs.Steps.{change, on_book, taken, with_account}
use Rattle.desk.specs.Stretch.{HourAccepted, ReadingAccepted, Stretch, Over, ReadOn}
use Rattle.desk.specs.Means.{BookHolds, Holds, Means, account_of, in_place}

-- what comes of a reading, from the month of the account
abbrev comes : ℕ → ℕ → Account → Option ℕ → Option BookState → Outcome State
comes i e account month book = on_book account (with_account (change (hour_refusal i e) (with_next_hour i e)) month book)

-- a refusal is no acceptance
differs : (o : Outcome State) (f : ProgramFault) (s : State) → o.answer ≡ Err f → o ≡ accepted nothing s → ⊥
differs o f s err ok =
    let q : ◌≡◌ {A = Result Said ProgramFault} (Err f) (Ok nothing) = sym err ∙ ap (λ (x : Outcome State). x.answer) ok in
    let z : ◌≡◌ {A = ℕ} 0 1 = cc in absurd (omega arith)

memory : Memory
memory = record { meter_slots = 0; bill_slots = 0; lines = 0 }

-- where a reading is out of place, none is accepted
unplaced : (s : State) (bytes : List ℕ) → ((i e : ℕ) → (f : ProgramFault) × ((comes i e s.account (own_month s.account) s.book).answer ≡ Err f)) → Over ReadingAccepted s bytes
unplaced s bytes refused s' rest next =
    let r = refused next.next.import next.next.export in
    differs _ r.0 s' r.1 (next.accepts memory)

module _ (s : State) (bytes : List ℕ) where
  -- nothing is read
  none_read : (Stands : State → Type 0) → Stands s → Over ReadingAccepted s bytes → ReadOn ReadingAccepted s bytes bytes Stands
  none_read Stands stands over = record { readings = 0; after = s; stretch = (refl, refl); over = over; stands = stands }

  no_month : (month : Option ℕ) (i e : ℕ) → month ≡ None → (f : ProgramFault) × ((comes i e s.account month s.book).answer ≡ Err f)
  no_month None i e h = (_, refl)
  no_month (Some m) i e h = let z : ◌≡◌ {A = ℕ} 0 1 = cc in absurd (omega arith)

  -- where no account is open
  pub without_account : (Stands : State → Type 0) → Stands s → own_month s.account ≡ None → ReadOn ReadingAccepted s bytes bytes Stands
  without_account Stands stands none = none_read Stands stands (unplaced s bytes (λ i e. no_month (own_month s.account) i e none))

  no_book : (month : Option ℕ) (book : Option BookState) (i e : ℕ) → BookHolds None book → (f : ProgramFault) × ((comes i e s.account month book).answer ≡ Err f)
  no_book None None i e h = (_, refl)
  no_book (Some m) None i e h = (_, refl)
  no_book month (Some b) i e h = absurd h

  -- where no book is open
  pub without_book : (Stands : State → Type 0) → Stands s → BookHolds None s.book → ReadOn ReadingAccepted s bytes bytes Stands
  without_book Stands stands none = none_read Stands stands (unplaced s bytes (λ i e. no_book (own_month s.account) s.book i e none))

module _ (account : Account) (month : ℕ) (dated : own_month account ≡ Some month) where
  -- the state with this book
  abbrev with_book : BookState → State
  with_book b = record { account = account; book = Some b }

  -- what comes of a reading then
  comes_of : (m : Memory) (b : BookState) (i e : ℕ) → taken m (with_book b) (reading i e) ≡ on_book account (by_book (hour_refusal i e b) (Some b) (Some (with_next_hour i e b)))
  comes_of m b i e = ap (λ (o : Option ℕ). comes i e account o (Some b)) dated

  -- a reading that the book accepts is accepted
  accepts : (b : BookState) (i e : ℕ) (b' : BookState) → HourAccepted b i e b' → ReadingAccepted (with_book b) i e (with_book b')
  accepts b i e b' h m =
      comes_of m b i e ∙ ap (λ (f : Option BookFault). on_book account (by_book f (Some b) (Some (with_next_hour i e b)))) h.0
      ∙ ap (λ (x : BookState). accepted nothing (with_book x)) (sym h.1)

  -- so are those of a stretch
  stretches : (n : ℕ) (b : BookState) (bytes : List ℕ) (b' : BookState) (rest : List ℕ) → Stretch HourAccepted n b bytes b' rest → Stretch ReadingAccepted n (with_book b) bytes (with_book b') rest
  stretches zero b bytes b' rest h = (ap with_book h.0, h.1)
  stretches (suc n) b bytes b' rest h =
      let next = h.3 in (
        with_book h.0,
        h.1,
        stretches n b bytes h.0 h.1 h.2,
        record { next = next.next; first = next.first; accepts = accepts h.0 next.next.import next.next.export b' next.accepts; behind = next.behind },
      )

  -- one that is accepted is accepted by the book
  by_refusal : (b : BookState) (i e : ℕ) (s' : State) (f : Option BookFault) → hour_refusal i e b ≡ f → ReadingAccepted (with_book b) i e s' → HourAccepted b i e (with_next_hour i e b)
  by_refusal b i e s' None h a = (h, refl)
  by_refusal b i e s' (Some f) h a =
      absurd (differs _ _ s' (ap (λ (o : Outcome State). o.answer) (comes_of memory b i e ∙ ap (λ (f : Option BookFault). on_book account (by_book f (Some b) (Some (with_next_hour i e b)))) h)) (a memory))

  over_so : (b : BookState) (bytes : List ℕ) → Over HourAccepted b bytes → Over ReadingAccepted (with_book b) bytes
  over_so b bytes over s' rest next =
      over (with_next_hour next.next.import next.next.export b) rest
      (record { next = next.next; first = next.first; accepts = by_refusal b _ _ s' (hour_refusal next.next.import next.next.export b) refl next.accepts; behind = next.behind })

  -- the desk reads on as its book does
  pub read_on_so : (b : BookState) (bytes rest : List ℕ) (Stands : BookState → Type 0) (Means_so : State → Type 0) → ((b' : BookState) → Stands b' → Means_so (with_book b')) →
      ReadOn HourAccepted b bytes rest Stands → ReadOn ReadingAccepted (with_book b) bytes rest Means_so
  read_on_so b bytes rest Stands Means_so so r =
      record { readings = r.readings; after = with_book r.after; stretch = stretches r.readings b bytes r.after rest r.stretch; over = over_so r.after rest r.over; stands = so r.after r.stands }

-- no account is open, by the test of its month
no_account : (month : Option ℕ) → is_err (in_place month) ≡ true → month ≡ None
no_account None e = refl
no_account (Some m) e = let z : ◌≡◌ {A = ℕ} 0 1 = cc in absurd (omega arith)

-- and one is
an_account : (month : Option ℕ) → is_err (in_place month) ≡ false → (m : ℕ) × (month ≡ Some m)
an_account None e = let z : ◌≡◌ {A = ℕ} 0 1 = cc in absurd (omega arith)
an_account (Some m) e = (m, refl)

module _ (d : Desk) (s : State) (means : Means d s) (bytes : List ℕ) where
  -- where no account is open
  pub closed : (r : Result ℕ ProgramFault) → r ≡ in_place (own_month (account_of d.accounts)) → is_err r ≡ true → ReadOn ReadingAccepted s bytes bytes (Means d)
  closed r er e =
      let q : is_err (in_place (own_month (account_of d.accounts))) ≡ true = sym (ap is_err er) ∙ e in
      without_account s bytes (Means d) means (ap own_month (sym means.account) ∙ no_account _ q)

  -- where no book is open
  pub bookless : d.book ≡ None → ReadOn ReadingAccepted s bytes bytes (Means d)
  bookless e = without_book s bytes (Means d) means (subst (λ (o : Option OpenBook). BookHolds o s.book) e means.book)

  in_book : (month : ℕ) → own_month s.account ≡ Some month → (old new : OpenBook) (book : Option BookState) (rest : List ℕ) → s.book ≡ book → BookHolds (Some old) book →
      ((b : BookState) → Holds old b → ReadOn HourAccepted b bytes rest (Holds new)) → ReadOn ReadingAccepted s bytes rest (Means (record { accounts = d.accounts; book = Some new }))
  in_book month em old new None rest eb holds reads = absurd holds
  in_book month em old new (Some b) rest eb holds reads =
      let same : record { account = s.account; book = Some b } ≡ s = ap (λ (o : Option BookState). record { account = s.account; book = o }) (sym eb) in
      let after : Desk = record { accounts = d.accounts; book = Some new } in
      subst (λ (x : State). ReadOn ReadingAccepted x bytes rest (Means after)) same
      (read_on_so s.account month em b bytes rest (Holds new) (Means after) (λ b' h. record { account = means.account; book = h }) (reads b holds))

  -- the open book reads on
  pub both_open : (r : Result ℕ ProgramFault) → r ≡ in_place (own_month (account_of d.accounts)) → is_err r ≡ false → (old new : OpenBook) (rest : List ℕ) → d.book ≡ Some old →
      ((b : BookState) → Holds old b → ReadOn HourAccepted b bytes rest (Holds new)) → ReadOn ReadingAccepted s bytes rest (Means (record { accounts = d.accounts; book = Some new }))
  both_open r er e old new rest eb reads =
      let q : is_err (in_place (own_month (account_of d.accounts))) ≡ false = sym (ap is_err er) ∙ e in
      let m = an_account _ q in
      in_book m.0 (ap own_month (sym means.account) ∙ m.1) old new s.book rest refl (subst (λ (o : Option OpenBook). BookHolds o s.book) eb means.book) reads
