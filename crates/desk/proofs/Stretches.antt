-- A book that reads on, reading by reading.
use Rattle.std.proofs.Common.{◌≡◌, ℕ, suc, true, false, List, Some, None, Ok, Err, Result, sym, refl, ap, ◌∙◌, arith}
use Rattle.faults.specs.declared.BookFault.{BookFault}
use Rattle.records.specs.Readings.{FirstReading, first_reading}
use Rattle.records.specs.Frames.{Behind}
use Rattle.records.proofs.First.{behind_more, behind_none, reading_behind}
use Rattle.desk.specs.declared.book.OpenBook.{OpenBook}
use Rattle.desk.specs.State.{BookState}
use Rattle.desk.specs.Books.{hour_refusal, with_next_hour}
use Rattle.desk.specs.Stretch.{HourAccepted, Stretch, Over, ReadOn}
use Rattle.desk.specs.Means.{Holds, HoldsAfter}
use Rattle.std.specs.Result.{is_err}

-- of the bytes, what precedes `rest` has been read by the book b0, which is now b
pub record Went (b0 : OpenBook) (bytes : List ℕ) (b : OpenBook) (rest : List ℕ) : Type 0 where
  pub by : (s : BookState) → Holds b0 s → (n : ℕ) × (s' : BookState) × Stretch HourAccepted n s bytes s' rest × Holds b s'
  pub left : Behind bytes rest

-- nothing yet
pub set_out : (b : OpenBook) (bytes : List ℕ) → Went b bytes b bytes
set_out b bytes = record { by = λ s h. (0, s, (refl, refl), h); left = behind_none bytes }

-- what reading an hour made of the book
abbrev pub Reads : OpenBook → FirstReading → Result (Unit {0}) BookFault → OpenBook → Type 0
Reads b r result b' = (s : BookState) → Holds b s → HoldsAfter (hour_refusal r.import r.export s) s (with_next_hour r.import r.export s) result b'

-- nothing is accepted where no reading is first
none_next : (s : BookState) (rest : List ℕ) → first_reading rest ≡ None → Over HourAccepted s rest
none_next s rest none s' rest' next = let e = next.first in let z : ◌≡◌ {A = ℕ} 0 1 = cc in absurd (omega arith)

-- nor where the first is refused
refused_next : (s : BookState) (rest : List ℕ) (r : FirstReading) (f : BookFault) → first_reading rest ≡ Some r → hour_refusal r.import r.export s ≡ Some f → Over HourAccepted s rest
refused_next s rest r f first refusal s' rest' next =
    let q : Some r ≡ Some next.next = sym first ∙ next.first in
    let same : r ≡ next.next = cc in
    let none : hour_refusal r.import r.export s ≡ None = ap (λ (x : FirstReading). hour_refusal x.import x.export s) same ∙ next.accepts.0 in
    let z : ◌≡◌ {A = ℕ} 0 1 = cc in absurd (omega arith)

module _ (b0 : OpenBook) (bytes : List ℕ) (b : OpenBook) (rest : List ℕ) (went : Went b0 bytes b rest) where
  -- a reading is accepted
  pub goes_on : (r : FirstReading) (result : Result (Unit {0}) BookFault) (b' : OpenBook) → first_reading rest ≡ Some r → Reads b r result b' → is_err result ≡ false → Went b0 bytes b' r.rest
  goes_on r (Ok u) b' first reads ok = record {
    by = λ s h.
        let w = went.by s h in
        let now = reads w.1 w.3 in
        (suc w.0, with_next_hour r.import r.export w.1, (w.1, rest, w.2, record { next = r; first = first; accepts = (now.0, refl); behind = refl }), now.1);
    left = behind_more bytes rest r.rest went.left (reading_behind rest r first);
  }
  goes_on r (Err f) b' first reads ok = let z : ◌≡◌ {A = ℕ} 0 1 = cc in absurd (omega arith)

  -- no reading is next
  pub ended : first_reading rest ≡ None → (s : BookState) → Holds b0 s → ReadOn HourAccepted s bytes rest (Holds b)
  ended none s h =
      let w = went.by s h in
      record { readings = w.0; after = w.1; stretch = w.2; over = none_next w.1 rest none; stands = w.3 }

  -- the next reading is refused
  pub refused : (r : FirstReading) (result : Result (Unit {0}) BookFault) (b' : OpenBook) → first_reading rest ≡ Some r → Reads b r result b' → is_err result ≡ true → (s : BookState) → Holds b0 s → ReadOn HourAccepted s bytes rest (Holds b')
  refused r (Ok u) b' first reads err s h = let z : ◌≡◌ {A = ℕ} 0 1 = cc in absurd (omega arith)
  refused r (Err f) b' first reads err s h =
      let w = went.by s h in
      let now = reads w.1 w.3 in
      record { readings = w.0; after = w.1; stretch = w.2; over = refused_next w.1 rest r f first now.0; stands = now.1 }
