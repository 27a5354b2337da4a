-- A complete book.
use Rattle.std.proofs.Common.{◌≡◌, ℕ, ◌<◌, length, Some, None, Ok, Err, Result, sym, ap, ◌∙◌, subst}
use Rattle.std.proofs.lemmas.Result.{err_from_is_err_and}
use Rattle.std.specs.Result.{MatchResult, IsErrAnd}
use Rattle.faults.specs.declared.BookFault.TheVariants.{HoursMissing}
use Rattle.calendar.specs.Hour.{month_hours}
use Rattle.hours.specs.Reading.{hours_of}
use Rattle.hours.specs.Month.{Finished}
use Rattle.hours.specs.declared.book.Book.{Book}
use Rattle.hours.specs.declared.book.Unfinished.{Unfinished}
use Rattle.hours.specs.declared.sums.MonthSums.{MonthSums}
use Rattle.hours.proofs.Closing.{none_missing, some_missing}
use Rattle.hours.proofs.Summed.{finished_sums}
use Rattle.desk.specs.declared.book.OpenBook.{OpenBook}
use Rattle.desk.specs.declared.book.Incomplete.{Incomplete}
use Rattle.desk.specs.State.{BookState}
use Rattle.desk.specs.Books.{finish_refusal, book_sums}
use Rattle.desk.specs.Means.{Holds, Kept}

-- a book that has all its hours is not refused
pub complete : (b : OpenBook) (s : BookState) → Holds b s → b.book.tally.hours ≡ hours_of b.book.terms → finish_refusal s ≡ None
complete b s holds e = none_missing (month_hours s.month) s.hours (sym holds.read.hours ∙ e ∙ ap month_hours holds.month)

-- a book that has fewer is
missing : (b : OpenBook) (s : BookState) → Holds b s → b.book.tally.hours < hours_of b.book.terms → finish_refusal s ≡ Some HoursMissing
missing b s holds less =
    some_missing (month_hours s.month) s.hours (subst (λ (n : ℕ). length s.hours < n) (ap month_hours holds.month) (subst (λ (n : ℕ). n < hours_of b.book.terms) holds.read.hours less))

-- what the month book inside answers when it is finished
abbrev pub Answered : OpenBook → Result MonthSums Unfinished → Type 0
Answered b (Ok sums) = Finished b.book.terms b.book.tally sums.month sums.totals
Answered b (Err u) = (b.book.tally.hours < hours_of b.book.terms) × (u.fault ≡ HoursMissing) × (u.book ≡ b.book)

-- and what an open book does
abbrev pub Answers : BookState → Result MonthSums Incomplete → Type 0
Answers s (Ok sums) = (finish_refusal s ≡ None) × (book_sums s ≡ Some sums)
Answers s (Err back) = Kept s back.fault back.open

-- the book inside with the rest of the open book around it
abbrev pub around : OpenBook → Unfinished → Incomplete
around b u = record { fault = u.fault; «open» = record { month = b.month; book = u.book; prices = b.prices } }

-- the open book answers what the month book inside does
pub passed_on : (b : OpenBook) (s : BookState) → Holds b s → (done : Result MonthSums Unfinished) (r : Result MonthSums Incomplete) (Gives : Unfinished → Incomplete → Type 0) →
    Answered b done → MatchResult done (λ sums. r ≡ Ok sums) (λ u. IsErrAnd r (Gives u)) → ((u : Unfinished) (back : Incomplete) → Gives u back → back ≡ around b u) → Answers s r
passed_on b s holds (Ok sums) r Gives answered cases gives =
    subst (Answers s) (sym cases)
    (complete b s holds answered.complete, finished_sums b.book.terms b.book.tally s.month s.marks s.sale s.hours _ holds.sales holds.month holds.zones holds.read answered)
passed_on b s holds (Err u) r Gives answered cases gives =
    let p = err_from_is_err_and r cases in
    let same = ap (λ (x : Book). record { month = b.month; book = x; prices = b.prices }) answered.2 in
    subst (Answers s) (sym (p.1 ∙ ap Err (gives u _ p.2)))
    (missing b s holds answered.0 ∙ ap Some (sym answered.1), subst (λ (o : OpenBook). Holds o s) (sym same) holds)
