-- After every record of a run the account keeps its promise.
use Rattle.std.proofs.Common.{◌≡◌, ℕ, zero, suc, List, [], ◌∷◌, ◌++◌, length, Some, None, Option, subst, arith}
use Rattle.records.specs.Frames.{Framed, framed}
use Rattle.desk.specs.State.{State, outset}
use Rattle.report.specs.Runs.{Entry, Trace, by_frame, entry_at, outcome, traced}
use Rattle.report.specs.Past.{Past, past_after, past_from, past_of}
use Rattle.report.specs.Past.Past.{no_account}
use Rattle.report.specs.Laws.{PromisesKept}
use Rattle.report.proofs.Having.{HadBy, kept, had_after}

-- after every one of these records the account has had the calls of the past up to it
abbrev HadAt : Past → List Entry → Type 0
HadAt p es = (earlier : List Entry) (e : Entry) (later : List Entry) → es ≡ earlier ++ (e ∷ later) → HadBy (past_from p (earlier ++ (e ∷ []))) (outcome e).after.account

-- there is no record to show it of
had_at_none : (p : Past) → HadAt p []
had_at_none p [] e later eq = let z : ◌≡◌ {A = ℕ} 0 1 = cc in absurd (omega arith)
had_at_none p (d ∷ earlier) e later eq = let z : ◌≡◌ {A = ℕ} 0 1 = cc in absurd (omega arith)

-- it holds of the first record and of those after it
had_at_first : (p : Past) (d : Entry) (es : List Entry) → HadBy (past_after p d) (outcome d).after.account → HadAt (past_after p d) es → HadAt p (d ∷ es)
had_at_first p d es had rest [] e later eq =
    let same : d ≡ e = cc in subst (λ (x : Entry). HadBy (past_after p x) (outcome x).after.account) same had
had_at_first p d es had rest (c ∷ earlier) e later eq =
    let same : d ≡ c = cc in
    let tail : es ≡ earlier ++ (e ∷ later) = cc in
    subst (λ (x : Entry). HadBy (past_from (past_after p x) (earlier ++ (e ∷ []))) (outcome e).after.account) same (rest earlier e later tail)

-- what holds with no frame and with each holds with the one there may be
with_frame : {X : Type 0} (P : X → Type 0) (o : Option Framed) {none : X} {some : Framed → X} → P none → ((f : Framed) → P (some f)) → P (by_frame o none some)
with_frame P None none some = none
with_frame P (Some f) none some = some f

-- so it is from any state whose account has had the calls of a past
had_traced : (k : ℕ) (s : State) (at : ℕ) (bs : List ℕ) (p : Past) → HadBy p s.account → HadAt p (traced k s at bs).entries
unfolding traced
had_traced zero s at bs p had = had_at_none p
had_traced (suc k) s at bs p had =
    with_frame (λ (t : Trace). HadAt p t.entries) (framed bs) (had_at_none p)
    (λ f. let after = had_after p (entry_at at s bs f) had in had_at_first p (entry_at at s bs f) _ after (had_traced k _ _ _ _ after))

-- at the outset no account is open and none has a past
pub keeps_promises : (input : List ℕ) → PromisesKept input
keeps_promises input earlier e follows =
    kept (past_of (earlier ++ (e ∷ []))) (outcome e).after.account (had_traced (length input) outset 0 input no_account tt earlier e follows.0 follows.1)
