-- A trace by its first record.
use Rattle.std.proofs.Common.{◌≡◌, ℕ, zero, suc, ◌+◌, List, length, Some, None, Option, refl, ap}
use Rattle.records.specs.Frames.{Framed, framed}
use Rattle.desk.specs.State.{State}
use Rattle.report.specs.Runs.{first, no_record, by_frame, entry_at, outcome, traced}

-- where a whole record is first
pub traced_some : (k : ℕ) (s : State) (at : ℕ) (bs : List ℕ) (f : Framed) → framed bs ≡ Some f →
    traced (suc k) s at bs ≡ first (entry_at at s bs f) (traced k (outcome (entry_at at s bs f)).after (at + (4 + length f.payload)) f.rest)
unfolding traced
traced_some k s at bs f e = ap (λ (o : Option Framed). by_frame o (no_record at bs) (λ f. first (entry_at at s bs f) (traced k (outcome (entry_at at s bs f)).after (at + (4 + length f.payload)) f.rest))) e

-- where none is
pub traced_none : (k : ℕ) (s : State) (at : ℕ) (bs : List ℕ) → framed bs ≡ None → traced k s at bs ≡ no_record at bs
unfolding traced
traced_none zero s at bs e = refl
traced_none (suc k) s at bs e = ap (λ (o : Option Framed). by_frame o (no_record at bs) (λ f. first (entry_at at s bs f) (traced k (outcome (entry_at at s bs f)).after (at + (4 + length f.payload)) f.rest))) e
