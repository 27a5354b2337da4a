-- A trace in order: where each record stands, and that no byte is lost.
use Rattle.std.proofs.Common.{◌≡◌, ℕ, zero, suc, ◌+◌, ◌≤◌, List, [], ◌∷◌, ◌++◌, length, take, Some, None, Option, sym, refl, ap, ◌∙◌, subst, arith, length-append}
use Rattle.std.proofs.lemmas.List.{append_assoc, nil_from_length}
use Rattle.records.specs.Frames.{Framed, framed, head_length}
use Rattle.records.proofs.Heads.{framed_parts, framed_joined}
use Rattle.desk.specs.State.{State, outset}
use Rattle.report.specs.Runs.{Entry, Trace, outcome, first, no_record, entry_at, traced, trace}
use Rattle.report.specs.Laws.{bytes_of, EveryByte, Continues}
use Rattle.report.proofs.Traces.{traced_some, traced_none}

-- the state after these records, from an earlier one
abbrev pub state_after : State → List Entry → State
state_after s [] = s
state_after s (e ∷ es) = state_after (outcome e).after es

-- e stands right after the records `earlier`, of which the first is at this place and state, and is as long as its head says
pub record Stands (s : State) (at : ℕ) (earlier : List Entry) (e : Entry) : Type 0 where
  pub place : e.place ≡ at + length (bytes_of earlier)
  pub before : e.before ≡ state_after s earlier
  pub long : length e.bytes ≡ 4 + head_length e.bytes

-- a trace has the bytes in order
pub record InOrder (s : State) (at : ℕ) (bs : List ℕ) (t : Trace) : Type 0 where
  pub in_order : bytes_of t.entries ++ t.rest ≡ bs
  pub stands : (earlier : List Entry) (e : Entry) (later : List Entry) → t.entries ≡ earlier ++ (e ∷ later) → Stands s at earlier e
  pub no_more : framed t.rest ≡ None
  pub stops : t.stop ≡ at + length (bytes_of t.entries)

-- no record is in an empty list
none_stands : (s : State) (at : ℕ) (earlier : List Entry) (e : Entry) (later : List Entry) → [] ≡ earlier ++ (e ∷ later) → Stands s at earlier e
none_stands s at [] e later h = let z : ◌≡◌ {A = ℕ} 0 1 = cc in absurd (omega arith)
none_stands s at (d ∷ earlier) e later h = let z : ◌≡◌ {A = ℕ} 0 1 = cc in absurd (omega arith)

-- bytes that hold no whole record have a trace without records
no_record_in_order : (s : State) (at : ℕ) (bs : List ℕ) → framed bs ≡ None → InOrder s at bs (no_record at bs)
no_record_in_order s at bs none = record { in_order = refl; stands = none_stands s at; no_more = none; stops = omega arith }

-- goes by the first record of the bytes, if they hold one
by_first : {P : Type 0} (bs : List ℕ) (o : Option Framed) → framed bs ≡ o → (framed bs ≡ None → P) → ((f : Framed) → framed bs ≡ Some f → P) → P
by_first bs None e none some = none e
by_first bs (Some f) e none some = some f e

module _ (s : State) (at : ℕ) (bs : List ℕ) (f : Framed) (some : framed bs ≡ Some f) where
  -- the bytes of the first record
  abbrev front : List ℕ
  front = take (4 + length f.payload) bs

  -- they are as many as its frame says
  front_length : length front ≡ 4 + length f.payload
  front_length = omega (arith, (framed_parts front _ (framed_joined bs f some).alone).rest_length)

  -- and as its own head says
  front_head : length front ≡ 4 + head_length front
  front_head = front_length ∙ ap (λ n. 4 + n) (framed_parts front _ (framed_joined bs f some).alone).payload_length

  -- a trace whose first record it is
  abbrev with_first : Trace → Trace
  with_first t = first (entry_at at s bs f) t

  -- the trace of the bytes after it is in order
  abbrev AfterFirst : Trace → Type 0
  AfterFirst t = InOrder (outcome (entry_at at s bs f)).after (at + (4 + length f.payload)) f.rest t

  -- each record of the trace stands in it
  first_stands : (t : Trace) → AfterFirst t → (earlier : List Entry) (e : Entry) (later : List Entry) → (with_first t).entries ≡ earlier ++ (e ∷ later) → Stands s at earlier e
  first_stands t after [] e later h =
      let same : entry_at at s bs f ≡ e = cc in
      subst (λ d. Stands s at [] d) same (record { place = omega arith; before = refl; long = front_head })
  first_stands t after (d ∷ earlier) e later h =
      let same : entry_at at s bs f ≡ d = cc in
      let there = after.stands earlier e later (cc) in
      let l = length-append front (bytes_of earlier) in
      let k = front_length in
      subst (λ d. Stands s at (d ∷ earlier) e) same (record { place = omega arith; before = there.before; long = there.long })

  -- the trace is in order
  first_in_order : (t : Trace) → AfterFirst t → InOrder s at bs (with_first t)
  first_in_order t after =
      let l = length-append front (bytes_of t.entries) in
      let k = front_length in
      record {
        in_order = append_assoc front (bytes_of t.entries) t.rest ∙ ap (λ r. front ++ r) after.in_order ∙ (framed_joined bs f some).joined;
        stands = first_stands t after;
        no_more = after.no_more;
        stops = omega arith;
      }

-- every trace is in order
pub traced_in_order : (k : ℕ) (s : State) (at : ℕ) (bs : List ℕ) → length bs ≤ k → InOrder s at bs (traced k s at bs)
traced_in_order zero s at bs short =
    let none : framed bs ≡ None = ap framed (nil_from_length bs (omega arith)) in
    subst (InOrder s at bs) (sym (traced_none zero s at bs none)) (no_record_in_order s at bs none)
traced_in_order (suc k) s at bs short =
    by_first bs (framed bs) refl
    (λ none. subst (InOrder s at bs) (sym (traced_none (suc k) s at bs none)) (no_record_in_order s at bs none))
    (λ f some. subst (InOrder s at bs) (sym (traced_some k s at bs f some)) (first_in_order s at bs f some _ (traced_in_order k _ _ f.rest (omega (arith, (framed_parts bs f some).rest_length)))))

-- the trace of a file is in order
pub run_in_order : (input : List ℕ) → InOrder outset 0 input (trace input)
run_in_order input = traced_in_order (length input) outset 0 input (omega arith)

-- every byte of a file belongs to exactly one record, or to what is left
pub every_byte : (input : List ℕ) → EveryByte input
every_byte input =
    let run = run_in_order input in
    record {
      in_order = run.in_order;
      begins = λ earlier e follows. omega (arith, (run.stands earlier e follows.0 follows.1).place);
      as_long = λ earlier e follows. (run.stands earlier e follows.0 follows.1).long;
      no_more = run.no_more;
      stops = omega arith;
    }

-- the state after records of which d is the last
state_after_last : (s : State) (earlier : List Entry) (d : Entry) → state_after s (earlier ++ (d ∷ [])) ≡ (outcome d).after
state_after_last s [] d = refl
state_after_last s (e ∷ es) d = state_after_last (outcome e).after es d

-- a run takes up where the record before it left off
pub continues : (input : List ℕ) → Continues input
continues input earlier d e follows = ((run_in_order input).stands (earlier ++ (d ∷ [])) e follows.0 follows.1).before ∙ state_after_last outset earlier d
