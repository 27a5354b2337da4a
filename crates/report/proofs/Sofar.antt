-- How far a run has come: what a record, a stretch of readings and the end make of it.
use Rattle.std.proofs.Common.{◌≡◌, ℕ, zero, suc, ◌+◌, ◌≤◌, ◌⊎◌, Bool, true, false, cond, List, [], ◌∷◌, ◌++◌, length, take, drop, OnErr, Some, None, Ok, Err, Option, Result, sym, refl, ap, ◌∙◌, subst, inl, inr, append_assoc, append-nil, min, arith, length-append, length-drop}
use Rattle.std.proofs.lemmas.List.{flat_map_more}
use Rattle.std.specs.List.{flat_map}
use Rattle.std.specs.declared.alloc.AllocError.{AllocError}
use Rattle.records.specs.Frames.{Framed, framed, first_frame, head_kind, whole, Gives}
use Rattle.records.specs.declared.left.Frames.{Frames}
use Rattle.records.specs.declared.frames.Placed.{Placed}
use Rattle.records.specs.Records.{decoded}
use Rattle.records.proofs.Heads.{framed_parts, framed_joined, framed_more}
use Rattle.records.proofs.First.{reads, reading_more}
use Rattle.answers.specs.Said.Said.{nothing}
use Rattle.desk.specs.declared.steps.Desk.{Desk}
use Rattle.desk.specs.State.{State, outset}
use Rattle.desk.specs.Outcome.{Outcome, accepted}
use Rattle.desk.specs.Stretch.{ReadingAccepted, NextAccepted, Stretch, ReadOn}
use Rattle.desk.specs.Means.{Means}
use Rattle.report.specs.Runs.{Entry, Trace, says, read_of, handled, outcome, answer_text, entry_text, first, entry_at, traced, trace, end_text, trace_text, report_text, program_memory}
use Rattle.report.specs.Laws.{Follows, ReadsPrices, NeedsMemory}
use Rattle.report.specs.Going.{onto, Going, Stands, GoesOn}
use Rattle.report.proofs.Traces.{traced_some, traced_none}

-- what holds holds at an error
pub at_error : {T : Type 0} (r : Result T AllocError) (N : Type 0) → N → OnErr r N
at_error (Ok x) N n = tt
at_error (Err y) N n = n

-- two texts that are nothing together are nothing each
no_front : (xs ys : List ℕ) → xs ++ ys ≡ [] → xs ≡ []
no_front [] ys e = refl
no_front (x ∷ xs) ys e = let z : ◌≡◌ {A = ℕ} 0 1 = cc in absurd (omega arith)

no_back : (xs ys : List ℕ) → xs ++ ys ≡ [] → ys ≡ []
no_back [] ys e = e
no_back (x ∷ xs) ys e = let z : ◌≡◌ {A = ℕ} 0 1 = cc in absurd (omega arith)

-- the text of records and of one more
joined_one : (es : List Entry) (e : Entry) → flat_map entry_text (es ++ (e ∷ [])) ≡ flat_map entry_text es ++ entry_text e
joined_one es e = sym (flat_map_more entry_text [] es e)

-- a text with nothing in it has nothing of any record
nothing_in : (es : List Entry) (e : Entry) (later : List Entry) (end : List ℕ) → flat_map entry_text (es ++ (e ∷ later)) ++ end ≡ [] → entry_text e ≡ []
nothing_in [] e later end none = no_front (entry_text e) (flat_map entry_text later ++ end) (sym (append_assoc (entry_text e) (flat_map entry_text later) end) ∙ none)
nothing_in (d ∷ es) e later end none =
    nothing_in es e later end (no_back (entry_text d) (flat_map entry_text (es ++ (e ∷ later)) ++ end) (sym (append_assoc (entry_text d) (flat_map entry_text (es ++ (e ∷ later))) end) ∙ none))

-- a trace onto records and one more
onto_one : (es : List Entry) (e : Entry) (t : Trace) → onto es (first e t) ≡ onto (es ++ (e ∷ [])) t
onto_one es e t = ap (λ l. record { entries = l; stop = t.stop; rest = t.rest }) (sym (append_assoc es (e ∷ []) t.entries))

-- the kind of a frame, or 0
abbrev kind_in : Option Framed → ℕ
kind_in None = 0
kind_in (Some f) = f.kind

-- a whole record's kind stands in its head
head_is : (bs : List ℕ) (b : Bool) (k : ℕ) (p r : List ℕ) → whole bs ≡ b → framed bs ≡ Some (record { kind = k; payload = p; rest = r }) → head_kind bs ≡ k
head_is bs true k p r w e = sym (ap (λ b. kind_in (cond b (Some (first_frame bs)) None)) w) ∙ ap kind_in e
head_is bs false k p r w e = let z : ◌≡◌ {A = Option Framed} None (Some (record { kind = k; payload = p; rest = r })) = sym (ap (λ b. cond b (Some (first_frame bs)) None) w) ∙ e in let y : ◌≡◌ {A = ℕ} 0 1 = cc in absurd (omega arith)

-- what the bytes of a record say is what its frame says
says_framed : (at : ℕ) (s : State) (bs : List ℕ) (f : Framed) → framed bs ≡ Some f → says (entry_at at s bs f).bytes ≡ decoded f.kind f.payload
says_framed at s bs f e =
    let j = framed_joined bs f e in
    ap (λ k. decoded k (drop 4 (take (4 + length f.payload) bs))) (head_is (take (4 + length f.payload) bs) (whole (take (4 + length f.payload) bs)) f.kind f.payload [] refl j.alone)
    ∙ ap (λ p. decoded f.kind p) (sym j.payload_is)

module _ (all out : List ℕ) (st : State) (at : ℕ) (rest : List ℕ) (sofar : Going all out st at rest) (f : Framed) (framed_so : framed rest ≡ Some f) where
  -- the record that comes next
  abbrev next : Entry
  next = entry_at at st rest f

  -- the trace from here on begins with it
  pub record Step : Type 0 where
    pub fuel : ℕ
    pub enough : length f.rest ≤ fuel
    pub entries : trace all ≡ onto (sofar.past ++ (next ∷ [])) (traced fuel (outcome next).after (at + (4 + length f.payload)) f.rest)

  step_by : (k : ℕ) → length rest ≤ k → trace all ≡ onto sofar.past (traced k st at rest) → Step
  step_by zero enough entries = let p = framed_parts rest f framed_so in absurd (omega (arith, p.rest_length))
  step_by (suc k) enough entries =
      let p = (framed_parts rest f framed_so).rest_length in
      record { fuel = k; enough = omega arith; entries = entries ∙ ap (onto sofar.past) (traced_some k st at rest f framed_so) ∙ onto_one sofar.past next _ }

  pub the_step : Step
  the_step = step_by sofar.fuel sofar.enough sofar.entries

  -- it follows the records so far
  pub follows : Follows all sofar.past next
  follows =
      let tail = traced the_step.fuel (outcome next).after (at + (4 + length f.payload)) f.rest in
      (tail.entries, ap (λ (t : Trace). t.entries) the_step.entries ∙ append_assoc sofar.past (next ∷ []) tail.entries)

  -- what it comes to
  outcome_is : outcome next ≡ handled st (decoded f.kind f.payload)
  outcome_is = ap (handled st) (says_framed at st rest f framed_so)

  -- one record more
  pub one_more : (out' : List ℕ) → out' ≡ out ++ answer_text at (handled st (decoded f.kind f.payload)).answer →
      Going all out' (handled st (decoded f.kind f.payload)).after (at + (4 + length f.payload)) f.rest
  one_more out' e =
      let p = (framed_parts rest f framed_so).rest_length in
      subst (λ (o : Outcome State). Going all out' o.after (at + (4 + length f.payload)) f.rest) outcome_is
      (record {
        past = sofar.past ++ (next ∷ []);
        fuel = the_step.fuel;
        enough = the_step.enough;
        place = omega (arith, sofar.place);
        entries = the_step.entries;
        text = e ∙ ap (λ o. o ++ answer_text at (handled st (decoded f.kind f.payload)).answer) sofar.text
            ∙ ap (λ (o : Outcome State). flat_map entry_text sofar.past ++ answer_text at o.answer) (sym outcome_is) ∙ sym (joined_one sofar.past next);
      })

  -- memory was wanting for its text, or for its prices
  pub wants : ((answer_text at (handled st (decoded f.kind f.payload)).answer ≡ [] → ⊥) ⊎ ReadsPrices (decoded f.kind f.payload)) → NeedsMemory all
  wants (inl some) =
      inl (λ none. some (ap (λ (o : Outcome State). answer_text at o.answer) (sym outcome_is) ∙ nothing_in sofar.past next follows.0 _ (ap (λ es. flat_map entry_text es ++ end_text (trace all).stop (trace all).rest) (sym follows.1) ∙ none)))
  wants (inr brings) = inr (sofar.past, next, follows, subst ReadsPrices (sym (says_framed at st rest f framed_so)) brings)

-- what is printed at the end of a file, from what is left of it
module _ (all out : List ℕ) (st : State) (at : ℕ) (rest : List ℕ) (sofar : Going all out st at rest) (none : framed rest ≡ None) where
  -- where no whole record follows, the text is that of the records so far and of the end
  text_so : report_text all ≡ out ++ end_text at rest
  text_so =
      ap trace_text (sofar.entries ∙ ap (onto sofar.past) (traced_none sofar.fuel st at rest none))
      ∙ ap (λ es. flat_map entry_text es ++ end_text at rest) (append-nil sofar.past)
      ∙ ap (λ o. o ++ end_text at rest) (sym sofar.text)

  -- where memory is wanting for the end
  wants_end : (end_text at rest ≡ [] → ⊥) → NeedsMemory all
  wants_end some = inl (λ empty. some (no_back out (end_text at rest) (sym text_so ∙ empty)))

-- the whole file was printed
pub finished : (all out out' : List ℕ) (d : Desk) (at : ℕ) (rest : List ℕ) → Stands all out d at rest → framed rest ≡ None → out' ≡ out ++ end_text at rest → out' ≡ report_text all
finished all out out' d at rest (st, means, sofar) none e = e ∙ sym (text_so all out st at rest sofar none)

-- or there was no memory for its end
pub no_end : (all out : List ℕ) (d : Desk) (at : ℕ) (rest : List ℕ) → Stands all out d at rest → framed rest ≡ None → (end_text at rest ≡ [] → ⊥) → NeedsMemory all
no_end all out d at rest (st, means, sofar) none some = wants_end all out st at rest sofar none some

-- at the beginning of a file, of which more comes later
pub start : (all out : List ℕ) (d : Desk) (at : ℕ) (rest later : List ℕ) → out ≡ [] → Means d outset → at ≡ 0 → rest ++ later ≡ all → Stands all out d at (rest ++ later)
start all out d at rest later e means place whole =
    let begun : Going all out outset 0 all = record { past = []; fuel = length all; enough = omega arith; place = omega arith; entries = refl; text = e } in
    (outset, means, subst (λ (n : ℕ). Going all out outset n (rest ++ later)) (sym place) (subst (Going all out outset 0) (sym whole) begun))

-- a file of which nothing comes later
pub no_more : (all out : List ℕ) (d : Desk) (at : ℕ) (rest : List ℕ) → Stands all out d at (rest ++ []) → Stands all out d at rest
no_more all out d at rest stands = subst (Stands all out d at) (append-nil rest) stands

-- a run over a file that is there whole
module _ (all out : List ℕ) (d : Desk) (s : Frames) (e : out ≡ []) (means : Means d outset) (place : s.place ≡ 0) (rest : s.rest.now ≡ all) where
  begun : Stands all out d s.place (s.rest.now ++ [])
  begun = start all out d s.place s.rest.now [] e means place (append-nil s.rest.now ∙ rest)

  -- memory was wanting for one of its records
  pub record_wants : ((all later : List ℕ) → Stands all out d s.place (s.rest.now ++ later) → NeedsMemory all) → NeedsMemory all
  record_wants wanting = wanting all [] begun

  module _ (out' : List ℕ) (d' : Desk) (t : Frames) (goes : GoesOn out d s.place s.rest.now out' d' t.place t.rest.now) (none : framed t.rest.now ≡ None) (at : ℕ) (left : List ℕ) (here : at ≡ t.place)
      (is : left ≡ t.rest.now) where
    stands : Stands all out' d' at left
    stands =
        let there : Stands all out' d' t.place t.rest.now = no_more all out' d' t.place t.rest.now (goes all [] begun) in
        subst (λ (n : ℕ). Stands all out' d' n left) (sym here) (subst (Stands all out' d' t.place) (sym is) there)

    -- or for its end
    pub end_wants : (end_text at left ≡ [] → ⊥) → NeedsMemory all
    end_wants some = no_end all out' d' at left stands (ap framed is ∙ none) some

    -- or all was printed
    pub all_printed : (text : List ℕ) → text ≡ out' ++ end_text at left → text ≡ report_text all
    all_printed text ends = finished all out' text d' at left stands (ap framed is ∙ none) ends

module _ (out : List ℕ) (d : Desk) (s t : Frames) (p : Placed) (gives : Gives s p t) where
  -- the frame that was found, with what comes later behind it
  abbrev found : List ℕ → Framed
  found later = record { kind = p.frame.kind; payload = p.frame.payload.now; rest = p.frame.rest.now ++ later }

  framed_so : (later : List ℕ) → framed (s.rest.now ++ later) ≡ Some (found later)
  framed_so later = framed_more s.rest.now later _ gives.frame

  -- the run goes on after a record
  pub serves : (out' : List ℕ) (d' : Desk) → ((st : State) → Means d st → Means d' (handled st (read_of p.frame)).after) →
      ((st : State) → Means d st → out' ≡ out ++ answer_text p.place (handled st (read_of p.frame)).answer) → GoesOn out d s.place s.rest.now out' d' t.place t.rest.now
  serves out' d' stands text all later (st, means, sofar) =
      let now : Going all out' (handled st (read_of p.frame)).after (s.place + (4 + length p.frame.payload.now)) (p.frame.rest.now ++ later) =
      one_more all out st s.place (s.rest.now ++ later) sofar (found later) (framed_so later) out' (text st means ∙ ap (λ (n : ℕ). out ++ answer_text n (handled st (read_of p.frame)).answer) gives.place) in
      let l = (framed_parts s.rest.now _ gives.frame).rest_length in
      let same = ap (λ (xs : List ℕ). length xs) gives.behind in
      let place : t.place ≡ s.place + (4 + length p.frame.payload.now) = omega (arith, gives.end) in (
        (handled st (read_of p.frame)).after,
        stands st means,
        subst (λ (n : ℕ). Going all out' (handled st (read_of p.frame)).after n (t.rest.now ++ later)) (sym place)
            (subst (λ (xs : List ℕ). Going all out' (handled st (read_of p.frame)).after (s.place + (4 + length p.frame.payload.now)) (xs ++ later)) (sym gives.behind) now),
      )

  -- or memory was wanting
  pub stops_for : ((st : State) → Means d st → (answer_text p.place (handled st (read_of p.frame)).answer ≡ [] → ⊥) ⊎ ReadsPrices (read_of p.frame)) →
      (all later : List ℕ) → Stands all out d s.place (s.rest.now ++ later) → NeedsMemory all
  stops_for w all later (st, means, sofar) =
      wants all out st s.place (s.rest.now ++ later) sofar (found later) (framed_so later)
      (subst (λ (n : ℕ). (answer_text n (handled st (read_of p.frame)).answer ≡ [] → ⊥) ⊎ ReadsPrices (read_of p.frame)) gives.place (w st means))

  -- so of a loop that had come so far
  pub wanting : {T : Type 0} (r : Result T AllocError) (out0 : List ℕ) (d0 : Desk) (at0 : ℕ) (rest0 : List ℕ) → GoesOn out0 d0 at0 rest0 out d s.place s.rest.now →
      ((st : State) → Means d st → (answer_text p.place (handled st (read_of p.frame)).answer ≡ [] → ⊥) ⊎ ReadsPrices (read_of p.frame)) →
      OnErr r ((all later : List ℕ) → Stands all out0 d0 at0 (rest0 ++ later) → NeedsMemory all)
  wanting r out0 d0 at0 rest0 goes w =
      at_error r ((all later : List ℕ) → Stands all out0 d0 at0 (rest0 ++ later) → NeedsMemory all) (λ all later stands. stops_for w all later (goes all later stands))

-- a reading that is accepted prints nothing, and the run goes on behind it
quiet_one : (all out : List ℕ) (st : State) (at : ℕ) (rest later : List ℕ) (st' : State) (rest' : List ℕ) → Going all out st at (rest ++ later) → NextAccepted ReadingAccepted st rest st' rest' →
    (at' : ℕ) × Going all out st' at' (rest' ++ later)
quiet_one all out st at rest later st' rest' sofar next =
    let one = reads (rest ++ later) _ (reading_more rest later next.next next.first) in
    let comes : handled st (decoded one.frame.kind one.frame.payload) ≡ accepted nothing st' = ap (handled st) one.says ∙ next.accepts program_memory in
    let text : out ≡ out ++ answer_text at (handled st (decoded one.frame.kind one.frame.payload)).answer =
    sym (append-nil out) ∙ ap (λ (o : Outcome State). out ++ answer_text at o.answer) (sym comes) in (
      at + (4 + length one.frame.payload),
      subst (λ (bs : List ℕ). Going all out st' (at + (4 + length one.frame.payload)) bs) (sym (ap (λ (xs : List ℕ). xs ++ later) next.behind ∙ one.behind))
          (subst (λ (o : Outcome State). Going all out o.after (at + (4 + length one.frame.payload)) one.frame.rest) comes
          (one_more all out st at (rest ++ later) sofar one.frame one.framed_so out text)),
    )

-- so do all those of a stretch
quiet : (n : ℕ) (all out : List ℕ) (st : State) (at : ℕ) (rest later : List ℕ) (st' : State) (rest' : List ℕ) → Going all out st at (rest ++ later) → Stretch ReadingAccepted n st rest st' rest' →
    (at' : ℕ) × Going all out st' at' (rest' ++ later)
quiet zero all out st at rest later st' rest' sofar h =
    (at, subst (λ (x : State). Going all out x at (rest' ++ later)) (sym h.0) (subst (λ (xs : List ℕ). Going all out st at (xs ++ later)) (sym h.1) sofar))
quiet (suc n) all out st at rest later st' rest' sofar h =
    let before = quiet n all out st at rest later h.0 h.1 sofar h.2 in
    quiet_one all out h.0 before.0 h.1 later st' rest' before.1 h.3

-- the run goes on after a stretch of them
pub reads_on : (out : List ℕ) (d d' : Desk) (at : ℕ) (rest : List ℕ) (count at' : ℕ) (rest' : List ℕ) → count ≤ length rest →
    ((s : State) → Means d s → ReadOn ReadingAccepted s rest (drop count rest) (Means d')) → at' ≡ at + min count (length rest) → rest' ≡ drop count rest → GoesOn out d at rest out d' at' rest'
reads_on out d d' at rest count at' rest' within read place behind all later (st, means, sofar) =
    let r = read st means in
    let q = quiet r.readings all out st at rest later r.after (drop count rest) sofar r.stretch in
    let l = length-drop count rest in
    let l1 = length-append rest later in
    let l2 = length-append (drop count rest) later in
    let here : q.0 ≡ at' = omega (arith, sofar.place, q.1.place) in
    (r.after, r.stands, subst (λ (n : ℕ). Going all out r.after n (rest' ++ later)) here (subst (λ (xs : List ℕ). Going all out r.after q.0 (xs ++ later)) (sym behind) q.1))
