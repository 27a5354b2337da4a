-- A run over a file of which more is to come from its source.
use Rattle.std.proofs.Common.{◌≡◌, ℕ, ◌-◌, List, [], ◌++◌, length, drop, Some, None, Option, sym, refl, ap, ◌∙◌, subst, append_assoc, append-nil, arith}
use Rattle.std.proofs.lemmas.List.{nil_from_length}
use Rattle.std.specs.Io.KnownBytes.{Consumes, IsAtEnd}
use Rattle.std.specs.Prelude.{IfSome}
use Rattle.records.specs.Frames.{framed, Behind}
use Rattle.records.specs.declared.left.Frames.{Frames}
use Rattle.desk.specs.declared.steps.Desk.{Desk}
use Rattle.desk.specs.State.{outset}
use Rattle.desk.specs.Means.{Means}
use Rattle.report.specs.Runs.{end_text, report_text}
use Rattle.report.specs.Going.{Stands, GoesOn}
use Rattle.report.proofs.Sofar.{start, no_more, finished}

-- if the source's bytes were known, they still are, and those that are held come before them in the file; no whole record is held
abbrev pub Coming : (old now : Option (List ℕ)) (out : List ℕ) → Desk → ℕ → (held : List ℕ) → Type 0
Coming old now out d at held = (file : List ℕ) → old ≡ Some file → (later : List ℕ) × (now ≡ Some later) × Stands file out d at (held ++ later) × (framed held ≡ None)

-- at the beginning nothing is held
pub sets_out : (old : Option (List ℕ)) (out : List ℕ) (d : Desk) (held : List ℕ) → out ≡ [] → held ≡ [] → Means d outset → Coming old old out d 0 held
sets_out old out d held e none means file known =
    (file, known, start file out d 0 held file e means refl (ap (λ xs. xs ++ file) none), ap framed none)

-- bytes that are known and consumed
consumed : (now now' : Option (List ℕ)) (later piece : List ℕ) → Consumes now now' piece → now ≡ Some later → (later' : List ℕ) × (now' ≡ Some later') × (later ≡ piece ++ later')
consumed None now' later piece c e = let z : ◌≡◌ {A = ℕ} 0 1 = cc in absurd (omega arith)
consumed (Some xs) None later piece c e = absurd c
consumed (Some xs) (Some ys) later piece c e = let q : xs ≡ later = cc in (ys, refl, sym q ∙ c)

-- at the end of the source
ended : (now : Option (List ℕ)) (later : List ℕ) → IsAtEnd now → now ≡ Some later → later ≡ []
ended None later a e = let z : ◌≡◌ {A = ℕ} 0 1 = cc in absurd (omega arith)
ended (Some xs) later a e = let q : xs ≡ later = cc in sym q ∙ a

module _ (old now now' : Option (List ℕ)) (out : List ℕ) (d : Desk) (at : ℕ) (held held' piece : List ℕ) (coming : Coming old now out d at held) (consumes : Consumes now now' piece)
    (grown : held' ≡ held ++ piece) where
  -- a piece came, of which these bytes are left when its whole records are served
  pub more_served : (s t : Frames) (out' : List ℕ) (d' : Desk) (at' : ℕ) (kept : List ℕ) → s.place ≡ at → s.rest.now ≡ held' → GoesOn out d s.place s.rest.now out' d' t.place t.rest.now → framed t.rest.now ≡ None →
      at' ≡ t.place → kept ≡ t.rest.now → Coming old now' out' d' at' kept
  more_served s t out' d' at' kept place bytes goes none place' same file known =
      let c = coming file known in
      let m = consumed now now' c.0 piece consumes c.1 in
      let whole : s.rest.now ++ m.0 ≡ held ++ c.0 = ap (λ xs. xs ++ m.0) (bytes ∙ grown) ∙ append_assoc held piece m.0 ∙ ap (λ xs. held ++ xs) (sym m.2) in
      let before : Stands file out d s.place (s.rest.now ++ m.0) = subst (λ (n : ℕ). Stands file out d n (s.rest.now ++ m.0)) (sym place) (subst (Stands file out d at) (sym whole) c.2) in
      let after : Stands file out' d' at' (t.rest.now ++ m.0) = subst (λ (n : ℕ). Stands file out' d' n (t.rest.now ++ m.0)) (sym place') (goes file m.0 before) in
      (m.0, m.1, subst (λ (xs : List ℕ). Stands file out' d' at' (xs ++ m.0)) (sym same) after, ap framed same ∙ none)

  -- no piece came: what is held is the end of the file
  pub over : (n : ℕ) (text : List ℕ) → n ≡ length piece → n ≡ 0 → (n ≡ 0 → IsAtEnd now') → (end : List ℕ) → end ≡ held' → text ≡ out ++ end_text at end → (file : List ℕ) → old ≡ Some file → text ≡ report_text file
  over n text long none at_end end is ends file known =
      let c = coming file known in
      let m = consumed now now' c.0 piece consumes c.1 in
      let empty : piece ≡ [] = nil_from_length piece (omega arith) in
      let same : held' ≡ held = grown ∙ ap (λ xs. held ++ xs) empty ∙ append-nil held in
      let rest : c.0 ≡ [] = m.2 ∙ ap (λ xs. xs ++ m.0) empty ∙ ended now' m.0 (at_end none) m.1 in
      let stands : Stands file out d at held = no_more file out d at held (subst (λ (xs : List ℕ). Stands file out d at (held ++ xs)) rest c.2) in
      finished file out text d at held stands c.3 (ends ∙ ap (λ xs. out ++ end_text at xs) (is ∙ same))

-- what holds of every known list holds where one is known
pub if_known : (o : Option (List ℕ)) (P : List ℕ → Type 0) → ((xs : List ℕ) → o ≡ Some xs → P xs) → IfSome o P
if_known None P h = tt
if_known (Some xs) P h = h xs refl

-- the bytes that are kept are those that are left
pub kept_is : (held left : List ℕ) (n : ℕ) (kept : List ℕ) → n ≡ length held → Behind held left → kept ≡ drop (n - length left) held → kept ≡ left
kept_is held left n kept e b k = k ∙ ap (λ m. drop (m - length left) held) e ∙ sym b.left
