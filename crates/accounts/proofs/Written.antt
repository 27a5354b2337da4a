-- Lemmas on the lines of a settlement, one by one.
use Rattle.std.proofs.Common.{◌≡◌, ℕ, zero, suc, ◌+◌, ◌<◌, ◌≤◌, List, [], ◌∷◌, length, get_or, ◌++◌, take, drop, slice_set, Some, None, Option, ap, ◌∙◌, arith}
use lib.Seq.{paste}
use Rattle.std.specs.List.{slice_get}
use Rattle.std.proofs.lemmas.List.{length-take-le, drop_all, append-nil}
use Rattle.std.proofs.lemmas.List.Edits.{paste_more, paste_all}
use Rattle.portions.specs.Portions.{Portion}
use Rattle.store.specs.Reading.{told}
use Rattle.settlement.specs.declared.answers.Line.{Line}
use Rattle.hours.specs.declared.zones.Zone.{Zone}
use Rattle.settlement.specs.Lines.{line_of, lines_of}

abbrev some_of : {X : Type 0} → X → Option X → X
some_of d (Some x) = x
some_of d None = d

-- the line at a place is that of the portion there
pub line_there : {T : Type 0} (zone : Option Zone) (before : List ℕ) (ps : List (Portion T)) (i : ℕ) (z r : Line) → length ps ≤ length before →
    told (line_of zone (get_or before i 0)) (slice_get ps i) ≡ Some r → get_or (lines_of zone before ps) i z ≡ r
line_there of before [] i z r le e = let b : ◌≡◌ {A = ℕ} 0 1 = cc in absurd (omega arith)
line_there of [] (p ∷ ps) i z r le e = absurd (omega arith)
line_there of (was ∷ before) (p ∷ ps) zero z r le e = ap (some_of z) e
line_there of (was ∷ before) (p ∷ ps) (suc i) z r le e = line_there of before ps i z r (omega arith) e

-- one line more, where those before it are written
pub next_written : (d ls xs : List Line) (i : ℕ) (r : Line) → i < length d → i < length ls → ((z : Line) → get_or ls i z ≡ r) → xs ≡ paste d 0 ls i → slice_set xs i r ≡ paste d 0 ls (i + 1)
next_written d ls xs i r in_d in_ls at so_far =
    let z : Line = record { zone = 0; month = 0; used = 0; left = 0 } in
    let more = paste_more d 0 ls i z (omega arith) in_ls in
    let there : 0 + i ≡ i = omega arith in
    let here = at z in
    cc

-- all of them are, with what stood after the first n lines
pub all_written : (d ls xs : List Line) (n i : ℕ) → n ≡ length ls → n ≤ length d → length (take n d) ≤ i → i ≤ length (take n d) → xs ≡ paste (take n d) 0 ls i → xs ++ drop n d ≡ ls ++ drop (length ls) d
all_written d ls xs n i e le from to so_far =
    let long = length-take-le n d le in
    let done = paste_all (take n d) 0 ls i (omega (arith, e, long, from, to)) in
    let none' = drop_all (0 + i) (take n d) (omega (arith, from)) in
    let written : xs ≡ ls ++ [] = so_far ∙ done ∙ ap (λ l. ls ++ l) none' in
    ap (λ l. l ++ drop n d) (written ∙ append-nil ls) ∙ ap (λ k. ls ++ drop k d) e
