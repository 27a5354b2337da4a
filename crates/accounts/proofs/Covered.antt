-- What the two passes leave as it was, and the lines of three stores.
use Rattle.std.proofs.Common.{◌≡◌, ℕ, zero, suc, ◌+◌, ◌<◌, ◌≤◌, List, [], ◌∷◌, get_or, ◌++◌, length, take, drop, Some, sym, ap, ◌∙◌, append_assoc, arith, length-append}
use Rattle.std.proofs.lemmas.List.{take_at, drop_at, drop-drop}
use Rattle.ledger.specs.Rules.{Rule}
use Rattle.ledger.specs.Ledger.{Ledger}
use Rattle.settlement.specs.declared.answers.Line.{Line}
use Rattle.hours.specs.declared.zones.Zone.{Zone}
use Rattle.hours.specs.declared.zones.Zone.TheVariants.{First, Second, Third}
use Rattle.settlement.specs.declared.zones.Zones.{Zones}
use Rattle.settlement.specs.Zones.{of}
use Rattle.settlement.specs.Lines.{lines_of, written}
use Rattle.settlement.specs.Metering.{Course, cover, covers, all_lines}
use Rattle.settlement.proofs.Lines.{length_lines_of}
use Rattle.accounts.specs.Bounds.{Known}

-- covering the pairs from a place on is covering the one there, and then those after it
covers_suc : (rule : Rule) (c : ℕ) (pairs : List (Zone × Zone)) (i : ℕ) (d : Zone × Zone) (was next : Course) → i < length pairs → next ≡ cover rule c (get_or pairs i d).0 (get_or pairs i d).1 was →
    covers rule c (drop (suc i) pairs) next ≡ covers rule c (drop i pairs) was
covers_suc rule c [] i d was next le e = absurd (omega arith)
covers_suc rule c (pair ∷ pairs) zero d was next le e = ap (covers rule c pairs) e
covers_suc rule c (pair ∷ pairs) (suc i) d was next le e = covers_suc rule c pairs i d was next (omega arith) e

pub covers_next : (rule : Rule) (c : ℕ) (pairs : List (Zone × Zone)) (i : ℕ) (d : Zone × Zone) (was next : Course) → i < length pairs → next ≡ cover rule c (get_or pairs i d).0 (get_or pairs i d).1 was →
    covers rule c (drop (i + 1) pairs) next ≡ covers rule c (drop i pairs) was
covers_next rule c pairs i d was next le e =
    let at : i + 1 ≡ suc i = omega arith in
    ap (λ n. covers rule c (drop n pairs) next) at ∙ covers_suc rule c pairs i d was next le e

-- three lists of lines written one after the other, each over the first of the lines that those before it leave
in_a_row : (d s t u w1 w2 w3 f1 r1 f2 r2 : List Line) (i j : ℕ) → length s ≡ i → length t ≡ j →
    w1 ≡ written s d → f1 ≡ take i w1 → r1 ≡ drop i w1 → w2 ≡ written t r1 → f2 ≡ take j w2 → r2 ≡ drop j w2 → w3 ≡ written u r2 →
    f1 ++ (f2 ++ w3) ≡ written (s ++ (t ++ u)) d
in_a_row d s t u w1 w2 w3 f1 r1 f2 r2 i j I J W1 F1 R1 W2 F2 R2 W3 =
    let first : f1 ≡ s = F1 ∙ ap (take i) W1 ∙ take_at s (drop (length s) d) i I in
    let after : r1 ≡ drop (length s) d = R1 ∙ ap (drop i) W1 ∙ drop_at s (drop (length s) d) i I in
    let second : f2 ≡ t = F2 ∙ ap (take j) W2 ∙ take_at t (drop (length t) r1) j J in
    let then' : r2 ≡ drop (length t) r1 = R2 ∙ ap (drop j) W2 ∙ drop_at t (drop (length t) r1) j J in
    let many : length s + length t + length u ≡ length (s ++ (t ++ u)) = omega (arith, length-append s (t ++ u), length-append t u) in
    let rest : drop (length u) r2 ≡ drop (length (s ++ (t ++ u))) d =
    ap (drop (length u)) (then' ∙ ap (drop (length t)) after ∙ drop-drop (length t) (length s) d) ∙ drop-drop (length u) (length s + length t) d ∙ ap (λ k. drop k d) many in
    let flat = append_assoc s (t ++ u) (drop (length (s ++ (t ++ u))) d) ∙ ap (λ x. s ++ x) (append_assoc t u (drop (length (s ++ (t ++ u))) d)) in
    ap (λ x. x ++ (f2 ++ w3)) first ∙ ap (λ x. s ++ (x ++ w3)) second ∙ ap (λ x. s ++ (t ++ x)) (W3 ∙ ap (λ x. u ++ x) rest) ∙ sym flat

module _ (before : Zones (List ℕ)) (stores : Zones (Ledger (Unit {0}))) (known : Known before stores) where
  abbrev lines_in : Zone → List Line
  lines_in z = lines_of (Some z) (of z before) (of z stores).portions

  count_in : (z : Zone) → length (of z stores).portions ≤ length (of z before) → length (of z stores).portions ≡ length (lines_in z)
  count_in z le = sym (length_lines_of (Some z) (of z before) (of z stores).portions le)

  all_count : length (all_lines before stores) ≡ length stores.one.portions + length stores.two.portions + length stores.three.portions
  all_count =
      omega (arith, length-append (lines_in First) (lines_in Second ++ lines_in Third), length-append (lines_in Second) (lines_in Third), count_in First known.0, count_in Second known.1, count_in Third known.2)

  module _ (one two : ℕ) (R1 : one ≡ length stores.one.portions) (R2 : two ≡ length stores.two.portions) where
    pub zones_count : (three : ℕ) → three ≡ length stores.three.portions → one + two + three ≡ length (all_lines before stores)
    zones_count three R3 = omega (arith, R1, R2, R3, all_count)

    pub zones_lines : (d w1 w2 w3 f1 r1 f2 r2 : List Line) →
        w1 ≡ written (lines_in First) d → f1 ≡ take one w1 → r1 ≡ drop one w1 →
        w2 ≡ written (lines_in Second) r1 → f2 ≡ take two w2 → r2 ≡ drop two w2 →
        w3 ≡ written (lines_in Third) r2 → f1 ++ (f2 ++ w3) ≡ written (all_lines before stores) d
    zones_lines d w1 w2 w3 f1 r1 f2 r2 =
        in_a_row d (lines_in First) (lines_in Second) (lines_in Third) w1 w2 w3 f1 r1 f2 r2 one two (sym (R1 ∙ count_in First known.0)) (sym (R2 ∙ count_in Second known.1))
