-- Printings one after another.
use Rattle.std.proofs.Common.{◌≡◌, ℕ, ◌+◌, ◌<◌, ◌≤◌, true, List, [], ◌∷◌, ◌++◌, length, get_or, take, drop, is_err, Ok, Err, string_bytes, Result, String, sym, refl, ap, ◌∙◌, subst, arith, Some, None, Option}
use Rattle.std.proofs.lemmas.List.{append_assoc, length-append, take-append-le, same_lists, places, take_more, take-append-drop}
use Rattle.std.proofs.lemmas.List.{map-id}
use Rattle.std.proofs.lemmas.Iterator.{YieldsList}
use Rattle.std.proofs.lemmas.Iterator.Consumers.{YieldsList-end, YieldsList-so_far, YieldsList-turn}
use Rattle.std.specs.Iterator.{Yields}
use Rattle.answers.specs.declared.kinds.Printed.{Printed}
use Rattle.answers.specs.Texts.{line_text, lines_text}
use Rattle.answers.specs.Adds.{Added, Adds, Begun}

lines_append : (ps qs : List Printed) → lines_text (ps ++ qs) ≡ lines_text ps ++ lines_text qs
lines_append [] qs = refl
lines_append (p ∷ ps) qs = ap (λ t. line_text p ++ t) (lines_append ps qs) ∙ sym (append_assoc (line_text p) (lines_text ps) (lines_text qs))

lines_length : (ps qs : List Printed) → length (lines_text (ps ++ qs)) ≡ length (lines_text ps) + length (lines_text qs)
lines_length ps qs = ap length (lines_append ps qs) ∙ length-append (lines_text ps) (lines_text qs)

-- lines after lines
text_then : (before between after : List ℕ) (ps qs : List Printed) → between ≡ before ++ lines_text ps → after ≡ between ++ lines_text qs → after ≡ before ++ lines_text (ps ++ qs)
text_then before between after ps qs e h =
    h ∙ (ap (λ t. t ++ lines_text qs) e ∙ (append_assoc before (lines_text ps) (lines_text qs) ∙ ap (λ t. before ++ t) (sym (lines_append ps qs))))

take_past : {X : Type 0} (xs ys : List X) (n : ℕ) → take (length xs + n) (xs ++ ys) ≡ xs ++ take n ys
take_past xs ys n = same_lists _ _ (grind (arith, places)) (λ k d h. grind (arith, places))

module _ {Z : Type 0} where
  -- what is begun of some lines is begun of more
  pub begun_more : (ps qs : List Printed) (before after : String Z) → Begun ps before after → Begun (ps ++ qs) before after
  begun_more ps qs before after h =
      let within : h.many ≤ length ps = omega arith in
      record {
        many = h.many;
        short = simp length-append (omega arith);
        text = h.text ∙ ap (λ ls. string_bytes before ++ lines_text ls) (sym (take-append-le h.many ps qs within));
        full = omega (arith, lines_length ps qs);
      }

  -- some lines were printed, and others begun
  pub begun_then : (ps qs : List Printed) (before between after : String Z) → Added ps before between → Begun qs between after → Begun (ps ++ qs) before after
  begun_then ps qs before between after h b =
      record {
        many = length ps + b.many;
        short = simp length-append (omega arith);
        text = text_then _ _ _ ps (take b.many qs) h.text b.text ∙ ap (λ ls. string_bytes before ++ lines_text ls) (sym (take_past ps qs b.many));
        full = omega (arith, lines_length ps qs, simp length-append at (ap length h.text));
      }

  -- the next line of some was not printed
  pub begun_next : (ps : List Printed) (i : ℕ) (p : Printed) (before between after : String Z) → i < length ps → get_or ps i p ≡ p → Added (take i ps) before between → Begun (p ∷ []) between after → Begun ps before after
  begun_next ps i p before between after h e sofar b =
      let same : (take i ps ++ p ∷ []) ++ drop (i + 1) ps ≡ ps = ap (λ q. (take i ps ++ q ∷ []) ++ drop (i + 1) ps) (sym e) ∙ (ap (λ qs. qs ++ drop (i + 1) ps) (sym (take_more ps i p h)) ∙ take-append-drop (i + 1) ps) in
      subst (λ qs. Begun qs before after) same (begun_more (take i ps ++ p ∷ []) (drop (i + 1) ps) before after (begun_then (take i ps) (p ∷ []) before between after sofar b))

  module _ {S : Type 0} {steps : S → Option Printed → S → Type 0} {s : S} (t u : S) (xs : List Printed) (seen : Yields steps s xs t) where
    -- the next of all lines was not printed
    pub begun_at : {all : List Printed} (r : Option Printed) (p : Printed) (before between after : String Z) → r ≡ Some p → steps t r u → YieldsList steps (λ q. q) s all → Added xs before between → Begun (p ∷ []) between after → Begun all before after
    begun_at {all = all} r p before between after is step whole sofar b =
        let turn = YieldsList-turn whole xs t seen r u p is step in
        let first : xs ≡ take (length xs) all = sym (map-id xs) ∙ YieldsList-so_far whole xs t seen in
        begun_next all (length xs) p before between after turn.0 (sym turn.1) (subst (λ qs. Added qs before between) first sofar) b

    -- no line is left
    pub added_all : {all : List Printed} (r : Option Printed) (before after : String Z) → r ≡ None → steps t r u → YieldsList steps (λ q. q) s all → Added xs before after → Added all before after
    added_all r before after is step whole sofar =
        subst (λ qs. Added qs before after) (sym (map-id xs) ∙ (YieldsList-end whole xs t seen r u is step).0) sofar

  module _ {T E : Type 0} where
    -- at a refusal
    pub adds_begun : (r : Result T E) (ps : List Printed) (before after : String Z) → is_err r ≡ true → Begun ps before after → Adds r ps before after
    adds_begun (Ok x) ps before after e b = absurd (let z : ◌≡◌ {A = ℕ} 0 1 = cc in omega arith)
    adds_begun (Err x) ps before after e b = b
