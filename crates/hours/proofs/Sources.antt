-- What a price source gives once it was asked, and what a list of readings learns of it.
use Rattle.std.proofs.Common.{◌≡◌, ℕ, Bool, true, false, cond, List, [], ◌∷◌, All, sym, refl, ap, ap₂, ◌∙◌}
use Rattle.std.proofs.lemmas.Bool.{false≢true}
use Rattle.std.proofs.lemmas.List.Elements.{All-head, All-tail}
use Rattle.hours.specs.Reading.{hours_of, needs_price, reading, answer, after}
use Rattle.hours.specs.Runs.{read_next, read_each, answers_to, questions_of, EndAlike, LeftAsAsked, OnlyAnswersMatter}
use Rattle.hours.specs.Source.{next_price, next_reading, next_state, asked_for, AskingChangesNone, GiveAlike}
use Rattle.hours.specs.Whole.{and_at}
use Rattle.hours.specs.declared.prices.PriceSource.{Ghosts}
use Rattle.hours.specs.declared.book.Terms.{Terms}
use Rattle.hours.specs.declared.book.Tally.{Tally}
use Rattle.hours.proofs.History.{unneeded_alike}

-- asking for one place changes no later answer
abbrev pub Steady : {S : Type 0} → Ghosts S → Type 0
Steady G = (s : G.State) (m p n q : ℕ) → G.gives (G.asked s m p) n q ≡ G.gives s n q

-- then neither does asking for any number of them
pub steady_for : {S : Type 0} (G : Ghosts S) → Steady G → AskingChangesNone G
steady_for G steady m [] s n q = refl
steady_for G steady m (p ∷ places) s n q = steady_for G steady m places (G.asked s m p) n q ∙ steady s m p n q

by_cond : {X : Type 0} (b : Bool) (P : X → Type 0) (x y : X) → P x → P y → P (cond b x y)
by_cond true P x y p q = p
by_cond false P x y p q = q

-- nor does reading an hour
pub steady_next : {S : Type 0} (G : Ghosts S) → Steady G → (s : G.State) (t : Terms) (y : Tally) (i e : ℕ) (n q : ℕ) → G.gives (next_state G s t y i e) n q ≡ G.gives s n q
steady_next G steady s t y i e n q =
    by_cond (needs_price (hours_of t) y.hours i e) (λ x. G.gives x n q ≡ G.gives s n q) _ _ (steady s t.month.number y.hours n q) refl

-- a question first, if there is one, and then the others
pub asked_first : {S : Type 0} (G : Ghosts S) (m k : ℕ) (b : Bool) (ks : List ℕ) (s : G.State)
    → asked_for G m (and_at b k ks) s ≡ asked_for G m ks (cond b (G.asked s m k) s)
asked_first G m k true ks s = refl
asked_first G m k false ks s = refl

pub left_as_asked : {S : Type 0} (G : Ghosts S) → LeftAsAsked G
left_as_asked G t y s [] = refl
left_as_asked G t y s (r ∷ rs) =
    let at = read_next G t (y, s) r in
    left_as_asked G t at.0 at.1 rs
    ∙ sym (asked_first G t.month.number y.hours (needs_price (hours_of t) y.hours r.import r.export) (questions_of G t at rs) s)

-- what holds of all questions holds of the first, if there is one, and of the others
pub first_of : (P : ℕ → Type 0) (b : Bool) (k : ℕ) (ks : List ℕ) → All P (and_at b k ks) → b ≡ true → P k
first_of P true k ks a h = All-head P k ks a
first_of P false k ks a h = absurd (false≢true h)

pub others_of : (P : ℕ → Type 0) (b : Bool) (k : ℕ) (ks : List ℕ) → All P (and_at b k ks) → All P ks
others_of P true k ks a = All-tail P k ks a
others_of P false k ks a = a

pub by_bool : {A : Type 0} (b : Bool) → (b ≡ true → A) → (b ≡ false → A) → A
by_bool true p q = p refl
by_bool false p q = q refl

pub only_answers : {S T : Type 0} (G : Ghosts S) (H : Ghosts T) → Steady G → Steady H → OnlyAnswersMatter G H
only_answers G H steady steady' t y s s' [] a = record { answers = refl; tally = refl; questions = refl }
only_answers G H steady steady' t y s s' (r ∷ rs) a =
    let m = t.month.number in
    let i = r.import in
    let e = r.export in
    let b = needs_price (hours_of t) y.hours i e in
    let at = read_next G t (y, s) r in
    let x = next_state H s' t y i e in
    let P : ℕ → Type 0 = λ p. G.gives s m p ≡ H.gives s' m p in
    let same : next_reading G s t y i e ≡ next_reading H s' t y i e =
    by_bool b (λ h. ap (reading t y i e) (first_of P b y.hours (questions_of G t at rs) a h)) (λ h. unneeded_alike t y i e (next_price G s t y) (next_price H s' t y) h) in
    let others = others_of P b y.hours (questions_of G t at rs) a in
    let rest : GiveAlike G H at.1 x m (questions_of G t at rs) =
    λ k d h. steady_next G steady s t y i e m _ ∙ others k d h ∙ sym (steady_next H steady' s' t y i e m _) in
    let ends : EndAlike G H t at.0 at.1 x rs = only_answers G H steady steady' t at.0 at.1 x rs rest in
    record {
      answers = ap₂ (λ q qs. q ∷ qs) (ap answer same) (ends.answers ∙ ap (λ w. answers_to H t (after y w, x) rs) same);
      tally = ends.tally ∙ ap (λ w. (read_each H t (after y w, x) rs).0) same;
      questions = ap (and_at b y.hours) (ends.questions ∙ ap (λ w. questions_of H t (after y w, x) rs) same);
    }
