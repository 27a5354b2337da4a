-- A list of readings, read one after the other.
use Rattle.std.proofs.Common.{◌≡◌, ℕ, suc, ◌+◌, ◌<◌, ◌≤◌, cond, List, [], ◌∷◌, ◌++◌, length, get_or, take, drop, ℤ, Some, None, Ok, Err, Option, Result, sym, refl, ap, ◌∙◌, subst, add-zero, le_of_lt, add-suc, suc-add, zero-add, add-one, arith, length-take, drop-cons, take-suc}
use Rattle.std.specs.Result.{is_ok}
use Rattle.std.proofs.lemmas.Bool.{false≢true}
use Rattle.faults.specs.declared.BookFault.{BookFault}
use Rattle.hours.specs.Reading.{hours_of, joined, read_refusal, needs_price, unless, answer}
use Rattle.hours.specs.Month.{HourRead, HasRead, ReadsOn}
use Rattle.hours.specs.Source.{next_price, next_reading, next_hour, next_state, asked_for}
use Rattle.hours.specs.Whole.{hours_from, refused_at, refused_from, until_refused, and_at, questions_from}
use Rattle.hours.specs.declared.prices.PriceSource.{Ghosts}
use Rattle.hours.specs.declared.book.Reading.{Reading}
use Rattle.hours.specs.declared.book.Terms.{Terms}
use Rattle.hours.specs.declared.book.Tally.{Tally}
use Rattle.hours.specs.declared.whole.MonthRefused.{MonthRefused}
use Rattle.hours.proofs.Sources.{asked_first, steady_next}

-- the reading at place i of the list
abbrev pub reading_at : List Reading → ℕ → Reading
reading_at rs i = get_or rs i (record { import = 0; export = 0 })

-- the answer to a reading says whether it is refused
pub answered : {A : Type 0} (f : Option BookFault) (a : A) (r : Result (Unit {0}) BookFault) → r ≡ answer (unless f a) → r ≡ answer (unless f (tt {0}))
answered (Some f) a r e = e
answered None a r e = e

pub was_refused : (f : Option BookFault) (k : BookFault) → Err k ≡ answer (unless f (tt {0})) → f ≡ Some k
was_refused (Some f) k e = cc
was_refused None k e = cc

pub was_accepted : (f : Option BookFault) → Ok tt ≡ answer (unless f (tt {0})) → f ≡ None
was_accepted (Some f) e = cc
was_accepted None e = refl

-- an answer whose refusal is told otherwise: an accepted reading is accepted still
pub still_ok : {E F : Type 0} (r : Result (Unit {0}) E) (m : Result (Unit {0}) F) (u : Unit {0}) → is_ok m ≡ is_ok r → m ≡ Ok u → r ≡ Ok tt
still_ok (Ok v) m u k e = refl
still_ok (Err f) m u k e = absurd (false≢true (sym k ∙ ap is_ok e))

-- a result is a value or an error
pub by_result : {X E A : Type 0} (r : Result X E) → ((x : X) → r ≡ Ok x → A) → ((e : E) → r ≡ Err e → A) → A
by_result (Ok x) a b = a x refl
by_result (Err e) a b = b e refl

-- the list from place i on begins with the reading there
pub reading_then : (rs : List Reading) (i : ℕ) → i < length rs → drop i rs ≡ reading_at rs i ∷ drop (i + 1) rs
reading_then rs i h = rw (add-one, drop-cons rs i (record { import = 0; export = 0 }))

pub refused_then : (hours : ℕ) (prices : ℕ → Option ℤ) (rs : List Reading) (i : ℕ) (f : Option BookFault) → i < length rs
    → read_refusal hours i (reading_at rs i).import (reading_at rs i).export (prices i) ≡ f
    → refused_from hours prices i (drop i rs) ≡ refused_at i f (refused_from hours prices (i + 1) (drop (i + 1) rs))
refused_then hours prices rs i f h e =
    ap (refused_from hours prices i) (reading_then rs i h)
    ∙ ap (λ o. refused_at i o (refused_from hours prices (suc i) (drop (i + 1) rs))) e
    ∙ rw add-one refl

pub questions_then : (hours : ℕ) (prices : ℕ → Option ℤ) (rs : List Reading) (i : ℕ) (f : Option BookFault) → i < length rs
    → read_refusal hours i (reading_at rs i).import (reading_at rs i).export (prices i) ≡ f
    → questions_from hours prices i (drop i rs)
    ≡ and_at (needs_price hours i (reading_at rs i).import (reading_at rs i).export) i (until_refused f (questions_from hours prices (i + 1) (drop (i + 1) rs)))
questions_then hours prices rs i f h e =
    ap (questions_from hours prices i) (reading_then rs i h)
    ∙ ap (λ o. and_at (needs_price hours i (reading_at rs i).import (reading_at rs i).export) i (until_refused o (questions_from hours prices (suc i) (drop (i + 1) rs)))) e
    ∙ rw add-one refl

hours_append : (prices : ℕ → Option ℤ) (k : ℕ) (rs : List Reading) (r : Reading)
    → hours_from prices k (rs ++ (r ∷ [])) ≡ hours_from prices k rs ++ ((record { import = r.import; export = r.export; price = prices (k + length rs) }) ∷ [])
hours_append prices k [] r = rw add-zero refl
hours_append prices k (x ∷ xs) r =
    ap (λ ys. (record { import = x.import; export = x.export; price = prices k }) ∷ ys)
    (hours_append prices (suc k) xs r
    ∙ ap (λ n. hours_from prices (suc k) xs ++ ((record { import = r.import; export = r.export; price = prices n }) ∷ [])) (suc-add k (length xs) ∙ sym (add-suc k (length xs))))

pub hours_length : (prices : ℕ → Option ℤ) (k : ℕ) (rs : List Reading) → length (hours_from prices k rs) ≡ length rs
hours_length prices k [] = refl
hours_length prices k (r ∷ rs) = ap (λ n. suc n) (hours_length prices (suc k) rs)

length_take_within : (rs : List Reading) (i : ℕ) → i ≤ length rs → length (take i rs) ≡ i
length_take_within rs i h = simp length-take (omega arith)

-- what one call to read ensures
pub record ReadStep {S : Type 0} (G : Ghosts S) (s : G.State) (t : Terms) (y : Tally) (imp exp : ℕ) (r : Result (Unit {0}) BookFault) (t' : Terms) (y' : Tally) (s' : G.State) : Type 0 where
  pub answered : r ≡ answer (next_reading G s t y imp exp)
  pub terms : t' ≡ t
  pub asked : s' ≡ next_state G s t y imp exp
  pub history : ReadsOn t y (next_hour G s t y imp exp) r y'

-- a book of the terms t has read the first i readings, and none of them was refused
pub record ReadTo {S : Type 0} (G : Ghosts S) (t : Terms) (s₀ : G.State) (rs : List Reading) (i : ℕ) (t₁ : Terms) (y : Tally) (s : G.State) : Type 0 where
  pub terms : t₁ ≡ t
  pub prices : (m p : ℕ) → G.gives s m p ≡ G.gives s₀ m p
  pub history : HasRead t (hours_from (G.gives s₀ t.month.number) 0 (take i rs)) y
  pub refusal : refused_from (hours_of t) (G.gives s₀ t.month.number) 0 rs ≡ refused_from (hours_of t) (G.gives s₀ t.month.number) i (drop i rs)
  pub asked : asked_for G t.month.number (questions_from (hours_of t) (G.gives s₀ t.month.number) 0 rs) s₀
      ≡ asked_for G t.month.number (questions_from (hours_of t) (G.gives s₀ t.month.number) i (drop i rs)) s

-- the place of the next reading is the number of those read
place : {S : Type 0} (G : Ghosts S) (t : Terms) (s₀ : G.State) (rs : List Reading) (i : ℕ) (t₁ : Terms) (y : Tally) (s : G.State) → ReadTo G t s₀ rs i t₁ y s → i < length rs → y.hours ≡ i
place G t s₀ rs i t₁ y s w h =
    w.history.hours ∙ hours_length (G.gives s₀ t.month.number) 0 (take i rs) ∙ length_take_within rs i (le_of_lt h)

-- the refusal of the next reading, by its place in the list
refusal_of : {S : Type 0} (G : Ghosts S) (t : Terms) (s₀ : G.State) (rs : List Reading) (i : ℕ) (t₁ : Terms) (y : Tally) (s : G.State) → ReadTo G t s₀ rs i t₁ y s → i < length rs
    → read_refusal (hours_of t) y.hours (reading_at rs i).import (reading_at rs i).export (next_price G s t y)
    ≡ read_refusal (hours_of t) i (reading_at rs i).import (reading_at rs i).export (G.gives s₀ t.month.number i)
refusal_of G t s₀ rs i t₁ y s w h =
    let e = place G t s₀ rs i t₁ y s w h in
    ap (λ g. read_refusal (hours_of t) y.hours (reading_at rs i).import (reading_at rs i).export g) (w.prices t.month.number y.hours)
    ∙ ap (λ k. read_refusal (hours_of t) k (reading_at rs i).import (reading_at rs i).export (G.gives s₀ t.month.number k)) e

-- the source once the next reading is answered
state_of : {S : Type 0} (G : Ghosts S) (t : Terms) (s₀ : G.State) (rs : List Reading) (i : ℕ) (t₁ : Terms) (y : Tally) (s : G.State) → ReadTo G t s₀ rs i t₁ y s → i < length rs
    → next_state G s t y (reading_at rs i).import (reading_at rs i).export
    ≡ cond (needs_price (hours_of t) i (reading_at rs i).import (reading_at rs i).export) (G.asked s t.month.number i) s
state_of G t s₀ rs i t₁ y s w h =
    ap (λ k. cond (needs_price (hours_of t) k (reading_at rs i).import (reading_at rs i).export) (G.asked s t.month.number k) s)
    (place G t s₀ rs i t₁ y s w h)

-- the questions that are left after the reading at place i, whose refusal is f
asked_on : {S : Type 0} (G : Ghosts S) (t : Terms) (s₀ : G.State) (rs : List Reading) (i : ℕ) (t₁ : Terms) (y : Tally) (s s' : G.State) (f : Option BookFault) → ReadTo G t s₀ rs i t₁ y s → i < length rs
    → read_refusal (hours_of t) i (reading_at rs i).import (reading_at rs i).export (G.gives s₀ t.month.number i) ≡ f
    → s' ≡ next_state G s t y (reading_at rs i).import (reading_at rs i).export
    → asked_for G t.month.number (questions_from (hours_of t) (G.gives s₀ t.month.number) 0 rs) s₀
    ≡ asked_for G t.month.number (until_refused f (questions_from (hours_of t) (G.gives s₀ t.month.number) (i + 1) (drop (i + 1) rs))) (s')
asked_on G t s₀ rs i t₁ y s s' f w h e a =
    let m = t.month.number in
    let ks = until_refused f (questions_from (hours_of t) (G.gives s₀ m) (i + 1) (drop (i + 1) rs)) in
    let b = needs_price (hours_of t) i (reading_at rs i).import (reading_at rs i).export in
    w.asked
    ∙ ap (λ q. asked_for G m q s) (questions_then (hours_of t) (G.gives s₀ m) rs i f h e)
    ∙ asked_first G m i b ks s
    ∙ ap (λ x. asked_for G m ks x) (sym (a ∙ state_of G t s₀ rs i t₁ y s w h))

hours_more : (prices : ℕ → Option ℤ) (rs : List Reading) (i : ℕ) → i < length rs
    → hours_from prices 0 (take (i + 1) rs) ≡ hours_from prices 0 (take i rs) ++ ((record { import = (reading_at rs i).import; export = (reading_at rs i).export; price = prices i }) ∷ [])
hours_more prices rs i h =
    let e : take (i + 1) rs ≡ take i rs ++ (reading_at rs i ∷ []) = rw (add-one, take-suc rs i (record { import = 0; export = 0 })) in
    ap (hours_from prices 0) e
    ∙ hours_append prices 0 (take i rs) (reading_at rs i)
    ∙ ap (λ n. hours_from prices 0 (take i rs) ++ ((record { import = (reading_at rs i).import; export = (reading_at rs i).export; price = prices n }) ∷ []))
    (zero-add (length (take i rs)) ∙ length_take_within rs i (le_of_lt h))

-- one reading more is accepted
pub read_to_more : {S : Type 0} (G : Ghosts S) → ((s : G.State) (m p n q : ℕ) → G.gives (G.asked s m p) n q ≡ G.gives s n q)
    → (t : Terms) (s₀ : G.State) (rs : List Reading) (i : ℕ) (t₁ t' : Terms) (y y' : Tally) (s s' : G.State) → ReadTo G t s₀ rs i t₁ y s → i < length rs
    → ReadStep G s t₁ y (reading_at rs i).import (reading_at rs i).export (Ok tt) t' y' s' → ReadTo G t s₀ rs (i + 1) t' y' s'
read_to_more {S} G steady t s₀ rs i t₁ t' y y' s s' w h c₁ =
    let P = G.gives s₀ t.month.number in
    let imp = (reading_at rs i).import in
    let exp = (reading_at rs i).export in
    let c : ReadStep G s t y imp exp (Ok tt) t' y' s' = subst (λ (u : Terms). ReadStep G s u y imp exp (Ok tt) t' y' s') w.terms c₁ in
    let n : read_refusal (hours_of t) i imp exp (P i) ≡ None =
    sym (refusal_of G t s₀ rs i t₁ y s w h) ∙ was_accepted _ (answered _ (joined t y imp exp (next_price G s t y)) (Ok tt) c.answered) in
    let g : next_price G s t y ≡ P i = w.prices t.month.number y.hours ∙ ap P (place G t s₀ rs i t₁ y s w h) in
    record {
      terms = c.terms;
      prices = λ m p. ap (λ x. G.gives x m p) c.asked ∙ steady_next G steady s t y imp exp m p ∙ w.prices m p;
      history = subst (λ (hs : List HourRead). HasRead t hs y') (sym (hours_more P rs i h))
          (subst (λ (o : Option ℤ). HasRead t (hours_from P 0 (take i rs) ++ ((record { import = imp; export = exp; price = o }) ∷ [])) y') g
          (c.history (hours_from P 0 (take i rs)) w.history));
      refusal = w.refusal ∙ refused_then (hours_of t) P rs i None h n;
      asked = asked_on G t s₀ rs i t₁ y s s' None w h n c.asked;
    }

-- what a list of readings comes to: its first refusal, and the questions asked up to it
pub record ReadOver {S : Type 0} (G : Ghosts S) (t : Terms) (s₀ : G.State) (rs : List Reading) (r : Option MonthRefused) (t' : Terms) (s' : G.State) : Type 0 where
  pub refusal : r ≡ refused_from (hours_of t) (G.gives s₀ t.month.number) 0 rs
  pub terms : t' ≡ t
  pub asked : s' ≡ asked_for G t.month.number (questions_from (hours_of t) (G.gives s₀ t.month.number) 0 rs) s₀

pub read_to_refused : {S : Type 0} (G : Ghosts S) (t : Terms) (s₀ : G.State) (rs : List Reading) (i : ℕ) (f : BookFault) (t₁ t' : Terms) (y y' : Tally) (s s' : G.State)
    → ReadTo G t s₀ rs i t₁ y s → i < length rs
    → ReadStep G s t₁ y (reading_at rs i).import (reading_at rs i).export (Err f) t' y' s'
    → ReadOver G t s₀ rs (Some (record { read = i; fault = f })) t' s'
read_to_refused {S} G t s₀ rs i f t₁ t' y y' s s' w h c₁ =
    let imp = (reading_at rs i).import in
    let exp = (reading_at rs i).export in
    let c : ReadStep G s t y imp exp (Err f) t' y' s' = subst (λ (u : Terms). ReadStep G s u y imp exp (Err f) t' y' s') w.terms c₁ in
    let n : read_refusal (hours_of t) i imp exp (G.gives s₀ t.month.number i) ≡ Some f =
    sym (refusal_of G t s₀ rs i t₁ y s w h) ∙ was_refused _ f (answered _ (joined t y imp exp (next_price G s t y)) (Err f) c.answered) in
    record {
      refusal = sym (w.refusal ∙ refused_then (hours_of t) (G.gives s₀ t.month.number) rs i (Some f) h n);
      terms = c.terms;
      asked = sym (asked_on G t s₀ rs i t₁ y s s' (Some f) w h n c.asked);
    }
