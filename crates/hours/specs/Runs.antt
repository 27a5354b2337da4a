-- Readings that a book is given one after the other, and what they learn of its price source.
use Rattle.std.specs.Prelude.{◌≡◌, ℕ, List, [], ◌∷◌, ℤ, None, fold, Option, Result}
use Rattle.faults.specs.declared.BookFault.{BookFault}
use Rattle.hours.specs.Reading.{hours_of, needs_price, answer, after}
use Rattle.hours.specs.Source.{next_reading, next_state, asked_for, GiveAlike}
use Rattle.hours.specs.Whole.{MonthSummed, and_at, month_questions, month_refusal}
use Rattle.hours.specs.declared.prices.PriceSource.{Ghosts}
use Rattle.hours.specs.declared.book.Reading.{Reading}
use Rattle.hours.specs.declared.book.Terms.{Terms}
use Rattle.hours.specs.declared.book.Tally.{Tally}
use Rattle.hours.specs.declared.sums.Totals.{Totals}

module _ {S : Type 0} (G : Ghosts S) (t : Terms) where
  -- the tally and the source after one reading more
  abbrev pub read_next : Tally × G.State → Reading → Tally × G.State
  read_next at r =
      (after at.0 (next_reading G at.1 t at.0 r.import r.export), next_state G at.1 t at.0 r.import r.export)

  -- after a list of readings, whether accepted or refused
  abbrev pub read_each : Tally × G.State → List Reading → Tally × G.State
  read_each at rs = fold read_next at rs

  -- the answers to them
  abbrev pub answers_to : Tally × G.State → List Reading → List (Result (Unit {0}) BookFault)
  answers_to at [] = []
  answers_to at (r ∷ rs) = answer (next_reading G at.1 t at.0 r.import r.export) ∷ answers_to (read_next at r) rs

  -- the places for which the source is asked, in order
  abbrev pub questions_of : Tally × G.State → List Reading → List ℕ
  questions_of at [] = []
  questions_of at (r ∷ rs) =
      and_at (needs_price (hours_of t) at.0.hours r.import r.export) at.0.hours (questions_of (read_next at r) rs)

-- readings that end alike with two sources: with the same answers, tally and questions
pub record EndAlike {S T : Type 0}
    (G : Ghosts S) (H : Ghosts T) (t : Terms) (y : Tally) (s : G.State) (s' : H.State) (rs : List Reading) : Type 0 where
  pub answers : answers_to G t (y, s) rs ≡ answers_to H t (y, s') rs
  pub tally : (read_each G t (y, s) rs).0 ≡ (read_each H t (y, s') rs).0
  pub questions : questions_of G t (y, s) rs ≡ questions_of H t (y, s') rs

-- a source is left as asking for just these places leaves it
abbrev pub LeftAsAsked : {S : Type 0} → Ghosts S → Type 0
LeftAsAsked G =
    (t : Terms) (y : Tally) (s : G.State) (rs : List Reading) →
    (read_each G t (y, s) rs).1 ≡ asked_for G t.month.number (questions_of G t (y, s) rs) s

-- a book learns of its source only what it asks: two sources that give the same where one is asked make no difference
abbrev pub OnlyAnswersMatter : {S T : Type 0} → Ghosts S → Ghosts T → Type 0
OnlyAnswersMatter G H =
    (t : Terms) (y : Tally) (s : G.State) (s' : H.State) (rs : List Reading) →
    GiveAlike G H s s' t.month.number (questions_of G t (y, s) rs) → EndAlike G H t y s s' rs

-- a month that is summed up alike with the prices of two sources: with the same refusal, the same questions and, where nothing
-- is refused, the same sums
pub record SummedAlike
    (m : ℕ) (marks : List (List ℕ)) (sale : List ℕ) (prices prices' : ℕ → Option ℤ) (rs : List Reading) : Type 0 where
  pub refusal : month_refusal m marks sale prices rs ≡ month_refusal m marks sale prices' rs
  pub questions : month_questions m marks sale prices rs ≡ month_questions m marks sale prices' rs
  pub sums : month_refusal m marks sale prices rs ≡ None → (month : ℕ) (totals : Totals) →
      MonthSummed m marks sale prices rs month totals → MonthSummed m marks sale prices' rs month totals

-- the same of a whole month
abbrev pub OnlyAnswersMatterInMonth : {S T : Type 0} → Ghosts S → Ghosts T → Type 0
OnlyAnswersMatterInMonth G H =
    (m : ℕ) (marks : List (List ℕ)) (sale : List ℕ) (s : G.State) (s' : H.State) (rs : List Reading)
    → GiveAlike G H s s' m (month_questions m marks sale (G.gives s m) rs)
    → SummedAlike m marks sale (G.gives s m) (H.gives s' m) rs
