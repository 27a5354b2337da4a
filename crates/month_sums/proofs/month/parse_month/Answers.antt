use Rattle.std.proofs.Common.{◌≡◌, ℕ, ◌<◌, ◌^◌, ◌==◌, ◌≢◌, Bool, false, List, length, slice_index, Bor, Option, Some, None, Result, Ok, Err, IsErr, sym, ◌∙◌, arith, lit<}
use Rattle.std.specs.List.{position_or_len}
use Rattle.std.specs.Bool.{MatchBool}
use Rattle.std.specs.Option.{ok_or}
use Rattle.std.specs.Result.{MatchResult}
use Rattle.std.specs.Str.Pattern.{FindsChar, HasMatch}
use Rattle.std.specs.Str.Parse.{IsNumeral, digits_value, without_leading_plus}
use Rattle.std.proofs.lemmas.Str.Pattern.{IsSplitOnceResult, contains_char, split_once_first}
use Rattle.calendar.specs.Calendar.{calendar_month_of, year_of}
use Rattle.month_sums.specs.Named.{Digits, MonthNamed, dash, month_in, plus, year_in}
use Rattle.month_sums.specs.declared.complaint.Reason.{Reason}
use Rattle.month_sums.proofs.month.parse_month.Goals as goal

abbrev NoMonth : List ℕ → Type 0
NoMonth text = (n : ℕ) → n < 1200 → MonthNamed text n → ⊥

refused : (text : List ℕ) (r : Result ℕ Reason) → IsErr r → NoMonth text → MatchResult r (λ n. (n < 1200) × MonthNamed text n) (λ e. NoMonth text)
refused text (Ok n) is none = cc
refused text (Err e) is none = none

lacks : (text : List ℕ) (r : Option (Bor (List ℕ) × Bor (List ℕ))) → IsSplitOnceResult dash text r → r ≡ None → NoMonth text
lacks text r split is n b m =
    let e = rw is at (split_once_first dash text r split (lit< tt)) in
    omega (arith, e, m.dashed)

parts : (text : List ℕ) (r : Option (Bor (List ℕ) × Bor (List ℕ))) → IsSplitOnceResult dash text r → (x : Bor (List ℕ) × Bor (List ℕ)) → r ≡ Some x
    → (position_or_len (λ b. b == dash) text < length text) × (x.0.now ≡ year_in text) × (x.1.now ≡ month_in text)
parts text r split x is = rw is at (split_once_first dash text r split (lit< tt))

-- a word that is no number of so many bits is no year and no month of the year
no_year : (text word : List ℕ) → word ≡ year_in text
    → ((IsNumeral 10 (without_leading_plus word) × (digits_value 10 (without_leading_plus word) < 2 ^ 16)) → ⊥) → NoMonth text
no_year text word e bad n b m = let y = m.year.reads in bad (rw (← e) at m.year.numeral, rw e (omega (arith, y, b)))

no_month : (text word : List ℕ) → word ≡ month_in text
    → ((IsNumeral 10 (without_leading_plus word) × (digits_value 10 (without_leading_plus word) < 2 ^ 8)) → ⊥) → NoMonth text
no_month text word e bad n b m = let y = m.month.reads in bad (rw (← e) at m.month.numeral, rw e (omega (arith, y, b)))

unsigned : (text : List ℕ) (r : Bool) → MatchBool r (HasMatch (FindsChar plus) text) (FindsChar plus text None) → r ≡ false → (k : ℕ) → k < length text → slice_index text k ≢ plus
unsigned text r has is k h e = let t = (contains_char plus text r has (lit< tt)).1 k h e in cc

digits : (size : ℕ) (word bytes : List ℕ) (n : ℕ) → word ≡ bytes → length word ≡ size → IsNumeral 10 (without_leading_plus word) → n ≡ digits_value 10 (without_leading_plus word)
    → Digits size bytes n
digits size word bytes n e l k r = rw (← e) (record { long = l; numeral = k; reads = sym r })

-- the month of a year that the library gives, or gives not
found : (text : List ℕ) (o : Option ℕ) (r : Result ℕ Reason) (e : Reason) (y m : ℕ) → r ≡ ok_or o e
    → elim o as (λ x. Type 0) [ Some n ↦ (n < 1200) × (year_of n ≡ y) × (calendar_month_of n ≡ m) | None ↦ ((n : ℕ) → n < 1200 → year_of n ≡ y → calendar_month_of n ≢ m) ]
    → position_or_len (λ b. b == dash) text < length text → ((k : ℕ) → k < length text → slice_index text k ≢ plus)
    → Digits 4 (year_in text) y → Digits 2 (month_in text) m → MatchResult r (λ n. (n < 1200) × MonthNamed text n) (λ e. NoMonth text)
found text (Some n) r e y m is f d u ys ms =
    rw is (
      f.0,
      record {
        dashed = d;
        unsigned = u;
        year = record { long = ys.long; numeral = ys.numeral; reads = ys.reads ∙ sym f.1 };
        month = record { long = ms.long; numeral = ms.numeral; reads = ms.reads ∙ sym f.2 };
      },
    )
found text None r e y m is f d u ys ms = rw is (λ n b h. f n b (sym h.year.reads ∙ ys.reads) (sym h.month.reads ∙ ms.reads))

pub returns-in_err-year : goal.returns-in_err-year
returns-in_err-year c =
    refused _ _ c.from_residual.ensures.0 (lacks c.args.text.now _ c.split_once.ensures.cases c.in_err-year.ensures.ok_part)

pub returns-in_err-year-2 : goal.returns-in_err-year-2
returns-in_err-year-2 c =
    let p = parts c.args.text.now _ c.split_once.ensures.cases _ c.in_ok-year.ensures.ok_part in
    refused _ _ c.from_residual-in_err-year-2.ensures.0 (no_year c.args.text.now _ p.1 c.in_err-year-2.ensures.0.1.0)

pub returns-in_err-month : goal.returns-in_err-month
returns-in_err-month c =
    let p = parts c.args.text.now _ c.split_once.ensures.cases _ c.in_ok-year.ensures.ok_part in
    refused _ _ c.from_residual-in_err-month.ensures.0 (no_month c.args.text.now _ p.2 c.in_err-month.ensures.0.1.0)

pub returns : goal.returns
returns c =
    let p = parts c.args.text.now _ c.split_once.ensures.cases _ c.in_ok-year.ensures.ok_part in
    let u = unsigned c.args.text.now _ c.contains.ensures.cases c.if-contains.false in
    let y = c.in_ok-year-2.ensures.0 in
    let m = c.in_ok-month.ensures.0 in
    found c.args.text.now _ _ _ _ _ c.ok_or-2.ensures.value c.month_number.ensures p.0 u
    (digits 4 _ _ _ p.1 c.if-year-ne4.false y.0.0 y.1) (digits 2 _ _ _ p.2 c.if-month-ne2.false m.0.0 m.1)
