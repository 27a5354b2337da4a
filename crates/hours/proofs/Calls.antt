-- What the two calls that read an hour come to.
use Rattle.std.proofs.Common.{◌≡◌, ℕ, ◌<◌, ◌≤◌, Bool, true, false, cond, ℤ, pos, Some, Err, Option, Result, sym, refl, ap, ◌∙◌, subst, arith}
use Rattle.std.proofs.lemmas.Bool.Decides.{nat_tests}
use Rattle.faults.specs.declared.BookFault.{BookFault}
use Rattle.hours.specs.Bounds.{Bounded}
use Rattle.hours.specs.Reading.{ReadsIn, RefusedAnyhow, hours_of, joined, needs_price, unless, reading, answer, after}
use Rattle.hours.specs.Month.{ReadsOn, HasRead, noted}
use Rattle.hours.specs.declared.book.Terms.{Terms}
use Rattle.hours.specs.declared.book.Tally.{Tally}
use Rattle.hours.proofs.History.{reads_on}

-- a call answered and left the tally as reading the hour at the price g does
pub record Answered (t : Terms) (y : Tally) (i e : ℕ) (g : Option ℤ) (r : Result (Unit {0}) BookFault) (y' : Tally) : Type 0 where
  pub answer : r ≡ answer (reading t y i e g)
  pub tally : y' ≡ after y (reading t y i e g)
  pub history : ReadsOn t y (record { import = i; export = e; price = g }) r y'

pub reading_comes : (t : Terms) (y : Tally) (i e : ℕ) (g p : Option ℤ) (r : Result (Unit {0}) BookFault) (y' : Tally) → reading t y i e p ≡ reading t y i e g
    → r ≡ answer (reading t y i e p) → y' ≡ after y (reading t y i e p) → Bounded y.hours y.totals → Answered t y i e g r y'
reading_comes t y i e g p r y' same a l b =
    let answered : r ≡ answer (reading t y i e g) = a ∙ ap answer same in
    let left : y' ≡ after y (reading t y i e g) = l ∙ ap (after y) same in
    record { answer = answered; tally = left; history = reads_on t y i e g r y' answered left b }

pub refusal_comes : (t : Terms) (y : Tally) (i e : ℕ) (g : Option ℤ) (f : BookFault) (r : Result (Unit {0}) BookFault) → RefusedAnyhow t y i e f → r ≡ Err f → Answered t y i e g r y
refusal_comes t y i e g f r h q = record {
  answer = q ∙ sym (ap (λ o. answer (unless o (joined t y i e g))) (h g));
  tally = sym (ap (λ o. after y (unless o (joined t y i e g))) (h g));
  history = λ hs had. subst (λ (x : Result (Unit {0}) BookFault). HasRead t (noted hs (record { import = i; export = e; price = g }) x) y) (sym q) had;
}

-- a source that is asked where a test holds
pub if_asked : {X : Type 0} (b : Bool) (asked left : X) → b ≡ true → asked ≡ cond b asked left
if_asked b asked left h = sym (ap (λ v. cond v asked left) h)

-- a source that asking leaves as it is, asked or not
pub if_still : {X : Type 0} (b : Bool) (asked left : X) → asked ≡ left → left ≡ cond b asked left
if_still true asked left h = sym h
if_still false asked left h = refl

pub if_unasked : {X : Type 0} (b : Bool) (asked left : X) → b ≡ false → left ≡ cond b asked left
if_unasked b asked left h = sym (ap (λ v. cond v asked left) h)

-- where a reading is refused at any price, none is needed
pub not_needed : (t : Terms) (y : Tally) (i e : ℕ) (f : BookFault) → RefusedAnyhow t y i e f → needs_price (hours_of t) y.hours i e ≡ false
not_needed t y i e f h = let k = h (Some (pos 0)) in grind (arith, nat_tests)

module _ (t : Terms) (y : Tally) (i e z : ℕ) (r : ReadsIn t y i e z) where
  -- where it can be read, one is needed if the export is larger
  pub needed : i < e → needs_price (hours_of t) y.hours i e ≡ true
  needed h = let a = r.import in let b = r.export in let c = r.room in grind (arith, nat_tests)

  pub unneeded : e ≤ i → needs_price (hours_of t) y.hours i e ≡ false
  unneeded h = let a = r.import in let b = r.export in let c = r.room in grind (arith, nat_tests)
