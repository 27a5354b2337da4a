-- Days off in a number, a bit for each day.
use Rattle.std.proofs.Common.{◌≡◌, ℕ, zero, suc, ◌+◌, ◌/◌, ◌%◌, ◌^◌, ◌<◌, Bool, true, false, not, ◌&&◌, eqb, leb, bit_and, refl, sym, ap, ◌∙◌, inl, inr, arith}
use Rattle.std.proofs.lemmas.Bool.{false≢true}
use Rattle.std.proofs.lemmas.Bool.Decides.{eqb_tells}
use Rattle.std.proofs.lemmas.Nat.{and_mask, shr-shr}
use Rattle.calendar.specs.Calendar.{weekday}
use Rattle.calendar.specs.DaysOff.{DaysOff, is_set}

abbrev same : Bool → Bool → Bool
same true b = b
same false b = not b

-- a test that the first n bits are set for Saturdays and Sundays
abbrev pub agrees : ℕ → ℕ → Bool
agrees bits zero = true
agrees bits (suc n) = same (is_set bits n) (leb 5 (n % 7)) && agrees bits n

are_same : (a b : Bool) → same a b ≡ true → a ≡ b
are_same true b e = sym e
are_same false true e = e
are_same false false e = refl

left : (a b : Bool) → (a && b) ≡ true → a ≡ true
left true b e = refl
left false b e = e

right : (a b : Bool) → (a && b) ≡ true → b ≡ true
right true b e = e
right false b e = absurd (false≢true e)

pub agree : (bits days : ℕ) → agrees bits days ≡ true → DaysOff bits days
agree bits zero e n h = absurd (omega arith)
agree bits (suc k) e n h =
    elim (eqb_tells n k) [
      | inl t ↦ ap (is_set bits) t.1 ∙ are_same _ _ (left _ _ e) ∙ ap (λ j. leb 5 (j % 7)) (sym t.1)
      | inr t ↦ let d = t.1 in agree bits k (right (same (is_set bits k) (leb 5 (k % 7))) _ e) n (omega arith)
    ]

-- what the days off of nine weeks say of day d of a month whose first day has the weekday `first`
pub off_at : (bits m first d : ℕ) → DaysOff bits 63 → first ≡ weekday m 0 → d < 31 → eqb (bit_and (bits / 2 ^ first / 2 ^ d) 1) 1 ≡ leb 5 (weekday m d)
off_at bits m first d off f h =
    let n : first + d < 63 = omega arith in
    let w : (first + d) % 7 ≡ weekday m d = omega arith in
    ap (λ x. eqb (bit_and x 1) 1) (shr-shr bits first d)
    ∙ ap (λ x. eqb x 1) (and_mask (bits / 2 ^ (first + d)) 1)
    ∙ off (first + d) n ∙ ap (leb 5) w
