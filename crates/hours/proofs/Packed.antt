-- Rows of zones in two bits each.
use Rattle.std.proofs.Common.{◌≡◌, ℕ, zero, suc, ◌+◌, ◌-◌, ◌*◌, ◌/◌, ◌%◌, ◌^◌, ◌<◌, ◌≤◌, Bool, true, false, List, [], ◌∷◌, length, get_or, drop, length-drop, sym, refl, ap, ap₂, ◌∙◌, arith, drop-cons, add-one}
use Rattle.std.proofs.lemmas.List.{get_or-map}
use Rattle.std.proofs.lemmas.List.FromFn.{fill_by_all, get_or-map-range_with_len, length-map-range_with_len}
use Rattle.std.proofs.lemmas.Nat.{shr-shr}
use Rattle.std.proofs.Math.Nat.{pow-le-pow_right}
use Rattle.hours.specs.Marks.{MarkedBy, mark_at, marks_of, rows_of, zone_kept}
use Rattle.hours.specs.Packed.{Coded, bits_in, packed, zone_in, zones_in}
use Rattle.hours.specs.Zones.{zone_bits, zone_number, zone_of_bits}
use Rattle.hours.specs.declared.marks.Marks.{Marks}
use Rattle.hours.specs.declared.zones.Zone.{Zone}
use Rattle.hours.specs.declared.zones.Zone.TheVariants.{First, Second, Third}

-- the two bits of a zone
bits_small : (z : Zone) → zone_bits z < 3
bits_small First = omega arith
bits_small Second = omega arith
bits_small Third = omega arith

bits_stand : (z : Zone) → zone_of_bits (zone_bits z) ≡ z
bits_stand First = refl
bits_stand Second = refl
bits_stand Third = refl

-- a row of n zones takes 2 n bits
pub packed_small : (zs : List Zone) → packed zs < 4 ^ length zs
unfolding packed
packed_small [] = omega arith
packed_small (z ∷ zs) =
    let h = packed_small zs in
    let b = bits_small z in
    let e : 4 ^ suc (length zs) ≡ 4 * 4 ^ length zs = omega arith in
    omega arith

-- so one more row of two bits fits behind those of 23 hours
pub packed_room : (zs : List Zone) (i : ℕ) → length zs ≡ 24 → 0 < i → packed (drop i zs) < 4 ^ 23
packed_room zs i l h =
    let p = packed_small (drop i zs) in
    let n : length (drop i zs) ≤ 23 = simp length-drop (omega arith) in
    let b : 0 < 4 = omega arith in
    let q = pow-le-pow_right b n in
    omega arith

pub packed_none : (zs : List Zone) → length zs ≡ 0 → 0 ≡ packed zs
unfolding packed
packed_none [] l = refl
packed_none (z ∷ zs) l = absurd (omega arith)

-- the zones from place i on, once those behind it are packed
pub packed_more : (zs : List Zone) (i bits : ℕ) → i < length zs → bits ≡ packed (drop (i + 1) zs) → 4 * bits + zone_bits (get_or zs i First) ≡ packed (drop i zs)
unfolding packed
packed_more zs i bits h e =
    let d : drop i zs ≡ get_or zs i First ∷ drop (i + 1) zs = rw (add-one, drop-cons zs i First) in
    let k = ap packed d in
    omega arith

-- the two bits of each zone are found at its place
bits_at_place : (zs : List Zone) (c : ℕ) → bits_in (packed zs) c ≡ zone_bits (get_or zs c First)
unfolding packed
bits_at_place [] c = omega arith
bits_at_place (z ∷ zs) zero =
    let b = bits_small z in
    omega arith
bits_at_place (z ∷ zs) (suc c) =
    let b = bits_small z in
    let n = zone_bits z + 4 * packed zs in
    let k : 2 + 2 * c ≡ 2 * suc c = omega arith in
    let d : n / 2 ^ 2 ≡ packed zs = omega arith in
    let e : n / 2 ^ (2 * suc c) ≡ packed zs / 2 ^ (2 * c) = ap (λ j. n / 2 ^ j) (sym k) ∙ sym (shr-shr n 2 (2 * c)) ∙ ap (λ m. m / 2 ^ (2 * c)) d in
    ap (λ m. m % 4) e ∙ bits_at_place zs c

pub packed_coded : (zs : List Zone) → Coded (packed zs)
packed_coded zs c h =
    let e = bits_at_place zs c in
    let b = bits_small (get_or zs c First) in
    omega arith

zone_at_place : (zs : List Zone) (c : ℕ) → zone_in (packed zs) c ≡ get_or zs c First
zone_at_place zs c = ap zone_of_bits (bits_at_place zs c) ∙ bits_stand (get_or zs c First)

-- the zones of a packed row are those that were packed
pub zones_packed : (zs : List Zone) → length zs ≡ 24 → zones_in (packed zs) ≡ zs
unfolding zones_in
zones_packed zs l = sym (fill_by_all (λ c. zone_in (packed zs) c) zs 24 First l (λ k h. sym (zone_at_place zs k)))

-- the mark of a clock hour names its zone
mark_in : (bits c : ℕ) → c < 24 → zone_number (zone_in bits c) ≡ get_or (marks_of (zones_in bits)) c 0
unfolding zones_in
mark_in bits c h =
    let l = length-map-range_with_len (λ k. zone_in bits k) 0 24 in
    sym (get_or-map zone_number (zones_in bits) c First 0 (omega arith) ∙ ap zone_number (get_or-map-range_with_len (λ k. zone_in bits k) 0 24 c c First h (omega arith)))

-- what a row of marks is packed to, by the marks alone
packed_marks : List ℕ → ℕ
packed_marks [] = 0
packed_marks (n ∷ ns) = n - 1 + 4 * packed_marks ns

packed_by_marks : (zs : List Zone) → packed zs ≡ packed_marks (marks_of zs)
unfolding packed packed_marks
packed_by_marks [] = refl
packed_by_marks (z ∷ zs) = ap (λ n. zone_bits z + 4 * n) (packed_by_marks zs)

-- so zones that the same marks name are packed alike
packed_alike : (xs ys : List Zone) → marks_of xs ≡ marks_of ys → packed xs ≡ packed ys
packed_alike xs ys e = packed_by_marks xs ∙ ap packed_marks e ∙ sym (packed_by_marks ys)

-- marks that unpack to two rows have the zones that these name
pub marked_by : (m : Marks) (rows : List (List ℕ)) → rows_of m ≡ rows
    → (weekend : Bool) (c : ℕ) → c < 24 → zone_number (zone_kept m weekend c) ≡ mark_at rows weekend c
marked_by m rows e weekend c h = named weekend ∙ ap (λ x. mark_at x weekend c) e
  where
    named : (weekend : Bool) → zone_number (zone_kept m weekend c) ≡ mark_at (rows_of m) weekend c
    named true = mark_in m.weekend c h
    named false = mark_in m.working c h

-- marks that are the zones of two rows, packed, are those of the rows
pub packed_marked_by : (m : Marks) (rows : List (List ℕ)) (working weekend : List Zone) → length working ≡ 24 → length weekend ≡ 24
    → m.working ≡ packed working → m.weekend ≡ packed weekend → marks_of working ∷ marks_of weekend ∷ [] ≡ rows → MarkedBy m rows
packed_marked_by m rows working weekend l k p q e = record {
  unpacked = unpacked;
  numbers = λ xs ys r.
      let same = e ∙ sym r in
      (p ∙ packed_alike working xs (ap (λ x. get_or x 0 []) same), q ∙ packed_alike weekend ys (ap (λ x. get_or x 1 []) same));
  named = marked_by m rows unpacked;
}
  where
    unpacked : rows_of m ≡ rows
    unpacked = ap₂ (λ (x y : List Zone). marks_of x ∷ marks_of y ∷ []) (ap zones_in p ∙ zones_packed working l) (ap zones_in q ∙ zones_packed weekend k) ∙ e

-- marks of the same rows are the same numbers
pub same_numbers : (m m' : Marks) (rows : List (List ℕ)) → MarkedBy m rows → MarkedBy m' rows → (m.working ≡ m'.working) × (m.weekend ≡ m'.weekend)
same_numbers m m' rows a b =
    let x = a.numbers (zones_in m'.working) (zones_in m'.weekend) b.unpacked in
    let y = b.numbers (zones_in m'.working) (zones_in m'.weekend) b.unpacked in
    (x.0 ∙ sym y.0, x.1 ∙ sym y.1)

-- two rows, by their places
pub both_rows : (rows : List (List ℕ)) → length rows ≡ 2 → get_or rows 0 [] ∷ get_or rows 1 [] ∷ [] ≡ rows
both_rows [] l = absurd (omega arith)
both_rows (a ∷ []) l = absurd (omega arith)
both_rows (a ∷ b ∷ []) l = refl
both_rows (a ∷ b ∷ c ∷ rows) l = absurd (omega arith)
