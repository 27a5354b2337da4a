-- Bytes written as a record, read back.
use Rattle.std.proofs.Common.{◌≡◌, ℕ, ◌+◌, ◌*◌, ◌/◌, ◌%◌, ◌^◌, ◌<◌, List, [], ◌∷◌, ◌++◌, length, ℤ, Ok, sym, refl, ap, ◌∙◌, arith, length-append, w32, SFits, to_z, of_z}
use mir.Facts.{Fits-of_z}
use native.Mathlib.Nat.{div-div-eq-div-mul}
use Rattle.std.proofs.lemmas.Nat.{div-add-mod'}
use Rattle.std.proofs.lemmas.List.{drop_at, take_at}
use Rattle.std.proofs.lemmas.Int.{to_z-of_z}
use Rattle.records.specs.Bytes.{two, two_at, four_at}
use Rattle.records.specs.Prices.{price_at}
use Rattle.records.specs.Records.{Rec, decoded}
use Rattle.records.specs.Says.{Says}
use Rattle.records.proofs.Heads.{framed_some}

-- the two bytes of a number are read back as that number
pub two_written : (n : ℕ) (bs : List ℕ) → n < 2 ^ 16 → bs ≡ (n % 256) ∷ (n / 256 % 256) ∷ [] → two_at bs 0 ≡ n
two_written n bs h e = ap (λ b. two_at b 0) e ∙ omega arith

-- the four bytes of a number
abbrev pub four_of : ℕ → List ℕ
four_of n = (n % 256) ∷ (n / 256 % 256) ∷ (n / 65536 % 256) ∷ (n / 16777216 % 256) ∷ []

-- the four bytes of a number are read back as that number
pub four_written : (n : ℕ) (bs : List ℕ) → n < 2 ^ 32 → bs ≡ four_of n → four_at bs 0 ≡ n
four_written n bs h e =
    let lowest = div-add-mod' n 256 in
    let second : n / 65536 * 256 + n / 256 % 256 ≡ n / 256 = rw div-div-eq-div-mul at (div-add-mod' (n / 256) 256) in
    let third : n / 16777216 * 256 + n / 65536 % 256 ≡ n / 65536 = rw div-div-eq-div-mul at (div-add-mod' (n / 65536) 256) in
    ap (λ b. four_at b 0) e ∙ omega arith

-- the four bytes of a price are read back as that price
pub price_written : (z : ℤ) (bs : List ℕ) → SFits w32 z → bs ≡ four_of (of_z w32 (to_z w32 (of_z w32 z))) → price_at bs 0 ≡ z
price_written z bs fits e =
    let back : to_z w32 (of_z w32 z) ≡ z = to_z-of_z w32 z fits in
    ap (to_z w32) (four_written (of_z w32 z) bs (Fits-of_z fits).fits (e ∙ ap (λ y. four_of (of_z w32 y)) back)) ∙ back

-- a head and a payload of the length that it gives are one record, and say what the payload does
pub says : (l0 l1 k0 k1 : ℕ) (p : List ℕ) (said : Rec) → length p ≡ two l0 l1 → decoded (two k0 k1) p ≡ Ok said → Says (l0 ∷ l1 ∷ k0 ∷ k1 ∷ p) said
says l0 l1 k0 k1 p said n means =
    record {
      means = means;
      alone = λ rest. framed_some (l0 ∷ l1 ∷ k0 ∷ k1 ∷ (p ++ rest)) (two k0 k1) (two l0 l1) p rest refl refl (omega (arith, length-append p rest)) (sym (take_at p rest (two l0 l1) n)) (sym (drop_at p rest (two l0 l1) n));
    }
