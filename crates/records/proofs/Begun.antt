-- The record of the hours' prices, while it is written.
use Rattle.std.proofs.Common.{◌≡◌, ℕ, ◌+◌, ◌*◌, ◌%◌, ◌<◌, ◌≤◌, true, false, eqb, ltb, List, [], ◌∷◌, ◌++◌, length, get_or, take, ℤ, pos, Ok, sym, refl, ap, ◌∙◌, arith, length-append, w32, SFits, to_z, of_z}
use Rattle.std.proofs.lemmas.List.{take_all, take_more}
use Rattle.std.proofs.lemmas.Bool.{eq-eqb, le-ltb}
use Rattle.records.specs.Bytes.{two}
use Rattle.records.specs.Prices.{prices_read}
use Rattle.records.specs.Records.{decoded, gives_hour_prices}
use Rattle.records.specs.Says.{Says}
use Rattle.records.proofs.Fours.{prices_append}
use Rattle.records.proofs.Written.{four_of, price_written, says}

-- the bytes are a head with the kind 5, and then the first i prices
pub record Begun (l0 l1 : ℕ) (prices : List ℤ) (i : ℕ) (bytes : List ℕ) : Type 0 where
  pub payload : List ℕ
  pub bytes_are : bytes ≡ l0 ∷ l1 ∷ 5 ∷ 0 ∷ payload
  pub long : length payload ≡ 4 * i
  pub back : prices_read payload ≡ take i prices

-- four bytes are read back as one price
one_price : (z : ℤ) → SFits w32 z → prices_read (four_of (of_z w32 (to_z w32 (of_z w32 z)))) ≡ z ∷ []
one_price z fits = ap (λ y. y ∷ []) (price_written z _ fits refl)

-- one price more
pub begun_more : (l0 l1 : ℕ) (prices : List ℤ) (i : ℕ) (bytes bytes' part : List ℕ) → i < length prices → SFits w32 (get_or prices i (pos 0)) → Begun l0 l1 prices i bytes → part ≡ four_of (of_z w32 (to_z w32 (of_z w32 (get_or prices i (pos 0))))) → bytes' ≡ bytes ++ part → Begun l0 l1 prices (i + 1) bytes'
begun_more l0 l1 prices i bytes bytes' part h fits b ep e =
    record {
      payload = b.payload ++ part;
      bytes_are = e ∙ ap (λ t. t ++ part) b.bytes_are;
      long = length-append b.payload part ∙ omega (arith, ap length ep);
      back = prices_append b.payload part i b.long ∙ ap (λ t. prices_read b.payload ++ prices_read t) ep ∙ ap (λ t. prices_read b.payload ++ t) (one_price _ fits) ∙ ap (λ t. t ++ get_or prices i (pos 0) ∷ []) b.back ∙ sym (take_more prices i (pos 0) h);
    }

-- all prices: the bytes are a record that says them
pub begun_all : (l0 l1 : ℕ) (prices : List ℤ) (i : ℕ) (bytes : List ℕ) → length prices ≤ 745 → two l0 l1 ≡ 4 * length prices → i ≡ length prices → Begun l0 l1 prices i bytes → Says bytes (gives_hour_prices prices)
begun_all l0 l1 prices i bytes few n e b =
    let few' : ltb (4 * 745) (length b.payload) ≡ false = le-ltb _ _ (omega arith) in
    let whole : eqb (length b.payload % 4) 0 ≡ true = eq-eqb _ _ (omega arith) in
    let read : prices_read b.payload ≡ prices = b.back ∙ take_all i prices (omega arith) in
    let means : decoded 5 b.payload ≡ Ok (gives_hour_prices prices) = rw (few', whole, read) in
    rw b.bytes_are (says l0 l1 5 0 b.payload (gives_hour_prices prices) (omega (arith, b.long)) means)
