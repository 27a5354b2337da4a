-- The record that opens a book, taken apart and put together.
use Rattle.std.proofs.Common.{◌≡◌, ℕ, ◌+◌, Bool, true, false, cond, eqb, List, [], ◌∷◌, ◌++◌, length, take, drop, Some, None, Ok, sym, refl, ap, ◌∙◌, arith, length-append}
use Rattle.std.proofs.lemmas.List.{drop_at, drop-drop, get_or-drop, take_at}
use Rattle.std.proofs.lemmas.Bool.{eqb-true}
use Rattle.records.specs.Records.{decoded_book, opens_book, sale_at, sale_in}
use Rattle.records.specs.Says.{BookBytes, Says}
use Rattle.records.proofs.Written.{says}

-- the prices from place 48 on are those of the part that begins there
sale_after : (p : List ℕ) → sale_at (drop 48 p) 0 ≡ sale_at p 48
sale_after p = simp get_or-drop

-- bytes that hold three sale prices
pub record Sale (bytes sale : List ℕ) : Type 0 where
  pub long : length bytes ≡ 12
  pub is : sale ≡ sale_at bytes 0

-- by whether there are twelve bytes
sale_when : (bytes sale : List ℕ) (b : Bool) → eqb (length bytes) 12 ≡ b → Some sale ≡ cond b (Some (sale_at bytes 0)) None → Sale bytes sale
sale_when bytes sale false w e = let z : ◌≡◌ {A = ℕ} 0 1 = cc in absurd (omega arith)
sale_when bytes sale true w e = record { long = eqb-true _ _ w; is = cc }

-- sale prices that were found are those of twelve bytes
pub sale_there : (bytes sale : List ℕ) → Some sale ≡ sale_in bytes → Sale bytes sale
sale_there bytes sale e = sale_when bytes sale (eqb (length bytes) 12) refl e

-- two rows of marks and three sale prices are what the payload says
pub book_decoded : (p after prices working weekend sale : List ℕ) → working ≡ take 24 p → after ≡ drop 24 p → length after + 24 ≡ length p → weekend ≡ take 24 after → prices ≡ drop 24 after → length prices + 24 ≡ length after → Sale prices sale → Ok (opens_book (working ∷ weekend ∷ []) sale) ≡ decoded_book p
book_decoded p after prices working weekend sale ew ea la ee ep lp s =
    let n : length p ≡ 60 = omega arith in
    let end : prices ≡ drop 48 p = ep ∙ ap (drop 24) ea ∙ drop-drop 24 24 p in
    let weekend' : weekend ≡ take 24 (drop 24 p) = ee ∙ ap (take 24) ea in
    let sale' : sale ≡ sale_at p 48 = s.is ∙ ap (λ t. sale_at t 0) end ∙ sale_after p in
    rw (n, ew, weekend', sale')

-- such bytes say the book that they were made from
pub book_says : (marks : List (List ℕ)) (sale working weekend prices bytes : List ℕ) → BookBytes working weekend prices bytes → marks ≡ working ∷ weekend ∷ [] → sale ≡ sale_at prices 0 → Says bytes (opens_book marks sale)
book_says marks sale working weekend prices bytes b em es =
    let p : List ℕ = working ++ (weekend ++ prices) in
    let long : length p ≡ 60 = simp length-append (omega arith) in
    let rest : length (weekend ++ prices) ≡ 36 = simp length-append (omega arith) in
    let first = sym (take_at working (weekend ++ prices) 24 b.working_long) in
    let after = sym (drop_at working (weekend ++ prices) 24 b.working_long) in
    let second = sym (take_at weekend prices 24 b.weekend_long) in
    let last = sym (drop_at weekend prices 24 b.weekend_long) in
    let means = book_decoded p (weekend ++ prices) prices working weekend sale first after (omega arith) second last (omega arith) (record { long = b.sale_long; is = es }) in
    rw (b.laid, em) (says 60 0 3 0 p _ long (sym means))
