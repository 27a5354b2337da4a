-- The record that a reading at the front of the bytes is.
use Rattle.std.proofs.Common.{◌≡◌, ℕ, ◌+◌, ◌-◌, ◌<◌, ◌≤◌, List, ◌++◌, length, take, drop, Some, None, Ok, Err, Option, sym, refl, ap, ◌∙◌, subst, arith, length-append, length-drop}
use Rattle.std.proofs.Math.Seq.{drop-append_seam}
use Rattle.std.proofs.lemmas.List.{drop-drop, take-append-drop}
use Rattle.records.specs.Frames.{Framed, framed, Behind}
use Rattle.records.specs.Records.{Read, decoded}
use Rattle.records.specs.Records.Rec.{opens_metering, opens_billing, opens_book, gives_month_price, gives_hour_prices, reading, finish, settle, turn}
use Rattle.records.specs.Readings.{FirstReading, if_reading, reading_in, first_reading}
use Rattle.records.proofs.Heads.{framed_parts, framed_joined, framed_more}

-- bytes begin with a record that is this reading
pub record Reads (bs : List ℕ) (r : FirstReading) : Type 0 where
  pub frame : Framed
  pub framed_so : framed bs ≡ Some frame
  pub says : decoded frame.kind frame.payload ≡ Ok (reading r.import r.export)
  pub behind : r.rest ≡ frame.rest

-- what was read is the reading
is_reading : (rest : List ℕ) (d : Read) (r : FirstReading) → if_reading rest d ≡ Some r → (d ≡ Ok (reading r.import r.export)) × (r.rest ≡ rest)
is_reading rest (Ok (reading i e)) r q =
    let p : record { import = i; export = e; rest = rest } ≡ r = cc in
    (ap (λ (x : FirstReading). Ok (reading x.import x.export)) p, sym (ap (λ (x : FirstReading). x.rest) p))
is_reading rest (Ok (opens_metering m p q)) r e = let z : ◌≡◌ {A = ℕ} 0 1 = cc in absurd (omega arith)
is_reading rest (Ok (opens_billing m p)) r e = let z : ◌≡◌ {A = ℕ} 0 1 = cc in absurd (omega arith)
is_reading rest (Ok (opens_book m s)) r e = let z : ◌≡◌ {A = ℕ} 0 1 = cc in absurd (omega arith)
is_reading rest (Ok (gives_month_price p)) r e = let z : ◌≡◌ {A = ℕ} 0 1 = cc in absurd (omega arith)
is_reading rest (Ok (gives_hour_prices p)) r e = let z : ◌≡◌ {A = ℕ} 0 1 = cc in absurd (omega arith)
is_reading rest (Ok finish) r e = let z : ◌≡◌ {A = ℕ} 0 1 = cc in absurd (omega arith)
is_reading rest (Ok settle) r e = let z : ◌≡◌ {A = ℕ} 0 1 = cc in absurd (omega arith)
is_reading rest (Ok turn) r e = let z : ◌≡◌ {A = ℕ} 0 1 = cc in absurd (omega arith)
is_reading rest (Err f) r e = let z : ◌≡◌ {A = ℕ} 0 1 = cc in absurd (omega arith)

by_frame : (bs : List ℕ) (o : Option Framed) (r : FirstReading) → framed bs ≡ o → reading_in o ≡ Some r → Reads bs r
by_frame bs None r f e = let z : ◌≡◌ {A = ℕ} 0 1 = cc in absurd (omega arith)
by_frame bs (Some f) r is e =
    let q = is_reading f.rest (decoded f.kind f.payload) r e in
    record { frame = f; framed_so = is; says = q.0; behind = q.1 }

-- bytes that have a first reading begin with its record
pub reads : (bs : List ℕ) (r : FirstReading) → first_reading bs ≡ Some r → Reads bs r
reads bs r e = by_frame bs (framed bs) r refl e

-- the bytes behind it are fewer
pub fewer : (bs : List ℕ) (r : FirstReading) → first_reading bs ≡ Some r → length r.rest < length bs
fewer bs r e =
    let one = reads bs r e in
    let p = (framed_parts bs one.frame one.framed_so).rest_length in
    let l = ap (λ (xs : List ℕ). length xs) one.behind in
    omega arith

-- a list behind a front
behind_front : (front rest bs : List ℕ) → front ++ rest ≡ bs → rest ≡ drop (length bs - length rest) bs
behind_front front rest bs e =
    let l = length-append front rest in
    let k = ap (λ (xs : List ℕ). length xs) e in
    let n : length bs - length rest ≡ length front = omega arith in
    sym (ap (λ n. drop n bs) n ∙ ap (λ xs. drop (length front) xs) (sym e) ∙ drop-append_seam front rest)

-- the bytes behind the first record
pub frame_behind : (bs : List ℕ) (f : Framed) → framed bs ≡ Some f → Behind bs f.rest
frame_behind bs f e =
    let p = (framed_parts bs f e).rest_length in
    record { within = omega arith; left = behind_front _ f.rest bs (framed_joined bs f e).joined }

-- those behind the first n
pub drop_behind : (n : ℕ) (bs : List ℕ) → Behind bs (drop n bs)
drop_behind n bs =
    let l = length-drop n bs in
    let long : length (take n bs ++ drop n bs) ≡ length bs = ap (λ (xs : List ℕ). length xs) (take-append-drop n bs) in
    record { within = omega arith; left = behind_front (take n bs) (drop n bs) bs (take-append-drop n bs) }

-- the bytes behind the first reading
pub reading_behind : (bs : List ℕ) (r : FirstReading) → first_reading bs ≡ Some r → Behind bs r.rest
reading_behind bs r e =
    let one = reads bs r e in
    subst (Behind bs) (sym one.behind) (frame_behind bs one.frame one.framed_so)

-- and those behind what is behind
pub behind_more : (bs cs ds : List ℕ) → Behind bs cs → Behind cs ds → Behind bs ds
behind_more bs cs ds b c =
    let w = b.within in
    let v = c.within in
    let n : length bs - length cs + (length cs - length ds) ≡ length bs - length ds = omega arith in
    record {
      within = omega arith;
      left = c.left ∙ ap (λ xs. drop (length cs - length ds) xs) b.left ∙ drop-drop (length cs - length ds) (length bs - length cs) bs ∙ ap (λ n. drop n bs) n;
    }

-- nothing is behind nothing
pub behind_none : (bs : List ℕ) → Behind bs bs
behind_none bs = record { within = omega arith; left = let n : length bs - length bs ≡ 0 = omega arith in ap (λ n. drop n bs) (sym n) }

-- bytes that come later do not change the first reading
pub reading_more : (bs later : List ℕ) (r : FirstReading) → first_reading bs ≡ Some r → first_reading (bs ++ later) ≡ Some (record { import = r.import; export = r.export; rest = r.rest ++ later })
reading_more bs later r e =
    let one = reads bs r e in
    ap reading_in (framed_more bs later one.frame one.framed_so) ∙ ap (if_reading (one.frame.rest ++ later)) one.says
    ∙ ap (λ xs. Some (record { import = r.import; export = r.export; rest = xs ++ later })) (sym one.behind)
