-- What a whole record's bytes and parts are.
use Rattle.std.proofs.Common.{◌≡◌, ℕ, ◌+◌, ◌<◌, ◌≤◌, Bool, true, false, cond, List, [], ◌++◌, length, take, drop, Some, None, sym, refl, ap, ◌∙◌, arith, length-append, length-drop}
use Rattle.std.proofs.lemmas.List.{drop_all, drop-drop, drop-append-le, drop-take, get_or-take, get_or_append_left, length-take-le, take_all, take-append-drop, take-append-le}
use Rattle.std.proofs.lemmas.Bool.{le-leb, leb-true}
use Rattle.records.specs.Bytes.{two_at}
use Rattle.records.specs.Frames.{Framed, first_frame, framed, head_kind, head_length, whole}

-- bytes with these parts have them as their first record
pub framed_some : (bs : List ℕ) (k n : ℕ) (p r : List ℕ) → n ≡ head_length bs → k ≡ head_kind bs → 4 + n ≤ length bs → p ≡ take n (drop 4 bs) → r ≡ drop n (drop 4 bs) → framed bs ≡ Some (record { kind = k; payload = p; rest = r })
framed_some bs k n p r en ek w ep er =
    let at : 4 + head_length bs ≤ length bs = omega arith in
    let t : whole bs ≡ true = le-leb (4 + head_length bs) (length bs) at in
    let d : drop n (drop 4 bs) ≡ drop (4 + n) bs = drop-drop n 4 bs in
    let p' : p ≡ take (head_length bs) (drop 4 bs) = cc in
    let r' : r ≡ drop (4 + head_length bs) bs = cc in
    rw (t, ek, p', r')

-- bytes that have a first record hold it whole
record First (bs : List ℕ) (f : Framed) : Type 0 where
  fits : 4 + head_length bs ≤ length bs
  is : first_frame bs ≡ f

-- by whether the bytes hold a whole record
first_when : (bs : List ℕ) (f : Framed) (b : Bool) → whole bs ≡ b → cond b (Some (first_frame bs)) None ≡ Some f → First bs f
first_when bs f false w e = let z : ◌≡◌ {A = ℕ} 0 1 = cc in absurd (omega arith)
first_when bs f true w e = record { fits = leb-true _ _ w; is = cc }

-- a record that is framed is the first of the bytes
framed_first : (bs : List ℕ) (f : Framed) → framed bs ≡ Some f → First bs f
framed_first bs f e = first_when bs f (whole bs) refl e

-- how long the parts of a record are
pub record Parts (bs : List ℕ) (f : Framed) : Type 0 where
  pub payload_length : length f.payload ≡ head_length bs
  pub rest_length : length f.rest + (4 + length f.payload) ≡ length bs

-- the parts of the first record
pub framed_parts : (bs : List ℕ) (f : Framed) → framed bs ≡ Some f → Parts bs f
framed_parts bs f e =
    let one = framed_first bs f e in
    let fits : 4 + head_length bs ≤ length bs = one.fits in
    let after = length-drop 4 bs in
    let taken : length (take (head_length bs) (drop 4 bs)) ≡ head_length bs = length-take-le (head_length bs) (drop 4 bs) (omega arith) in
    let left = length-drop (4 + head_length bs) bs in
    let payload = ap (λ (g : Framed). length g.payload) one.is in
    let rest = ap (λ (g : Framed). length g.rest) one.is in
    record { payload_length = omega arith; rest_length = omega arith }

-- the bytes of the first record, which with the rest are all, and which are the same record alone
pub record Joined (bs : List ℕ) (f : Framed) : Type 0 where
  pub joined : take (4 + length f.payload) bs ++ f.rest ≡ bs
  pub payload_is : f.payload ≡ drop 4 (take (4 + length f.payload) bs)
  pub alone : framed (take (4 + length f.payload) bs) ≡ Some (record { kind = f.kind; payload = f.payload; rest = [] })

-- a number of two bytes in the front that holds them
two_at_take : (m : ℕ) (bs : List ℕ) (i : ℕ) → i + 1 < m → two_at (take m bs) i ≡ two_at bs i
two_at_take m bs i h =
    let here : i < m = omega arith in
    rw (get_or-take m bs i 0 here, get_or-take m bs (i + 1) 0 h)

-- the first record's bytes
pub framed_joined : (bs : List ℕ) (f : Framed) → framed bs ≡ Some f → Joined bs f
framed_joined bs f e =
    let one = framed_first bs f e in
    let parts = framed_parts bs f e in
    let n : ℕ = length f.payload in
    let front : List ℕ = take (4 + n) bs in
    let long : length front ≡ 4 + n = length-take-le (4 + n) bs (omega arith) in
    let payload : take n (drop 4 bs) ≡ f.payload = ap (λ m. take m (drop 4 bs)) parts.payload_length ∙ ap (λ (g : Framed). g.payload) one.is in
    let rest : drop (4 + n) bs ≡ f.rest = ap (λ m. drop (4 + m) bs) parts.payload_length ∙ ap (λ (g : Framed). g.rest) one.is in
    let kept : f.payload ≡ drop 4 front = sym payload ∙ sym (drop-take 4 n bs) in
    let length_kept : n ≡ head_length front = parts.payload_length ∙ sym (two_at_take (4 + n) bs 0 (omega arith)) in
    let kind_kept : f.kind ≡ head_kind front = sym (ap (λ (g : Framed). g.kind) one.is) ∙ sym (two_at_take (4 + n) bs 2 (omega arith)) in
    record {
      joined = ap (λ r. front ++ r) (sym rest) ∙ take-append-drop (4 + n) bs;
      payload_is = kept;
      alone = framed_some front f.kind n f.payload [] length_kept kind_kept (omega arith) (kept ∙ sym (take_all n (drop 4 front) (omega (arith, length-drop 4 front)))) (sym (drop_all n (drop 4 front) (omega (arith, length-drop 4 front))));
    }

-- a number of two bytes with more bytes behind it
two_at_more : (bs later : List ℕ) (i : ℕ) → i + 1 < length bs → two_at (bs ++ later) i ≡ two_at bs i
two_at_more bs later i h =
    let here : i < length bs = omega arith in
    rw (get_or_append_left bs later 0 i here, get_or_append_left bs later 0 (i + 1) h)

-- a frame with more bytes behind it
abbrev pub more_behind : Framed → List ℕ → Framed
more_behind f later = record { kind = f.kind; payload = f.payload; rest = f.rest ++ later }

-- bytes that come later do not change the first record
pub framed_more : (bs later : List ℕ) (f : Framed) → framed bs ≡ Some f → framed (bs ++ later) ≡ Some (more_behind f later)
framed_more bs later f e =
    let one = framed_first bs f e in
    let n : ℕ = head_length bs in
    let fits : 4 + n ≤ length bs = one.fits in
    let long = length-append bs later in
    let after = length-drop 4 bs in
    let behind : drop 4 (bs ++ later) ≡ drop 4 bs ++ later = drop-append-le 4 bs later (omega arith) in
    let payload : f.payload ≡ take n (drop 4 (bs ++ later)) =
    sym (ap (λ (g : Framed). g.payload) one.is) ∙ sym (take-append-le n (drop 4 bs) later (omega arith)) ∙ ap (λ xs. take n xs) (sym behind) in
    let rest : f.rest ++ later ≡ drop n (drop 4 (bs ++ later)) =
    ap (λ (g : Framed). g.rest ++ later) (sym one.is) ∙ ap (λ xs. xs ++ later) (sym (drop-drop n 4 bs)) ∙ sym (drop-append-le n (drop 4 bs) later (omega arith)) ∙ ap (λ xs. drop n xs) (sym behind) in
    framed_some (bs ++ later) f.kind n f.payload (f.rest ++ later) (sym (two_at_more bs later 0 (omega arith))) (sym (ap (λ (g : Framed). g.kind) one.is) ∙ sym (two_at_more bs later 2 (omega arith))) (omega arith) payload rest
