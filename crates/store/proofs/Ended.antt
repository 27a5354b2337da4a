-- The rows after a turn: those past their life are moved over.
use Rattle.std.proofs.Common.{◌≡◌, ℕ, ◌+◌, ◌-◌, ◌≤◌, Bool, true, false, cond, List, [], ◌∷◌, map, length, take, drop, filter, zero-add, sym, refl, ap, subst, ◌∙◌, arith}
use Rattle.std.specs.List.{copy_within}
use Rattle.std.proofs.Math.Seq.{paste}
use Rattle.std.proofs.lemmas.List.{drop-take, length-drop, length-take-le}
use Rattle.std.proofs.lemmas.List.Edits.{take-paste, drop-paste}
use Rattle.portions.specs.Sums.{total}
use Rattle.portions.specs.declared.Slot.{Slot}
use Rattle.portions.specs.declared.Kind.{Ghosts}
use Rattle.portions.specs.Portions.{Portion}
use Rattle.portions.specs.Slots.{reads, plain}
use Rattle.portions.specs.Totals.{total_map, total_split, total_parts}
use Rattle.ledger.specs.Kinds.{loss}
use Rattle.ledger.specs.Ledger.{left_in}
use Rattle.ledger.specs.Steps.{ends_by, stays_in}
use Rattle.store.specs.Ending.{refund_in, loss_in, staying, ending, refunds_in, losses_in}
use Rattle.store.specs.Reading.{kind_of}

-- the m elements after the first n, copied to the front
pub shifted : {X : Type 0} (xs : List X) (n m : ℕ) → n + m ≤ length xs → take m (paste xs 0 (drop n xs) m) ≡ drop n (take (n + m) xs)
shifted xs n m le =
    let l = length-drop n xs in
    ap (λ k. take k (paste xs 0 (drop n xs) m)) (sym (zero-add m)) ∙ take-paste xs 0 (drop n xs) m (omega arith) (omega (arith, l, le)) ∙ sym (drop-take n m xs)

-- and the elements after them
pub shifted_rest : {X : Type 0} (xs : List X) (n m : ℕ) → n + m ≤ length xs → drop m (paste xs 0 (drop n xs) m) ≡ drop m xs
shifted_rest xs n m le =
    let l = length-drop n xs in
    subst (λ k. drop k (paste xs 0 (drop n xs) m) ≡ drop k xs) (zero-add m) (drop-paste xs 0 (drop n xs) m (omega arith) (omega (arith, l, le)))

-- the rows that end were the first n of the f in use
pub moved : {K T : Type 0} (k : Ghosts K T) (xs ys rows : List Slot) (n f life m : ℕ) → rows ≡ take f xs → f ≤ length xs → n ≤ length rows → life ≡ k.LIFE →
    drop n rows ≡ filter (λ row. stays_in life m (plain row)) rows → ys ≡ copy_within xs n f 0 → (take (f - n) ys ≡ staying k m (take f xs)) × (drop (f - n) ys ≡ drop (f - n) xs)
moved k xs ys rows n f life m is within few lasts stay after =
    let l = length-take-le f xs within in
    let h = ap length is in
    let e : n + (f - n) ≡ f = omega arith in
    let le : n + (f - n) ≤ length xs = omega arith in (
      ap (take (f - n)) after ∙ shifted xs n (f - n) le ∙ ap (λ j. drop n (take j xs)) e ∙ ap (drop n) (sym is) ∙ stay ∙
          ap (λ y. filter (λ row. stays_in y m (plain row)) rows) lasts ∙ ap (staying k m) is,
      ap (drop (f - n)) after ∙ shifted_rest xs n (f - n) le,
    )

pub first_ended : {K T : Type 0} (k : Ghosts K T) (xs rows : List Slot) (n life m : ℕ) → rows ≡ xs → life ≡ k.LIFE →
    take n rows ≡ filter (λ row. ends_by life m (plain row)) rows → take n rows ≡ ending k m xs
first_ended k xs rows n life m is lasts end = end ∙ ap (λ y. filter (λ row. ends_by y m (plain row)) rows) lasts ∙ ap (ending k m) is

pub kept_by_map : {X Y : Type 0} (q : Y → Bool) (g : X → Y) (xs : List X) → filter q (map g xs) ≡ map g (filter (λ x. q (g x)) xs)
kept_by_map q g [] = refl
kept_by_map q g (x ∷ xs) =
    let r = kept_by_map q g xs in
    elim (q (g x)) as (λ b. cond b (g x ∷ filter q (map g xs)) (filter q (map g xs)) ≡ map g (cond b (x ∷ filter (λ y. q (g y)) xs) (filter (λ y. q (g y)) xs)))
    [ true ↦ ap (λ zs. g x ∷ zs) r | false ↦ r ]

module _ {K T : Type 0} (k : Ghosts K T) (m : ℕ) (ss : List Slot) where
  -- the refunds and the losses over the rows are those of the portions
  pub refunds_rows : refunds_in k m ss ≡ total k.refund (filter (ends_by k.LIFE m) (map (reads k.term) ss))
  refunds_rows = sym (ap (total k.refund) (kept_by_map (ends_by k.LIFE m) (reads k.term) ss) ∙ total_map k.refund (reads k.term) (ending k m ss))

  pub losses_rows : losses_in k m ss ≡ total (loss (kind_of k)) (filter (ends_by k.LIFE m) (map (reads k.term) ss))
  losses_rows = sym (ap (total (loss (kind_of k))) (kept_by_map (ends_by k.LIFE m) (reads k.term) ss) ∙ total_map (loss (kind_of k)) (reads k.term) (ending k m ss))

  -- what ends is refunded or lost, and the rest stays
  pub turn_sums : ((p : Portion T) → k.refund p ≤ p.left) → (ss' : List Slot) (r x : ℕ) → ss' ≡ staying k m ss → r ≡ refunds_in k m ss → x ≡ losses_in k m ss →
      r + x + left_in (map plain ss') ≡ left_in (map plain ss)
  turn_sums within ss' r x stay refunded lost =
      let parts = total_parts (λ row. (plain row).left) (refund_in k) (loss_in k) (λ row. omega (arith, within (reads k.term row))) (ending k m ss) in
      let both = total_split (λ row. (plain row).left) (λ row. ends_by k.LIFE m (plain row)) ss in
      let here = total_map (λ p. p.left) plain ss in
      let left = total_map (λ p. p.left) plain ss' ∙ ap (total (λ row. (plain row).left)) stay in
      omega (arith, parts, both, here, left, refunded, lost)
