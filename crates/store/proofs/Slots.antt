-- What the slots hold: the rows of the portions told, and behind them what was there.
use Rattle.std.proofs.Common.{◌≡◌, true, List, [], ◌∷◌, ◌++◌, map, length, drop, sym, refl, ap, ◌∙◌}
use Rattle.std.proofs.lemmas.List.{take-append-drop, length-map, length-take-le}
use Rattle.portions.specs.declared.Slot.{Slot}
use Rattle.portions.specs.declared.Kind.{Ghosts}
use Rattle.portions.specs.Portions.{Portion}
use Rattle.portions.specs.Slots.{reads, row_of}
use Rattle.store.specs.declared.Store.{Store}
use Rattle.store.specs.declared.rows.Rows.{Rows}
use Rattle.store.specs.Held.{held, lent, room, in_use}
use Rattle.store.specs.Exact.{kept_anew, Clean}
use Rattle.store.specs.Slots.{kept_over, Accounted}

past_front : {X Y : Type 0} (f : X → Y) (xs : List X) (rest : List Y) → drop (length xs) (map f xs ++ rest) ≡ rest
past_front f [] rest = refl
past_front f (x ∷ xs) rest = past_front f xs rest

module _ {K T : Type 0} (k : Ghosts K T) where
  -- portions kept over others, as many of them
  pub kept_twice : (ps qs : List (Portion T)) (slots : List Slot) → length qs ≡ length ps → kept_over k qs (kept_over k ps slots) ≡ kept_over k qs slots
  unfolding kept_over
  kept_twice ps qs slots e =
      let behind = ap (λ n. drop n (kept_over k ps slots)) e ∙ past_front (row_of k.kept) ps (drop (length ps) slots) ∙ ap (λ n. drop n slots) (sym e) in
      ap (λ ss. map (row_of k.kept) qs ++ ss) behind

  rows_kept : (rows : List Slot) → map (row_of k.kept) (map (reads k.term) rows) ≡ map (kept_anew k) rows
  rows_kept [] = refl
  rows_kept (row ∷ rows) = ap (λ rs. kept_anew k row ∷ rs) (rows_kept rows)

  -- rows in use that have just the numbers of their portions, with the others as they were
  pub rows_over : (rows : Rows) → Clean k rows → (slots : List Slot) → drop rows.filled rows.slots.now ≡ drop rows.filled slots →
      rows.slots.now ≡ kept_over k (map (reads k.term) (held rows)) slots
  unfolding kept_over
  rows_over rows clean slots rest =
      let front = rows_kept (held rows) ∙ clean in
      let count = length-map (held rows) (reads k.term) ∙ length-take-le rows.filled rows.slots.now rows.within in
      sym (take-append-drop rows.filled rows.slots.now) ∙ ap (λ ss. held rows ++ ss) (rest ∙ ap (λ n. drop n slots) (sym count)) ∙
      ap (λ ss. ss ++ drop (length (map (reads k.term) (held rows))) slots) (sym front)

-- an accepted call that leaves the slots behind those in use as they were
pub accounted : {K T : Type 0} {k : Ghosts K T} (s s' : Store K T k) → drop (in_use s') (lent s') ≡ drop (in_use s') (lent s) → room s' ≡ room s →
    s'.rows.slots.ghost_name ≡ s.rows.slots.ghost_name → Accounted true s s'
accounted {k = k} s s' rest long lender = record { kept = rows_over k s'.rows s'.clean (lent s) rest; same_room = long; lender = lender }

-- slots that are left as they are hold the portions told as well
pub untouched : {K T : Type 0} {k : Ghosts K T} (s : Store K T k) → Accounted true s s
untouched s = accounted s s refl refl refl
