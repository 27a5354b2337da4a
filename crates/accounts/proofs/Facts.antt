-- What holds of every store, for those who use one.
use Rattle.std.proofs.Common.{◌≡◌, ℕ, ◌+◌, ◌-◌, ◌≤◌, Bool, true, false, cond, List, [], ◌∷◌, length, filter, sym, refl, ◌∙◌, subst, arith}
use Rattle.std.proofs.lemmas.List.{length-map, length-take-le}
use Rattle.portions.specs.Portions.{Portion}
use Rattle.portions.specs.Slots.{reads, plain}
use Rattle.portions.specs.declared.Kind.{Ghosts}
use Rattle.ledger.specs.Ledger.{Ledger, has}
use Rattle.ledger.specs.Steps.{stays_in, turning}
use Rattle.store.specs.declared.Store.{Store}
use Rattle.store.specs.Held.{held, lent, in_use}
use Rattle.store.specs.Reading.{kind_of, ledger_of}
use Rattle.store.specs.Sound.{rises, kept, span}
use Rattle.store.proofs.Parts.{parts}
use Rattle.store.proofs.Rise.{rises_length, has_plain}
use Rattle.accounts.specs.Bounds.{FreeIn}

-- months below `end` are not `end`
rises_below : {T : Type 0} (low end : ℕ) (ps : List (Portion T)) → rises low end ps ≡ true → has end ps ≡ false
rises_below low end [] h = refl
rises_below low end (p ∷ ps) h =
    let r = rises_below (p.month + 1) end ps in
    let q = rises_length (p.month + 1) end ps in grind arith

-- nor are those of some of the portions
has_kept : {T : Type 0} (m : ℕ) (f : Portion T → Bool) (ps : List (Portion T)) → has m ps ≡ false → has m (filter f ps) ≡ false
has_kept m f [] h = refl
has_kept m f (p ∷ ps) h =
    let r = has_kept m f ps in
    elim (f p) as (λ b. has m (cond b (p ∷ filter f ps) (filter f ps)) ≡ false) [ true ↦ grind arith | false ↦ grind arith ]

-- no portion is open for longer than its life and one month more
span_most : (life : ℕ) (opened : Bool) → span life opened ≤ life + 1
span_most life true = omega arith
span_most life false = omega arith

module _ {K T : Type 0} (k : Ghosts K T) (s : Store K T k) where
  -- a row is in use for each portion
  pub in_use_is : length (ledger_of k s).portions ≡ in_use s
  in_use_is = length-map (held s.rows) (reads k.term) ∙ length-take-le (in_use s) (lent s) s.rows.within

  -- at most life + 1 portions are open
  pub few_open : length (ledger_of k s).portions ≤ k.LIFE + 1
  few_open =
      let few = rises_length (s.month + 1 - span k.LIFE s.opened) (s.month + 1) (kept s.rows) (parts s).rising in
      let long = span_most k.LIFE s.opened in
      omega (arith, long, few, length-map (held s.rows) plain, length-map (held s.rows) (reads k.term))

  -- no portion is of the month to come
  none_next : has (s.month + 1) (ledger_of k s).portions ≡ false
  none_next = has_plain k.term (s.month + 1) (held s.rows) ∙ rises_below (s.month + 1 - span k.LIFE s.opened) (s.month + 1) (kept s.rows) (parts s).rising

  -- a store that has turned has no portion of its month
  pub turned_free : (s' : Store K T k) → ledger_of k s' ≡ turning (kind_of k) (ledger_of k s) → FreeIn (ledger_of k s')
  turned_free s' is = subst (λ (l : Ledger T). FreeIn l) (sym is) (has_kept (s.month + 1) (stays_in k.LIFE (s.month + 1)) (ledger_of k s).portions none_next)
