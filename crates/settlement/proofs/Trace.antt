-- A store inside an account that has had calls, and one call more.
use Rattle.std.proofs.Common.{◌≡◌, ℕ, ◌+◌, ◌<◌, ◌≤◌, true, false, cond, List, [], ◌∷◌, None, sym, refl, subst, arith}
use Rattle.std.proofs.lemmas.Bool.{le-leb, lt-ltb, ne_eqb}
use Rattle.portions.specs.Sums.{sum}
use Rattle.portions.specs.Portions.{Portion}
use Rattle.ledger.specs.Kinds.{Kind}
use Rattle.ledger.specs.Rules.{Rule, LawfulRule, by_rule}
use Rattle.ledger.specs.Ledger.{Ledger, has}
use Rattle.ledger.specs.Calls.{refusal}
use Rattle.ledger.specs.Calls.Call.{enter, draw, turn}
use Rattle.ledger.specs.Steps.{entering, takings, drawing, stays_in, refunds, losses, turning}
use Rattle.ledger.specs.History.{History, Had, entered, drew, turned}
use Rattle.ledger.proofs.Lists.{UpTo, upto_kept}
use Rattle.ledger.proofs.Store.{sound}

none_after : {T : Type 0} (m : ℕ) (ps : List (Portion T)) → UpTo m ps → has (m + 1) ps ≡ false
none_after m [] u = refl
none_after m (p ∷ ps) u =
    let e = ne_eqb p.month (m + 1) (λ e. omega (arith, u.0, e)) in
    subst (λ b. cond b true (has (m + 1) ps) ≡ false) (sym e) (none_after m ps u.1)

-- a store of this kind that has had calls, and one call more
module _ {T : Type 0} (kind : Kind T) (m₀ : ℕ) (calls : History T) (s : Ledger T) (had : Had kind m₀ calls s) where
  is_open : s.opened ≡ true
  is_open = (sound kind m₀ calls s had).is_open

  pub had_enter : (amount : ℕ) (terms : T) → amount ≤ 100000000 → has s.month s.portions ≡ false → Had kind m₀ (entered amount terms ∷ calls) (entering amount terms s)
  had_enter amount terms small free =
      let none' : refusal kind (enter amount terms) s ≡ None = simp (is_open, le-leb amount 100000000 small, free) in
      (s, had, (none', refl, refl, tt))

  pub had_draw : (rule : Rule) → LawfulRule rule → (w : ℕ) → w ≤ 1000000000 → Had kind m₀ (drew (by_rule rule w) (sum (takings rule w s)) ∷ calls) (drawing (takings rule w s) s)
  had_draw rule law w small =
      let none' : refusal kind (draw (by_rule rule w)) s ≡ None = simp (is_open, le-leb w 1000000000 small) in
      (s, had, (none', refl, refl, law))

  pub had_turn : s.month < 1199 → Had kind m₀ (turned (refunds kind s) (losses kind s) ∷ calls) (turning kind s)
  had_turn early =
      let none' : refusal kind turn s ≡ None = simp (is_open, lt-ltb s.month 1199 early) in
      (s, had, (none', refl, refl, tt))

  -- a month that was just turned to has no portion yet
  pub turned_free : has (s.month + 1) (turning kind s).portions ≡ false
  turned_free =
      none_after s.month (turning kind s).portions (upto_kept s.month (stays_in kind.life (s.month + 1)) s.portions (sound kind m₀ calls s had).up_to)
