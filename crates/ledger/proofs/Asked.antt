-- What an accepted call met, and what a refused one failed.
use Rattle.std.proofs.Common.{◌≡◌, ℕ, ◌<◌, ◌≤◌, Bool, true, false, not, ltb, leb, ◌⊎◌, Some, None, Option, refl, inl, inr}
use Rattle.std.proofs.lemmas.Bool.{leb-true, ltb-true, not-true}
use Rattle.faults.specs.declared.StoreFault.{StoreFault}
use Rattle.ledger.specs.Kinds.{Kind}
use Rattle.ledger.specs.Ledger.{Ledger, has}
use Rattle.histories.specs.Machines.{asks}
use Rattle.ledger.specs.Calls.{open_refusal, enter_refusal, draw_refusal, turn_refusal}

-- an accepted call met all that it was asked
pub asked : (b : Bool) (e : StoreFault) (o : Option StoreFault) → asks b e o ≡ None → (b ≡ true) × (o ≡ None)
asked true e o h = (refl, h)
asked false e o h = absurd (cc)

-- a refused one failed this, or something later
pub failed : (b : Bool) (e f : StoreFault) (o : Option StoreFault) → asks b e o ≡ Some f → ((f ≡ e) × (b ≡ false)) ⊎ ((b ≡ true) × (o ≡ Some f))
failed true e f o h = inr (refl, h)
failed false e f o h = inl (cc, refl)

-- what an accepted opening met
pub record OpenMet {T : Type 0} (kind : Kind T) (slots month : ℕ) : Type 0 where
  pub roomy : kind.life < slots
  pub from : 47 ≤ month
  pub to : month ≤ 1199

-- what an accepted enter met
pub record EnterMet {T : Type 0} (amount : ℕ) (s : Ledger T) : Type 0 where
  pub is_open : s.opened ≡ true
  pub small : amount ≤ 100000000
  pub free : has s.month s.portions ≡ false

-- what an accepted draw met
pub record DrawMet {T : Type 0} (wanted : ℕ) (s : Ledger T) : Type 0 where
  pub is_open : s.opened ≡ true
  pub small : wanted ≤ 1000000000

-- what an accepted turn met
pub record TurnMet {T : Type 0} (s : Ledger T) : Type 0 where
  pub is_open : s.opened ≡ true
  pub early : s.month < 1199

module _ {T : Type 0} where
  pub open_met : (kind : Kind T) (slots month : ℕ) → open_refusal kind slots month ≡ None → OpenMet kind slots month
  open_met kind slots month e =
      let a = asked (ltb kind.life slots) _ _ e in
      let b = asked (leb 47 month) _ _ a.1 in
      record { roomy = ltb-true kind.life slots a.0; from = leb-true 47 month b.0; to = leb-true month 1199 (asked (leb month 1199) _ None b.1).0 }

  pub enter_met : (amount : ℕ) (s : Ledger T) → enter_refusal amount s ≡ None → EnterMet amount s
  enter_met amount s e =
      let a = asked s.opened _ _ e in
      let b = asked (leb amount 100000000) _ _ a.1 in
      record { is_open = a.0; small = leb-true amount 100000000 b.0; free = not-true (has s.month s.portions) (asked (not (has s.month s.portions)) _ None b.1).0 }

  pub draw_met : (wanted : ℕ) (s : Ledger T) → draw_refusal wanted s ≡ None → DrawMet wanted s
  draw_met wanted s e =
      let a = asked s.opened _ _ e in
      record { is_open = a.0; small = leb-true wanted 1000000000 (asked (leb wanted 1000000000) _ None a.1).0 }

  pub turn_met : (s : Ledger T) → turn_refusal s ≡ None → TurnMet s
  turn_met s e =
      let a = asked s.opened _ _ e in
      record { is_open = a.0; early = ltb-true s.month 1199 (asked (ltb s.month 1199) _ None a.1).0 }
