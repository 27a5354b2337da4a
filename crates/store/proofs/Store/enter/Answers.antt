use Rattle.std.proofs.Common.{sym, ap, ◌∙◌, Ok, arith, rules}
use Rattle.portions.specs.Slots.{row_of}
use Rattle.ledger.specs.Calls.Call.{enter}
use Rattle.ledger.proofs.Asked.{enter_met}
use Rattle.ledger.proofs.Keeps.{keeps}
use Rattle.store.specs.Reading.{kind_of, ledger_of}
use Rattle.store.proofs.Lawful.{lawful}
use Rattle.store.proofs.Accepted.{accepted, given}
use Rattle.store.proofs.Slots.{accounted}
use Rattle.store.proofs.Unopened.{stays}
use Rattle.store.proofs.Entered.{in_life, row_free, entered_rest, entered_room, entered_sound, entered_clean, entered_after}
use Rattle.store.proofs.Store.enter.Goals as goal

pub returns-in_err-portion-clause-promised : goal.returns-in_err-portion-clause-promised
returns-in_err-portion-clause-promised g c =
    let laws = g.met.K.Kind in
    keeps (kind_of g.K.Kind) (lawful g.K.Kind laws.lasting laws.short laws.within) _ _ (enter _ _) tt _ (search rules) (search rules)

pub returns-in_err-portion-clause-unopened : goal.returns-in_err-portion-clause-unopened
returns-in_err-portion-clause-unopened g c = stays _ _ (enter _ _) tt _ (search rules) (search rules) (search rules)

pub push-requires-clause-free : goal.push-requires-clause-free
push-requires-clause-free g c =
    let s = c.args.self.now in
    row_free s c.args.amount (enter_met c.args.amount (ledger_of g.K.Kind s) (accepted _ _ _ c.in_ok-portion.ensures))

pub push-requires-clause-few : goal.push-requires-clause-few
push-requires-clause-few g c =
    let s = c.args.self.now in
    omega (arith, in_life s c.args.amount (enter_met c.args.amount (ledger_of g.K.Kind s) (accepted _ _ _ c.in_ok-portion.ensures)), g.met.K.Kind.short)

pub invariant_of-self : goal.invariant_of-self
invariant_of-self g c =
    let s = c.args.self.now in
    let yes = c.in_ok-portion.ensures in
    let met = enter_met c.args.amount (ledger_of g.K.Kind s) (accepted _ _ _ yes) in
    let e = c.push.ensures in
    let is = c.row.ensures.holds ∙ given _ _ _ yes in
    record {
      sound = entered_sound s c.args.amount met c.args.terms _ is c.push.new.self e.slots e.filled _ c.add_entered.ensures;
      clean = entered_clean s c.args.amount met c.args.terms _ is c.push.new.self e.slots e.filled (ap (row_of g.K.Kind.kept) c.row.ensures.holds ∙ sym c.row.ensures.numbers);
    }

pub returns-clause-slots : goal.returns-clause-slots
returns-clause-slots g c =
    let s = c.args.self.now in
    let yes = c.in_ok-portion.ensures in
    let met = enter_met c.args.amount (ledger_of g.K.Kind s) (accepted _ _ _ yes) in
    let e = c.push.ensures in
    let is = c.row.ensures.holds ∙ given _ _ _ yes in
    accounted _ _ (entered_rest s c.args.amount met c.args.terms _ is c.push.new.self e.slots e.filled) (entered_room s c.args.amount met c.args.terms _ is c.push.new.self e.slots e.filled) e.same

pub returns-clause-state : goal.returns-clause-state
returns-clause-state g c =
    let s = c.args.self.now in
    let l = ledger_of g.K.Kind s in
    let yes = c.in_ok-portion.ensures in
    let none = accepted _ _ _ yes in
    let e = c.push.ensures in
    entered_after s c.args.amount (enter_met c.args.amount l none) c.args.terms _ (c.row.ensures.holds ∙ given _ _ _ yes) c.push.new.self e.slots e.filled none _ c.add_entered.ensures

pub returns-clause-promised : goal.returns-clause-promised
returns-clause-promised g c =
    let laws = g.met.K.Kind in
    keeps (kind_of g.K.Kind) (lawful g.K.Kind laws.lasting laws.short laws.within) (ledger_of g.K.Kind c.args.self.now) _ (enter c.args.amount c.args.terms) tt (Ok tt) (search rules) (returns-clause-state g c)

pub returns-clause-unopened : goal.returns-clause-unopened
returns-clause-unopened g c = stays c.args.self.now _ (enter c.args.amount c.args.terms) tt (Ok tt) (search rules) (returns-clause-state g c) (returns-clause-slots g c)
