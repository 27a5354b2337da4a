use Rattle.std.proofs.Common.{sym, subst, rules}
use Rattle.ledger.specs.Calls.Call.{turn}
use Rattle.ledger.proofs.Asked.{turn_met}
use Rattle.ledger.proofs.Keeps.{keeps}
use Rattle.store.specs.Held.{held}
use Rattle.store.specs.Reading.{kind_of, ledger_of}
use Rattle.store.specs.Exact.{Exact}
use Rattle.store.proofs.Lawful.{lawful}
use Rattle.store.proofs.Accepted.{accepted}
use Rattle.store.proofs.Exact.{exact_some}
use Rattle.store.proofs.Slots.{accounted}
use Rattle.store.proofs.Unopened.{stays}
use Rattle.store.proofs.Turned.{turned_sound, turned_answer, turned_after}
use Rattle.store.proofs.Store.turn.Goals as goal

pub returns-in_err-may_turn-clause-promised : goal.returns-in_err-may_turn-clause-promised
returns-in_err-may_turn-clause-promised g c =
    let laws = g.met.K.Kind in
    keeps (kind_of g.K.Kind) (lawful g.K.Kind laws.lasting laws.short laws.within) _ _ turn tt _ (search rules) (search rules)

pub returns-in_err-may_turn-clause-unopened : goal.returns-in_err-may_turn-clause-unopened
returns-in_err-may_turn-clause-unopened g c = stays _ _ turn tt _ (search rules) (search rules) (search rules)

pub invariant_of-self : goal.invariant_of-self
invariant_of-self g c =
    let s = c.args.self.now in
    let e = c.end_by-ended.ensures in
    record {
      sound = turned_sound s c.end_by-ended.new.self _ _ e.kept e.all (turn_met (ledger_of g.K.Kind s) (accepted _ _ _ c.in_ok-may_turn.ensures)) e.long _ c.add_ended.ensures;
      clean = subst (Exact g.K.Kind) (sym e.kept) (exact_some g.K.Kind _ (held s.rows) s.clean);
    }

pub returns : goal.returns
returns g c =
    let laws = g.met.K.Kind in
    let s = c.args.self.now in
    let l = ledger_of g.K.Kind s in
    let e = c.end_by-ended.ensures in
    let none = accepted _ _ _ c.in_ok-may_turn.ensures in
    let answer = turned_answer s c.end_by-ended.new.self _ _ e.kept e.all e.refunded e.lost none in
    let state = turned_after s c.end_by-ended.new.self _ _ e.kept e.all e.refunded e.lost none _ c.add_ended.ensures in
    let slots = accounted _ _ e.rest e.long e.same in
    record {
      answer = answer;
      state = state;
      slots = slots;
      promised = keeps (kind_of g.K.Kind) (lawful g.K.Kind laws.lasting laws.short laws.within) l _ turn tt _ answer state;
      unopened = stays _ _ turn tt _ answer state slots;
    }
