use Rattle.std.proofs.Common.{length, is_ok, ap, ◌∙◌, subst, arith}
use Rattle.ledger.specs.Ledger.{Ledger}
use Rattle.histories.specs.Machines.{becomes}
use Rattle.ledger.specs.Steps.{takings, drawing}
use Rattle.store.specs.Reading.{ledger_of}
use Rattle.store.specs.Slots.{Accounted}
use Rattle.settlement.proofs.Cover.{length_taking}
use Rattle.accounts.proofs.Facts.{in_use_is}
use Rattle.accounts.proofs.Allowed.{draw_allowed}
use Rattle.accounts.proofs.inside.draw_store.Goals as goal

pub returns-clause-slots : goal.returns-clause-slots
returns-clause-slots g c =
    let k = g.K.Kind in
    let s = c.args.store.now in
    let s' = c.draw.new.self in
    let l = ledger_of k s in
    let xs = takings (g.R.Rule.gives c.args.rule.now) c.args.wanted l in
    let e = c.draw.ensures in
    let state = e.state ∙ ap (λ o. becomes o (drawing xs l) l) (draw_allowed l c.requires.ready c.args.wanted c.requires.small) in
    let long = ap (λ (x : Ledger _). length x.portions) state ∙ length_taking xs l.portions in
    record {
      accounted = subst (λ b. Accounted b s s') (ap is_ok c.in_ok-draw.was) e.slots;
      same_use = omega (arith, long, in_use_is k s, in_use_is k s');
    }
