use Rattle.std.proofs.Common.{ap, ◌∙◌}
use Rattle.histories.specs.Machines.{becomes}
use Rattle.ledger.specs.Steps.{turning}
use Rattle.store.specs.Reading.{kind_of, ledger_of}
use Rattle.accounts.proofs.Facts.{turned_free}
use Rattle.accounts.proofs.Allowed.{turn_allowed}
use Rattle.accounts.proofs.inside.turn_store.Goals as goal

pub returns-clause-free : goal.returns-clause-free
returns-clause-free g c =
    let k = g.K.Kind in
    let s = c.args.store.now in
    let l = ledger_of k s in
    let e = c.turn.ensures in
    turned_free k s c.turn.new.self (e.state ∙ ap (λ o. becomes o (turning (kind_of k) l) l) (turn_allowed l c.requires.ready c.requires.early))
