use Rattle.std.proofs.Common.{Ok, refl, rules}
use Rattle.ledger.proofs.Keeps.{keeps_open}
use Rattle.store.specs.Held.{room}
use Rattle.store.specs.Reading.{kind_of, ledger_of}
use Rattle.store.proofs.Lawful.{lawful}
use Rattle.store.proofs.Unopened.{open_stays}
use Rattle.store.proofs.Store.open.Goals as goal

pub returns-in_err-may_open-clause-promised : goal.returns-in_err-may_open-clause-promised
returns-in_err-may_open-clause-promised g c =
    let laws = g.met.K.Kind in
    keeps_open (kind_of g.K.Kind) (lawful g.K.Kind laws.lasting laws.short laws.within) _ _ _ _ _ (search rules) (search rules)

pub returns-in_err-may_open-clause-unopened : goal.returns-in_err-may_open-clause-unopened
returns-in_err-may_open-clause-unopened g c = open_stays _ _ _ _ (search rules) (search rules) refl

pub returns-clause-promised : goal.returns-clause-promised
returns-clause-promised g c =
    let laws = g.met.K.Kind in
    let s = c.args.self.now in
    keeps_open (kind_of g.K.Kind) (lawful g.K.Kind laws.lasting laws.short laws.within) (ledger_of g.K.Kind s) _ (room s) c.args.month (Ok tt) (search rules) (search rules)
