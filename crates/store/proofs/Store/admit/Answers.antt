use Rattle.std.proofs.Common.{sym, ◌∙◌}
use Rattle.store.specs.Held.{held}
use Rattle.store.specs.Reading.{ledger_of}
use Rattle.store.proofs.Rise.{has_plain}
use Rattle.store.proofs.Admitted.{month_is_taken, month_free}
use Rattle.store.proofs.Store.admit.Goals as goal

pub returns-then-has : goal.returns-then-has
returns-then-has g c =
    month_is_taken _ _ (ledger_of g.K.Kind c.args.self.now) c.if-not-self.false _ c.in_ok-portion.ensures (has_plain g.K.Kind.term _ (held c.args.self.now.rows) ∙ sym c.if-has.ensures)

pub returns : goal.returns
returns g c =
    month_free _ _ (ledger_of g.K.Kind c.args.self.now) c.if-not-self.false _ c.in_ok-portion.ensures (has_plain g.K.Kind.term _ (held c.args.self.now.rows) ∙ sym c.if-has.ensures)
