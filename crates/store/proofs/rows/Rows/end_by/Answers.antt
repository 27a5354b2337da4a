use Rattle.std.proofs.Common.{ap, ◌∙◌, refl, rules}
use Rattle.portions.specs.Sums.{total}
use Rattle.store.specs.Ending.{refund_in, loss_in}
use Rattle.store.specs.Held.{held}
use Rattle.store.proofs.Ended.{moved, first_ended, turn_sums}
use Rattle.store.proofs.rows.Rows.end_by.Goals as goal

pub returns : goal.returns
returns g c =
    let k = g.K.Kind in
    let s = c.args.self.now in
    let m = c.args.month in
    let ends = c.how_many_end-first.ensures in
    let over = moved k s.slots.now _ _ _ s.filled _ m c.in_use-rows.ensures s.within ends.few c.LIFE.ensures ends.stay c.copy_within.ensures.after in
    let first = first_ended k (held s) _ _ _ m c.in_use-rows.ensures c.LIFE.ensures ends.end in
    let refunded = c.end_each-ended.ensures.refunded ∙ ap (total (refund_in k)) first in
    let lost = c.end_each-ended.ensures.lost ∙ ap (total (loss_in k)) first in
    record {
      kept = over.0;
      fewer = search rules;
      rest = over.1;
      long = search rules;
      refunded = refunded;
      lost = lost;
      all = turn_sums k m (held s) g.met.K.Kind.within _ _ _ over.0 refunded lost;
      same = refl;
    }
