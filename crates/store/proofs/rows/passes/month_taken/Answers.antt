use Rattle.std.proofs.Common.{◌∙◌, eqb, rules}
use Rattle.std.proofs.lemmas.Iterator.{YieldsList-from_slice}
use Rattle.std.proofs.lemmas.Iterator.Search.{any_from_yields_List}
use Rattle.store.proofs.Rise.{any_has}
use Rattle.store.proofs.rows.passes.month_taken.Goals as goal

pub returns : goal.returns
returns c =
    any_from_yields_List (λ s. eqb s.month c.args.month) _ _ c.any.result c.any.ensures.ran (YieldsList-from_slice c.args.rows.now c.iter.ensures.rest) (λ x b q k. search rules) ∙
    any_has c.args.month c.args.rows.now
