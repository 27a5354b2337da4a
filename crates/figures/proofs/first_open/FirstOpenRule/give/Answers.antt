use Rattle.std.proofs.Common.{sym, ◌∙◌}
use Rattle.portions.specs.Listed.{listed}
use Rattle.portions.specs.Takes.{listed_few}
use Rattle.figures.specs.FirstOpen.{as_oldest}
use Rattle.figures.proofs.first_open.FirstOpenRule.give.Goals as goal

pub returns : goal.returns
returns c = c.give.ensures ∙ sym (as_oldest (listed c.args.left.now) c.args.wanted (listed_few c.args.left.now))
