use Rattle.std.proofs.Common.{rules}
use Rattle.desk.proofs.steps.Desk.read.Goals as goal

pub returns : goal.returns
returns c = c.change_book.ensures _ _ (λ b b' r s d h. search rules)
