use Rattle.std.proofs.Common.{List, ℕ, Some, sym, subst, ◌∙◌}
use Rattle.desk.specs.Stretch.{ReadOn, ReadingAccepted}
use Rattle.desk.specs.Means.{Means}
use Rattle.desk.proofs.Accepts.{closed, bookless, both_open}
use Rattle.desk.proofs.steps.Desk.read_on.Goals as goal

pub returns-then-is_err-clause-read : goal.returns-then-is_err-clause-read
returns-then-is_err-clause-read c s means = closed c.args.self.now s means c.args.bytes.now c.month.result c.month.ensures (sym c.is_err.ensures.value ∙ c.if-is_err.true)

pub returns-in_default-clause-read : goal.returns-in_default-clause-read
returns-in_default-clause-read c s means = bookless c.args.self.now s means c.args.bytes.now c.in_default.is

pub returns-clause-read : goal.returns-clause-read
returns-clause-read c s means =
    subst (λ (rest : List ℕ). ReadOn ReadingAccepted s c.args.bytes.now rest (Means (record { accounts = c.args.self.now.accounts; book = Some c.read_on.new.self }))) c.read_on.ensures.behind
    (both_open c.args.self.now s means c.args.bytes.now c.month.result c.month.ensures (sym c.is_err.ensures.value ∙ c.if-is_err.false) c.in-Some.open c.read_on.new.self c.read_on.result.now c.in-Some.is c.read_on.ensures.read)
