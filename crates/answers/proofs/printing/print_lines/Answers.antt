use Rattle.std.proofs.Common.{rules}
use Rattle.std.proofs.lemmas.Iterator.{YieldsList-from_map, YieldsList-from_slice}
use Rattle.std.proofs.lemmas.Iterator.Consumers.{YieldsList-at, YieldsList-from_chain, YieldsList-from_copied}
use Rattle.answers.specs.declared.kinds.Printed.TheVariants.{Line}
use Rattle.answers.proofs.Adds.{adds_begun, begun_at, added_all}
use Rattle.answers.proofs.printing.print_lines.Goals as goal

pub returns-in_err-print_line : goal.returns-in_err-print_line
returns-in_err-print_line c =
    adds_begun c.from_residual.result _ _ _ c.from_residual.ensures.0
    (begun_at _ _ c.loop-line.yielded c.loop-line.yielded_by _ c.in-Some.line _ _ _ c.in-Some.is c.next.ensures.steps
    (YieldsList-from_chain (YieldsList-at {t = c.map-settled.result} (cc) (YieldsList-from_map _ Line (YieldsList-from_slice c.args.lines.now cc) c.map-settled.ensures.closure (λ x r q k. search rules))) (YieldsList-from_copied (YieldsList-from_slice c.args.dues.now cc)) (cc) (cc))
    c.loop-line.invariant c.in_err-print_line.ensures)

pub returns : goal.returns
returns c =
    added_all _ _ c.loop-line.yielded c.loop-line.yielded_by _ _ _ c.in-None.is c.next.ensures.steps
    (YieldsList-from_chain (YieldsList-at {t = c.map-settled.result} (cc) (YieldsList-from_map _ Line (YieldsList-from_slice c.args.lines.now cc) c.map-settled.ensures.closure (λ x r q k. search rules))) (YieldsList-from_copied (YieldsList-from_slice c.args.dues.now cc)) (cc) (cc))
    c.loop-line.invariant
