use Rattle.std.proofs.Common.{◌≡◌, take, Some, subst, arith}
use Rattle.std.specs.List.{slice_get}
use Rattle.std.proofs.lemmas.List.{length-take-le}
use Rattle.portions.specs.Listed.{listed}
use Rattle.store.specs.Reading.{ledger_of, told}
use Rattle.settlement.specs.Lines.{line_of, lines_of}
use Rattle.settlement.proofs.Lines.{length_lines_of}
use Rattle.accounts.proofs.Written.{line_there, all_written, next_written}
use Rattle.accounts.proofs.lines.write_lines.Goals as goal

pub loop-place-preserved : goal.loop-place-preserved
loop-place-preserved g c =
    let ps = (ledger_of g.K.Kind c.args.store.now).portions in
    let was = listed c.args.before.now in
    let i = c.loop-place.place in
    let long = length_lines_of c.args.zone was ps c.requires.known in
    let room = length-take-le c.count-count.result c.args.lines.now (omega (arith, c.count-count.ensures, c.requires.room)) in
    let line = subst (λ n. told (line_of c.args.zone n) (slice_get ps i) ≡ Some c.line_at.result) c.at.ensures c.line_at.ensures in
    next_written (take c.count-count.result c.args.lines.now) (lines_of c.args.zone was ps) _ i _ c.loop-place-test.true (omega (arith, long, room, c.count-count.ensures, c.loop-place-test.true))
    (λ z. line_there c.args.zone was ps i z c.line_at.result c.requires.known line) c.loop-place.invariant

pub returns-clause-lines : goal.returns-clause-lines
returns-clause-lines g c =
    let ps = (ledger_of g.K.Kind c.args.store.now).portions in
    let long = length_lines_of c.args.zone (listed c.args.before.now) ps c.requires.known in
    all_written c.args.lines.now _ _ c.count-count.result c.loop-place.place (omega (arith, long, c.count-count.ensures)) (omega (arith, c.count-count.ensures, c.requires.room)) c.loop-place-test.false c.loop-place.auto.place-end c.loop-place.invariant
