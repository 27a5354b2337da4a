use Rattle.std.proofs.Common.{length, string_bytes}
use Rattle.records.specs.Frames.{Behind}
use Rattle.report.specs.Going.{GoesOn}
use Rattle.report.proofs.run.serve_all.Given as goal

abbrev pub invariant-loop-placed : goal.invariant-loop-placed
invariant-loop-placed l =
    GoesOn (string_bytes l.fn.out) l.fn.work.desk l.fn.records.place l.fn.records.rest.now (string_bytes l.out) l.work.desk l.records.place l.records.rest.now
    × Behind l.fn.records.rest.now l.records.rest.now

abbrev pub decreases-loop-placed : goal.decreases-loop-placed
decreases-loop-placed l = length l.records.rest.now
