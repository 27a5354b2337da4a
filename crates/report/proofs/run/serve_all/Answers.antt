use Rattle.std.proofs.Common.{ℕ, ◌≤◌, ◌++◌, List, length, drop, string_bytes, subst, sym}
use Rattle.records.specs.Frames.{Behind}
use Rattle.records.specs.declared.left.Frames.{Frames}
use Rattle.records.proofs.First.{behind_none, behind_more, drop_behind, frame_behind}
use Rattle.desk.specs.State.{State}
use Rattle.desk.specs.Means.{Means}
use Rattle.desk.specs.Stretch.{ReadOn, ReadingAccepted}
use Rattle.report.specs.Going.{Stands}
use Rattle.report.proofs.Sofar.{serves, reads_on, wanting}
use Rattle.report.proofs.run.serve_all.Goals as goal

pub loop-placed-init : goal.loop-placed-init
loop-placed-init c = (λ all later stands. stands, behind_none _)

pub loop-placed-preserved : goal.loop-placed-preserved
loop-placed-preserved c =
    let count = c.read_on-count.result in
    let gives = c.in-Some.ensures.steps in
    let one = subst (Behind c.loop-placed.records.rest.now) (sym gives.behind) (frame_behind _ _ gives.frame) in
    let some = subst (Behind c.next.new.self.rest.now) (sym c.pass.ensures.rest) (drop_behind count c.next.new.self.rest.now) in (
      λ all later stands.
          reads_on _ _ _ _ _ _ _ _
          (subst (λ (bs : List ℕ). count ≤ length bs) c.rest.ensures c.read_on-count.ensures.within)
          (subst (λ (bs : List ℕ). (s : State) → Means c.serve.new.self.desk s → ReadOn ReadingAccepted s bs (drop count bs) (Means c.read_on-count.new.self.desk)) c.rest.ensures c.read_on-count.ensures.read)
          c.pass.ensures.place c.pass.ensures.rest all later
          (serves _ _ _ _ _ gives _ _ c.in_ok-serve.ensures.stands c.in_ok-serve.ensures.text all later (c.loop-placed.invariant.0 all later stands)),
      behind_more _ _ _ c.loop-placed.invariant.1 (behind_more _ _ _ one some),
    )

pub returns-in_err-serve-clause-wanting : goal.returns-in_err-serve-clause-wanting
returns-in_err-serve-clause-wanting c = wanting _ _ _ _ _ c.in-Some.ensures.steps _ _ _ _ _ c.loop-placed.invariant.0 c.in_err-serve.ensures.wanting

pub returns-clause-goes_on : goal.returns-clause-goes_on
returns-clause-goes_on c all later stands =
    subst (λ (s : Frames). Stands all (string_bytes c.loop-placed.out) c.loop-placed.work.desk s.place (s.rest.now ++ later)) (sym c.in_default.ensures.steps.1) (c.loop-placed.invariant.0 all later stands)

pub returns-clause-left : goal.returns-clause-left
returns-clause-left c = subst (λ (s : Frames). Behind c.args.records.now.rest.now s.rest.now) (sym c.in_default.ensures.steps.1) c.loop-placed.invariant.1
