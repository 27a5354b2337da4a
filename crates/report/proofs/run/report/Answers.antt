use Rattle.report.proofs.Framing.{every_byte, continues}
use Rattle.report.proofs.Promising.{keeps_promises}
use Rattle.report.proofs.Refusals.{refusals_alone}
use Rattle.report.proofs.run.report.Goals as goal

pub returns : goal.returns
returns c = record {
  text = c.run.ensures.text;
  wanting = c.run.ensures.wanting;
  every_byte = every_byte _;
  continues = continues _;
  refused_alone = refusals_alone _;
  promises_kept = keeps_promises _;
}
