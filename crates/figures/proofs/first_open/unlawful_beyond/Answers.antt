use Rattle.std.proofs.Common.{arith, take}
use Rattle.std.proofs.lemmas.List.{length-take}
use Rattle.portions.specs.Takes.{oldest_length}
use Rattle.figures.proofs.first_open.unlawful_beyond.Goals as goal

pub returns : goal.returns
returns c ls w more = omega (arith, oldest_length (take 16 ls) w, length-take 16 ls, more)
