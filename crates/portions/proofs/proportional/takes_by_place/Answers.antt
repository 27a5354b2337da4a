use Rattle.portions.proofs.Places.{proportional_by_place}
use Rattle.portions.proofs.proportional.takes_by_place.Goals as goal

pub returns : goal.returns
returns c = proportional_by_place
