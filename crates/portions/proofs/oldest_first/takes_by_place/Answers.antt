use Rattle.portions.proofs.Places.{oldest_by_place}
use Rattle.portions.proofs.oldest_first.takes_by_place.Goals as goal

pub returns : goal.returns
returns c = oldest_by_place
