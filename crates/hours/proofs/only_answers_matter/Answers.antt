use Rattle.hours.proofs.Alike.{summed_alike}
use Rattle.hours.proofs.Sources.{only_answers}
use Rattle.hours.proofs.only_answers_matter.Goals as goal

pub returns : goal.returns
returns g c =
    let G = g.S.PriceSource in
    let H = g.T.PriceSource in
    record {
      readings = only_answers G H g.met.S.PriceSource.steady g.met.T.PriceSource.steady;
      month = λ m marks sale s s' rs a. summed_alike m marks sale (G.gives s m) (H.gives s' m) rs a;
    }
