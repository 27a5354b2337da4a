use Rattle.settlement.proofs.Laws.{lists_zones, lists_one, names_zones}
use Rattle.settlement.proofs.zones_listed.Goals as goal

pub returns : goal.returns
returns c = record { metering = lists_zones; billing = lists_one; named = names_zones }
