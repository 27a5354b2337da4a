use Rattle.std.proofs.Common.{refl, rules}
use Rattle.store.proofs.Unopened.{as_made}
use Rattle.store.proofs.Store.over.Goals as goal

pub returns-clause-unopened : goal.returns-clause-unopened
returns-clause-unopened g c = as_made _ _ (search rules) refl
