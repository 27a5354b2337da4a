use Rattle.std.proofs.Common.{◌^◌, ◌≤◌, length, refl, ap, arith, rules}
use Rattle.std.proofs.lemmas.Grind.{common_steps}
use Rattle.std.proofs.lemmas.Iterator.{YieldsList-from_slice}
use Rattle.std.proofs.lemmas.Iterator.Adapters.{fits_from_length, at_most_from_yields_List}
use Rattle.std.proofs.lemmas.List.Recursion.{is_sum_by}
use Rattle.portions.specs.Sums.{sum}
use Rattle.portions.specs.Takes.{listed_few}
use Rattle.portions.proofs.amounts.Amounts.total.Goals as goal

-- at most 16 amounts, each below 2 ^ 32
pub sum-requires-clause-fits : goal.sum-requires-clause-fits
sum-requires-clause-fits c =
    let few : length c.as_slice.result.now ≤ 16 = omega (arith, listed_few c.args.self.now, ap length c.as_slice.ensures) in
    fits_from_length _ _ 16 (2 ^ 64) (at_most_from_yields_List (YieldsList-from_slice c.as_slice.result.now cc) few) c.map.ensures.closure (omega arith) (λ x r q k. search rules)

pub returns : goal.returns
returns c = grind (arith, common_steps, is_sum_by sum (λ x. x) refl (λ _ _. refl))
