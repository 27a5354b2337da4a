use Rattle.std.proofs.Common.{◌≡◌, ◌++◌, drop}
use Rattle.settlement.specs.Metering.{covers, own_stores, other_stores}
use Rattle.accounts.specs.Bounds.{Ready}
use Rattle.accounts.specs.Coefficients.{tenths}
use Rattle.accounts.specs.Metered.{course}
use Rattle.accounts.specs.Slots.{EachDrawn}
use Rattle.accounts.proofs.metering.Meters.cover_all.Given as goal

-- covering the pairs still to come ends where covering all of them from the start does
abbrev pub invariant-loop-zone : goal.invariant-loop-zone
invariant-loop-zone g l =
    let rule = g.R.Rule.gives l.rule in
    let c = tenths l.coefficient in
    (covers rule c (drop l.zone-index (own_stores ++ other_stores)) (course l.self) ≡ covers rule c (own_stores ++ other_stores) (course l.initial.self))
    × EachDrawn l.initial.self.stores l.self.stores × Ready l.self.stores
