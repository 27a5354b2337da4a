use Rattle.std.proofs.Common.{◌≡◌, drop}
use Rattle.hours.specs.Packed.{packed}
use Rattle.hours.proofs.marks.calls.pack.Given as goal

abbrev pub invariant-loop-hour : goal.invariant-loop-hour
invariant-loop-hour l = l.bits ≡ packed (drop l.hour l.zones)
