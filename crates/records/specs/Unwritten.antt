-- Why hour prices were not written.
use Rattle.std.specs.Prelude.{◌≡◌, ◌<◌, ◌≤◌, List, length, ℤ}
use Rattle.faults.specs.declared.ProgramFault.TheVariants.{Malformed}
use Rattle.records.specs.declared.prices.Unwritten.{Unwritten}
use Rattle.records.specs.declared.prices.Unwritten.TheVariants.{Refused, NoMemory}

-- more than 745 prices are refused as malformed; for no more than that, memory was missing
abbrev pub UnwrittenSince : List ℤ → Unwritten → Type 0
UnwrittenSince prices (Refused fault) = (745 < length prices) × (fault ≡ Malformed)
UnwrittenSince prices NoMemory = length prices ≤ 745
