-- What the stores inside an account mean.
use Rattle.std.specs.Prelude.{ℕ, ◌+◌, min}
use Rattle.portions.specs.declared.Kind.{Ghosts}
use Rattle.portions.specs.declared.terms.Termed.{Termed}
use Rattle.ledger.specs.Ledger.{Ledger}
use Rattle.store.specs.declared.Store.{Store}
use Rattle.store.specs.Held.{room}
use Rattle.store.specs.Reading.{ledger_of}
use Rattle.settlement.specs.declared.zones.Zones.{Zones}

-- the kind of energy, as the code has it
abbrev pub energy_kind : Ghosts (Termed (Unit {0})) (Unit {0})
energy_kind = record {
  LIFE = 12;
  means = λ p. record { month = p.stock.month; entered = p.stock.entered; left = p.stock.left; terms = p.terms };
  term = λ s. tt;
  kept = λ t. 0;
  refund = λ p. 0;
}

-- the kind of deposits, as the code has it
abbrev pub deposit_kind : Ghosts (Termed ℕ) ℕ
deposit_kind = record {
  LIFE = 12;
  means = λ p. record { month = p.stock.month; entered = p.stock.entered; left = p.stock.left; terms = p.terms };
  term = λ s. s.terms;
  kept = λ t. t;
  refund = λ p. min p.terms p.left;
}

-- a store of energy
abbrev pub EnergyStore : Type 0
EnergyStore = Store (Termed (Unit {0})) (Unit {0}) energy_kind

-- a store of deposits
abbrev pub DepositStore : Type 0
DepositStore = Store (Termed ℕ) ℕ deposit_kind

-- the ledger of a store of energy
abbrev pub energies : EnergyStore → Ledger (Unit {0})
energies s = ledger_of energy_kind s

-- the ledger of a store of deposits
abbrev pub deposits : DepositStore → Ledger ℕ
deposits s = ledger_of deposit_kind s

-- the fewest slots that a store has
abbrev pub fewest : Zones EnergyStore → ℕ
fewest s = min (min (room s.one) (room s.two)) (room s.three)

-- a figure of each of the three, summed
abbrev pub in_three : (Ledger (Unit {0}) → ℕ) → Zones EnergyStore → ℕ
in_three figure s = figure (energies s.one) + figure (energies s.two) + figure (energies s.three)
