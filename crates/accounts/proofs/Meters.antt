-- What the settlement of a metering account answers and leaves, from its parts.
use Rattle.std.proofs.Common.{◌≡◌, ℕ, ◌-◌, Bool, true, List, length, ap, ◌∙◌}
use Rattle.ledger.specs.Rules.{Rule}
use Rattle.ledger.specs.Ledger.{lefts}
use Rattle.settlement.specs.declared.zones.Zones.{Zones}
use Rattle.settlement.specs.declared.states.MonthState.{MonthState}
use Rattle.settlement.specs.declared.states.MonthState.TheVariants.{Settled}
use Rattle.settlement.specs.Zones.{all, each, each_two}
use Rattle.settlement.specs.Metering.{MeterAccount, Course, settled_course, settling_meter, settlement, all_lines, meter_lines}

pub settling_is : (rule : Rule) (a : MeterAccount) (end : Course) → end ≡ settled_course rule a → (opened : Bool) (state : MonthState) (pending : Zones ℕ) → opened ≡ true → state ≡ Settled → pending ≡ all 0 →
    record { opened = opened; coefficient = a.coefficient; period = a.period; state = state; pending = pending; stores = end.stores } ≡ settling_meter rule a
settling_is rule a end is opened state pending o s p =
    let stores = ap (λ (x : Course). x.stores) is in cc

module _ (rule : Rule) (a : MeterAccount) (end : Course) (is : end ≡ settled_course rule a) (before : Zones (List ℕ)) (known : before ≡ each lefts a.stores) where
  lines_are : all_lines before end.stores ≡ meter_lines rule a
  lines_are = ap (λ b. all_lines b end.stores) known ∙ ap (λ (x : Course). all_lines (each lefts a.stores) x.stores) is

  pub answer_is : (covered : Zones ℕ) (count : ℕ) → covered ≡ each_two (λ p rest. p - rest) a.pending end.rests → count ≡ length (all_lines before end.stores) →
      record { covered = covered; due = end.rests; lines = count } ≡ settlement rule a
  answer_is covered count c n =
      ap (λ x. record { covered = x; due = end.rests; lines = count }) c
      ∙ ap (λ k. record { covered = each_two (λ p rest. p - rest) a.pending end.rests; due = end.rests; lines = k }) (n ∙ ap length lines_are)
      ∙ ap (λ (x : Course). record { covered = each_two (λ p rest. p - rest) a.pending x.rests; due = x.rests; lines = length (meter_lines rule a) }) is
