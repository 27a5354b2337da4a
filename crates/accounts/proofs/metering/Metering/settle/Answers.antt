use Rattle.std.proofs.Common.{rules, true, refl, ◌≡◌, ℕ, ◌-◌, Ok, length, sym, ap, ◌∙◌, arith}
use Rattle.portions.specs.Listed.{listed}
use Rattle.store.proofs.Lawful.{lawful_rule}
use Rattle.settlement.specs.Zones.{all, each, each_two}
use Rattle.settlement.specs.declared.states.MonthState.TheVariants.{Waiting, Settled}
use Rattle.histories.specs.Machines.{answers, becomes}
use Rattle.settlement.specs.Lines.{written}
use Rattle.settlement.specs.Accounts.{refusal}
use Rattle.settlement.specs.Accounts.Call.{settle}
use Rattle.settlement.specs.Metering.{metering, meter_lines, settlement, settling_meter}
use Rattle.settlement.proofs.Metered.{metering_keeps}
use Rattle.settlement.proofs.Keeps.{keeps_call}
use Rattle.settlement.proofs.Unopened.{metering_shut}
use Rattle.accounts.specs.Metered.{course, metered, meters}
use Rattle.accounts.specs.Slots.{EachAccounted}
use Rattle.accounts.proofs.Refused.{accepted, refused}
use Rattle.accounts.proofs.Meters.{answer_is, settling_is}
use Rattle.accounts.proofs.Unopened.{each_same_slots, stays}
use Rattle.accounts.proofs.metering.Metering.settle.Goals as goal

pub returns-in_err-next : goal.returns-in_err-next
returns-in_err-next g c =
    let a = metered c.args.self.now in
    let r = c.args.rule.now in
    let rule = g.R.Rule.gives r in
    let lines = c.args.lines.now in
    let o = refusal metering (settle rule (length lines)) a in
    let law = lawful_rule rule (g.met.R.Rule.sized r) (g.met.R.Rule.bounded r) (g.met.R.Rule.full r) in
    let left = refused o _ Settled (settlement rule a) c.from_residual.result (settling_meter rule a) a c.in_err-next.ensures c.from_residual.ensures.1 in
    let same = refused o _ Settled (settlement rule a) c.from_residual.result (written (meter_lines rule a) lines) lines c.in_err-next.ensures c.from_residual.ensures.1 in
    record {
      answer = left.0;
      state = left.1;
      lines = same.1;
      slots = search rules;
      promised = keeps_call metering metering_keeps a a (settle rule (length lines)) law c.from_residual.result left.0 left.1;
      unopened = stays meters metering_shut c.args.self.now _ (settle rule (length lines)) law c.from_residual.result left.0 left.1 (λ e. refl);
    }

pub invariant_of-self-3-clause-free : goal.invariant_of-self-3-clause-free
invariant_of-self-3-clause-free g c =
    let rule = g.R.Rule.gives c.args.rule.now in
    let ok = accepted (refusal metering (settle rule (length c.args.lines.now)) (metered c.args.self.now)) Settled c.in_ok-next.next c.in_ok-next.ensures in
    λ waiting. let both : Waiting ≡ Settled = sym waiting ∙ ok.1 in let z : ◌≡◌ {A = ℕ} 0 1 = cc in absurd (omega arith)

pub returns : goal.returns
returns g c =
    let a = metered c.args.self.now in
    let r = c.args.rule.now in
    let rule = g.R.Rule.gives r in
    let lines = c.args.lines.now in
    let law = lawful_rule rule (g.met.R.Rule.sized r) (g.met.R.Rule.bounded r) (g.met.R.Rule.full r) in
    let ok = accepted (refusal metering (settle rule (length lines)) a) Settled c.in_ok-next.next c.in_ok-next.ensures in
    let end = course c.cover_all.new.self in
    let covered : c.zip_with.result ≡ each_two (λ p rest. p - rest) a.pending end.rests = search rules in
    let answer : record { covered = c.zip_with.result; due = end.rests; lines = c.write-count.result } ≡ settlement rule a =
    answer_is rule a end c.cover_all.ensures.course (each listed c.lefts-before.result) c.lefts-before.ensures _ _ covered c.write-count.ensures.count in
    let written' : c.write-count.new.lines ≡ written (meter_lines rule a) lines = search rules in
    let none : c.default-self.result ≡ all 0 = search rules in
    let settled = settling_is rule a end c.cover_all.ensures.course _ _ _ c.cover_all.ensures.ready.0 ok.1 none in
    let gave = ap Ok answer ∙ ap (λ o. answers o (settlement rule a)) ok.0 in
    let left = settled ∙ ap (λ o. becomes o (settling_meter rule a) a) ok.0 in
    let slots : EachAccounted true c.args.self.now.meters.stores c.cover_all.new.self.stores = search rules in
    record {
      answer = gave;
      state = left;
      lines = written' ∙ ap (λ o. becomes o (written (meter_lines rule a) lines) lines) ok.0;
      slots = slots;
      promised = keeps_call metering metering_keeps a _ (settle rule (length lines)) law (Ok (record { covered = c.zip_with.result; due = end.rests; lines = c.write-count.result })) gave left;
      unopened = stays meters metering_shut c.args.self.now _ (settle rule (length lines)) law (Ok (record { covered = c.zip_with.result; due = end.rests; lines = c.write-count.result })) gave left (each_same_slots _ _ _ slots);
    }
