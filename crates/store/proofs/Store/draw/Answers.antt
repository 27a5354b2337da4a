use Rattle.std.proofs.Common.{ap, ◌∙◌, rules}
use Rattle.ledger.specs.Rules.{by_rule}
use Rattle.ledger.specs.Calls.Call.{draw}
use Rattle.ledger.proofs.Keeps.{keeps}
use Rattle.store.specs.Reading.{kind_of, ledger_of}
use Rattle.store.proofs.Lawful.{lawful, lawful_rule}
use Rattle.store.proofs.Accepted.{accepted}
use Rattle.store.proofs.Slots.{accounted}
use Rattle.store.proofs.Unopened.{stays}
use Rattle.store.proofs.Drawn.{drawn_sound, drawn_answer, drawn_after}
use Rattle.store.proofs.Store.draw.Goals as goal

pub returns-in_err-may_draw-clause-promised : goal.returns-in_err-may_draw-clause-promised
returns-in_err-may_draw-clause-promised g c =
    let laws = g.met.K.Kind in
    let r = c.args.rule.now in
    let rule = g.met.R.Rule in
    keeps (kind_of g.K.Kind) (lawful g.K.Kind laws.lasting laws.short laws.within) _ _ (draw _) (lawful_rule (g.R.Rule.gives r) (rule.sized r) (rule.bounded r) (rule.full r)) _ (search rules) (search rules)

pub returns-in_err-may_draw-clause-unopened : goal.returns-in_err-may_draw-clause-unopened
returns-in_err-may_draw-clause-unopened g c =
    let r = c.args.rule.now in
    let rule = g.met.R.Rule in
    stays _ _ (draw _) (lawful_rule (g.R.Rule.gives r) (rule.sized r) (rule.bounded r) (rule.full r)) _ (search rules) (search rules) (search rules)

pub invariant_of-self : goal.invariant_of-self
invariant_of-self g c =
    let s = c.args.self.now in
    let r = c.args.rule.now in
    let rule = g.met.R.Rule in
    let gives = g.R.Rule.gives r in
    let gave = c.give-takings.ensures ∙ ap (λ ls. gives s.month ls c.args.wanted) c.lefts-left.ensures in
    let e = c.take_each.ensures in
    record {
      sound =
          drawn_sound s gives (lawful_rule gives (rule.sized r) (rule.bounded r) (rule.full r)) c.args.wanted _ gave _ c.total-sum.ensures c.take_each.new.self e.front e.long _ c.add_used.ensures;
      clean = e.exact s.clean;
    }

pub returns : goal.returns
returns g c =
    let laws = g.met.K.Kind in
    let s = c.args.self.now in
    let l = ledger_of g.K.Kind s in
    let r = c.args.rule.now in
    let rule = g.met.R.Rule in
    let gives = g.R.Rule.gives r in
    let lawful_gives = lawful_rule gives (rule.sized r) (rule.bounded r) (rule.full r) in
    let w = c.args.wanted in
    let call = draw (by_rule gives w) in
    let gave = c.give-takings.ensures ∙ ap (λ ls. gives s.month ls w) c.lefts-left.ensures in
    let e = c.take_each.ensures in
    let none = accepted _ _ _ c.in_ok-may_draw.ensures in
    let answer = drawn_answer s gives lawful_gives w _ gave _ c.total-sum.ensures c.take_each.new.self e.front none in
    let state = drawn_after s gives lawful_gives w _ gave _ c.total-sum.ensures c.take_each.new.self e.front none _ c.add_used.ensures in
    let slots = accounted _ _ (search rules) e.long e.same in
    record {
      answer = answer;
      state = state;
      slots = slots;
      promised = keeps (kind_of g.K.Kind) (lawful g.K.Kind laws.lasting laws.short laws.within) l _ call lawful_gives _ answer state;
      unopened = stays _ _ call lawful_gives _ answer state slots;
    }
