use Rattle.rtr_world.proofs.Words.{◌≡◌, ◌≤◌, Bool, cond, is_err, sym, ap, ◌∙◌, subst, arith, List}
use Rattle.rtr_world.specs.History.{Entry, Made}
use Rattle.rtr_world.specs.Reached.{LeadsTo}
use Rattle.rtr_world.proofs.EndsNoted.{lawful_ends}
use Rattle.rtr_world.proofs.EventRuns.{all_came, at_most, bool_is, none_yet, one_more, so}
use Rattle.rtr_world.proofs.OneAnswers.{one_answer}
use Rattle.rtr_world.proofs.WorldSteps.{tables}
use Rattle.rtr_world.proofs.WorldSteps.{no_way_back, sentence}
use Rattle.rtr_world.proofs.world.World.run.Goals as goal

pub loop-event-init : goal.loop-event-init
loop-event-init c = record { runs = λ made history h. none_yet made history c.args.self.now h; few = omega arith }

pub loop-event-preserved : goal.loop-event-preserved
loop-event-preserved c =
    let n : c.from-refused.result ≡ cond (is_err c.step.result) 1 0 = bool_is c.is_err.result c.from-refused.result c.from-refused.ensures ∙ ap (λ (b : Bool). cond b 1 0) c.is_err.ensures.value in
    let small : c.from-refused.result ≤ 1 = subst (λ x. x ≤ 1) (sym n) (at_most (is_err c.step.result)) in
    record {
      runs = λ made history h.
          one_more made history c.args.events.now c.loop-event.event-index c.event-item.result c.loop-event.refused c.from-refused.result c.loop-event.self c.step.new.self c.step.result c.loop-event-test.true c.event-item.is n (c.loop-event.invariant.runs made history h) (λ k. c.step.ensures made k);
      few = omega (arith, c.loop-event.invariant.few, small);
    }

pub returns : goal.returns
returns c =
    let runs = λ (made : Made) (history : List Entry) (h : LeadsTo made history c.args.self.now). all_came made history c.args.events.now c.loop-event.event-index c.loop-event.refused c.loop-event.self (omega (arith, c.loop-event-test.false)) (c.loop-event.invariant.runs made history h) in
    record {
      steps = runs;
      tables = λ made history h. so made history _ _ _ _ tables (runs made history h);
      one_answer = λ made history h. so made history _ _ _ _ one_answer (runs made history h);
      sentence = λ made history h. so made history _ _ _ _ sentence (runs made history h);
      no_way_back = λ made history h. so made history _ _ _ _ no_way_back (runs made history h);
      lawful_ends = λ made history h. so made history _ _ _ _ lawful_ends (runs made history h);
    }
