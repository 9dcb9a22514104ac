use Rattle.std.proofs.Common.{ap, subst, List, Option, ℕ, ◌∙◌}
use Rattle.http.specs.Request.{head_of}
use Rattle.status_server.specs.Answers.{CarriesOut, Shown}
use Rattle.status_server.specs.Plans.{PlansSo}
use Rattle.status_server.proofs.Sending.{on_ok}
use Rattle.status_server.proofs.answers.Answers.answer.Goals as goal

pub returns-clause-planned : goal.returns-clause-planned
returns-clause-planned g c = on_ok c.carry_out.result c.carry_out.ensures.carries (λ carries. record {
  plan = c.plan_of-plan.result;
  plans = subst (λ (name : Option (List ℕ)). PlansSo name (head_of c.args.request.now) c.plan_of-plan.result) (ap (λ a. a.name) c.self.view_is) c.plan_of-plan.ensures;
  blank = c.args.response.now;
  is_blank = c.requires;
  now = c.now-now.result;
  dated = c.add_date.new.response;
  is_dated = c.in_ok-add_date.ensures;
  carries = subst (λ (shown : Shown). CarriesOut shown (head_of c.args.request.now) c.plan_of-plan.result c.add_date.new.response c.carry_out.new.response)
      (c.now-now.ensures ∙ ap (λ a. g.S.StatusSource.shows a.source) c.self.view_is) carries;
})
