use Rattle.std.proofs.Common.{◌∙◌, ap, subst, sym}
use Rattle.std.specs.Prelude.{None}
use Rattle.rtr_daemon.specs.Running.{clients_within}
use Rattle.rtr_daemon.specs.Serving.{LeadsToService, past_of}
use Rattle.rtr_daemon.specs.Starting.{Begins, ReadsAll}
use Rattle.vrps.specs.Steps.{HoldsSteps}
use Rattle.rpkirtrd_start.specs.Plans.{IsMadeAs, cache_of}
use Rattle.rpkirtrd_start.proofs.starting.start.Goals as goal

pub returns-clause-cache : goal.returns-clause-cache
returns-clause-cache g c =
    let led = c.in_ok-daemon.ensures.leads (λ conn. record { before = None; had = None }) in
    subst (λ wanted. IsMadeAs c.in_ok-daemon.daemon.service.settings wanted) (c.cache_of-cache.ensures ∙ ap (cache_of c.args.settings) c.clients_within-clients.ensures)
    (sym led.2.made_with.keep ∙ led.1.keep, sym led.2.made_with.timing ∙ led.1.timing, sym led.2.made_with.most ∙ led.1.most)

pub returns-clause-begun : goal.returns-clause-begun
returns-clause-begun g c =
    let d = c.in_ok-daemon.daemon in
    let opened = c.in_ok-daemon.ensures in
    record {
      begins = subst (λ plan. Begins g.W.Time.can_be g.W.Time.can_tick plan d) c.plan_of-plan.ensures opened.begins;
      planned = opened.planned.0 ∙ c.plan_of-plan.ensures;
      paths = c.in_ok-paths.paths;
      are = c.in_ok-paths.ensures;
      watches = opened.watches;
      reads = subst (λ plan. ReadsAll g.W.Disk.answers plan d) c.plan_of-plan.ensures opened.reads;
      comes = opened.comes;
      named = (c.seconds-begun.result, c.seconds-begun.ensures, c.in-Ok.choice, c.in-Ok.ensures, opened.planned.2);
      leads = λ begun.
          subst (λ ids. LeadsToService g.W.Time.can_be HoldsSteps g.T.Stream.remaining g.T.Stream.contents (past_of (cache_of c.args.settings (clients_within c.args.settings.clients c.args.descriptors c.args.http)) ids begun) d.service) (sym opened.planned.2)
          (subst (λ made. LeadsToService g.W.Time.can_be HoldsSteps g.T.Stream.remaining g.T.Stream.contents (past_of made c.in-Ok.choice.ids begun) d.service) (c.cache_of-cache.ensures ∙ ap (cache_of c.args.settings) c.clients_within-clients.ensures) (opened.leads begun));
      closed = opened.closed;
    }
