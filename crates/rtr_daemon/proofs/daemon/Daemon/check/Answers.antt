use Rattle.std.proofs.Common.{◌∙◌, ap, refl, arith}
use Rattle.rtr_daemon.proofs.DueLaws.{polled_then}
use Rattle.rtr_daemon.specs.Files.{paths_of}
use Rattle.rtr_daemon.specs.PointOffers.{points_of}
use Rattle.rtr_daemon.proofs.ServiceLaws.{then_on}
use Rattle.rtr_daemon.proofs.daemon.Daemon.check.Goals as goal

pub returns-clause-goes : goal.returns-clause-goes
returns-clause-goes g c =
    then_on g.S.VersionStore.holds g.T.Stream.remaining g.T.Stream.contents c.args.self.now.service c.poll_all.new.self.service c.judge_expiry.new.self.service c.poll_all.ensures.goes c.judge_expiry.ensures.goes

pub returns-clause-fresh : goal.returns-clause-fresh
returns-clause-fresh g c = λ due. c.judge_expiry.ensures.fresh

pub returns-clause-polls : goal.returns-clause-polls
returns-clause-polls g c = λ due. polled_then g.W.Disk.answers g.W.Time.can_be g.W.Time.can_tick c.args.self.now _ c.poll_all.new.self c.judge_expiry.new.self refl c.poll_all.ensures.polls (ap (λ d. d.service.sources) c.judge_expiry.ensures.rest.rest) c.judge_expiry.ensures.rest.marks c.judge_expiry.ensures.rest.ages (ap (λ d. d.slurms) c.judge_expiry.ensures.rest.rest) (ap (λ d. d.is_old) c.judge_expiry.ensures.rest.rest)

pub returns-clause-paths : goal.returns-clause-paths
returns-clause-paths g c =
    let rest = c.judge_expiry.ensures.rest.rest in
    record {
      exports = c.judge_expiry.ensures.rest.names ∙ c.poll_all.ensures.paths.exports;
      slurms = ap (λ d. paths_of d.slurms.items) rest ∙ c.poll_all.ensures.paths.slurms;
      points = ap (λ d. points_of d.points.items) rest ∙ c.poll_all.ensures.paths.points;
    }

pub returns-clause-times : goal.returns-clause-times
returns-clause-times g c =
    let only = c.poll_all.ensures.rest in
    let rest = c.judge_expiry.ensures.rest.rest in
    record {
      next_check = λ due. ap (λ d. d.next_check) rest ∙ ap (λ d. d.next_check) only ∙ c.saturating_add-self.ensures;
      next_round = λ due. ap (λ d. d.next_round) rest ∙ ap (λ d. d.next_round) only;
      held_until = λ due. ap (λ d. d.held_until) rest ∙ ap (λ d. d.held_until) only;
      pace = ap (λ d. d.service.pace) rest ∙ ap (λ d. d.service.pace) only;
      settings = ap (λ d. d.service.settings) rest ∙ ap (λ d. d.service.settings) only;
      failing = ap (λ d. d.failing) rest ∙ ap (λ d. d.failing) only;
      ready = ap (λ d. d.is_ready) rest ∙ ap (λ d. d.is_ready) only;
      listeners = ap (λ d. d.listeners) rest ∙ ap (λ d. d.listeners) only;
      clients = (ap (λ d. d.clients) rest ∙ ap (λ d. d.clients) only, ap (λ d. d.readings) rest ∙ ap (λ d. d.readings) only);
      rest = (ap (λ d. d.plan) rest ∙ ap (λ d. d.plan) only, ap (λ d. d.started) rest ∙ ap (λ d. d.started) only, ap (λ d. d.opened) rest ∙ ap (λ d. d.opened) only);
      between = λ early. absurd (omega (arith, early, c.if-now-self.false));
    }
