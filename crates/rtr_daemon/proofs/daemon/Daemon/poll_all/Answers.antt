use Rattle.std.proofs.Common.{subst, sym, ap}
use Rattle.rtr_daemon.specs.Serving.{Continues}
use Rattle.rtr_daemon.proofs.DueLaws.{clock_only, files_on, polled_on, polls_of, same_paths_of}
use Rattle.rtr_daemon.proofs.ServiceLaws.{then_on}
use Rattle.rtr_daemon.proofs.daemon.Daemon.poll_all.Goals as goal

pub returns-clause-goes : goal.returns-clause-goes
returns-clause-goes g c =
    let followed = then_on g.S.VersionStore.holds g.T.Stream.remaining g.T.Stream.contents c.judge_clock.new.self.service c.follow_all.new.self.service c.follow_slurms.new.self.service c.follow_all.ensures.goes c.follow_slurms.ensures.goes in
    subst (λ s. Continues g.S.VersionStore.holds g.T.Stream.remaining g.T.Stream.contents c.args.self.now.service s) (sym (ap (λ d. d.service) c.judge_ages.ensures.rest))
    (subst (λ s. Continues g.S.VersionStore.holds g.T.Stream.remaining g.T.Stream.contents s c.offer_all.new.self.service) (ap (λ d. d.service) c.judge_clock.ensures)
    (then_on g.S.VersionStore.holds g.T.Stream.remaining g.T.Stream.contents c.judge_clock.new.self.service c.follow_slurms.new.self.service c.offer_all.new.self.service followed c.offer_all.ensures.goes))

pub returns-clause-polls : goal.returns-clause-polls
returns-clause-polls g c =
    let only =
    files_on c.args.self.now c.follow_slurms.new.self c.offer_all.new.self
    (files_on c.args.self.now c.follow_all.new.self c.follow_slurms.new.self
    (files_on c.args.self.now c.judge_clock.new.self c.follow_all.new.self (clock_only c.args.self.now c.judge_clock.new.self c.judge_clock.ensures) c.follow_all.ensures.rest)
    c.follow_slurms.ensures.rest)
    c.offer_all.ensures.rest in
    polls_of g.W.Disk.answers g.W.Time.can_be g.W.Time.can_tick c.args.self.now c.judge_clock.new.self c.follow_all.new.self c.follow_slurms.new.self c.offer_all.new.self c.judge_ages.new.self
    (record {
      judged = c.judge_clock.ensures;
      exports = c.follow_all.ensures.follows;
      names = c.follow_all.ensures.names;
      after_exports = c.follow_all.ensures.kept;
      slurms = c.follow_slurms.ensures.follows;
      slurm_refusals = c.follow_slurms.ensures.refusals;
      slurm_paths = c.follow_slurms.ensures.paths;
      after_slurms = c.follow_slurms.ensures.kept;
      points = c.offer_all.ensures.offers;
      point_paths = c.offer_all.ensures.paths;
      after_points = c.offer_all.ensures.kept;
      only = only;
      ages = c.judge_ages.ensures;
    })

pub returns-clause-paths : goal.returns-clause-paths
returns-clause-paths g c =
    let only =
    files_on c.args.self.now c.follow_slurms.new.self c.offer_all.new.self
    (files_on c.args.self.now c.follow_all.new.self c.follow_slurms.new.self
    (files_on c.args.self.now c.judge_clock.new.self c.follow_all.new.self (clock_only c.args.self.now c.judge_clock.new.self c.judge_clock.ensures) c.follow_all.ensures.rest)
    c.follow_slurms.ensures.rest)
    c.offer_all.ensures.rest in
    same_paths_of g.W.Disk.answers g.W.Time.can_be g.W.Time.can_tick c.args.self.now c.judge_clock.new.self c.follow_all.new.self c.follow_slurms.new.self c.offer_all.new.self c.judge_ages.new.self
    (record {
      judged = c.judge_clock.ensures;
      exports = c.follow_all.ensures.follows;
      names = c.follow_all.ensures.names;
      after_exports = c.follow_all.ensures.kept;
      slurms = c.follow_slurms.ensures.follows;
      slurm_refusals = c.follow_slurms.ensures.refusals;
      slurm_paths = c.follow_slurms.ensures.paths;
      after_slurms = c.follow_slurms.ensures.kept;
      points = c.offer_all.ensures.offers;
      point_paths = c.offer_all.ensures.paths;
      after_points = c.offer_all.ensures.kept;
      only = only;
      ages = c.judge_ages.ensures;
    })

pub returns-clause-rest : goal.returns-clause-rest
returns-clause-rest g c =
    polled_on g.W.Time.can_be c.args.self.now c.offer_all.new.self c.judge_ages.new.self
    (files_on c.args.self.now c.follow_slurms.new.self c.offer_all.new.self
    (files_on c.args.self.now c.follow_all.new.self c.follow_slurms.new.self
    (files_on c.args.self.now c.judge_clock.new.self c.follow_all.new.self (clock_only c.args.self.now c.judge_clock.new.self c.judge_clock.ensures) c.follow_all.ensures.rest)
    c.follow_slurms.ensures.rest)
    c.offer_all.ensures.rest)
    c.judge_ages.ensures
