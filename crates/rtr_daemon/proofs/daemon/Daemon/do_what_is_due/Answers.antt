use Rattle.rtr_daemon.proofs.DueLaws.{due_of}
use Rattle.rtr_daemon.proofs.ServiceLaws.{then_goes}
use Rattle.rtr_daemon.proofs.daemon.Daemon.do_what_is_due.Goals as goal

pub returns-clause-goes : goal.returns-clause-goes
returns-clause-goes g c =
    then_goes g.W.Time.can_be g.S.VersionStore.holds g.T.Stream.remaining g.T.Stream.contents c.args.self.now.service c.check.new.self.service c.go_round.new.self.service c.check.ensures.goes c.go_round.ensures.goes

pub returns-clause-due : goal.returns-clause-due
returns-clause-due g c =
    due_of g.W.Disk.answers g.W.Sockets.calls g.W.Time.can_be g.W.Time.can_tick c.millis-now.result c.args.self.now c.check.new.self c.go_round.new.self c.millis-now.ensures.ticks c.check.ensures.polls c.check.ensures.fresh c.check.ensures.paths c.check.ensures.times
    (record {
      fresh = c.go_round.ensures.fresh;
      has = λ due. record { closes = c.go_round.ensures.closes due; tries = c.go_round.ensures.tries due; publishes = c.go_round.ensures.due due; next_round = c.go_round.ensures.round due };
      idle = c.go_round.ensures.idle;
      kept = c.go_round.ensures.kept;
      next = c.go_round.ensures.next;
      wakes = c.go_round.ensures.wakes;
    })
