use Rattle.std.proofs.Common.{refl}
use Rattle.rtr_ends.specs.Router.{played}
use Rattle.upstreams.specs.declared.connection.PollOutcome.TheVariants.{Disconnected}
use Rattle.upstreams.proofs.UpstreamLaws as laws
use Rattle.upstreams.proofs.upstream.Upstream.poll.Goals as goal

pub returns-in-Disconnected-clause-polls : goal.returns-in-Disconnected-clause-polls
returns-in-Disconnected-clause-polls g c =
    laws.leaves g.T.Stream.remaining g.T.Stream.contents g.T.Stream.answers c.args.now c.args.budget c.args.self.now c.in-Disconnected._reason c.poll_connection-outcome.new.router c.poll_connection-outcome.new.connection c.close.new.self
    c.in-Disconnected.ensures c.close.ensures.gone (λ calls leads. c.close.ensures.calls (played calls).router leads) c.close.ensures.noted c.close.ensures.carried c.close.ensures.received c.close.ensures.sent c.close.ensures.stall c.close.ensures.limit c.close.ensures.fallback

pub returns-in-Disconnected-clause-goes : goal.returns-in-Disconnected-clause-goes
returns-in-Disconnected-clause-goes g c =
    laws.goes_on g.T.Stream.remaining g.T.Stream.contents g.T.Stream.answers c.args.now c.args.budget c.args.self.now c.close.new.self (Disconnected c.in-Disconnected._reason)
    (laws.leaves g.T.Stream.remaining g.T.Stream.contents g.T.Stream.answers c.args.now c.args.budget c.args.self.now c.in-Disconnected._reason c.poll_connection-outcome.new.router c.poll_connection-outcome.new.connection c.close.new.self
    c.in-Disconnected.ensures c.close.ensures.gone (λ calls leads. c.close.ensures.calls (played calls).router leads) c.close.ensures.noted c.close.ensures.carried c.close.ensures.received c.close.ensures.sent c.close.ensures.stall c.close.ensures.limit c.close.ensures.fallback)

pub returns-in_default : goal.returns-in_default
returns-in_default g c =
    let stays = laws.stays_so g.T.Stream.remaining g.T.Stream.contents g.T.Stream.answers c.args.now c.args.budget c.args.self.now c.poll_connection-outcome.result (record c.args.self.now { router = c.poll_connection-outcome.new.router; connection = c.poll_connection-outcome.new.connection })
    c.in_default.not-Disconnected c.poll_connection-outcome.ensures refl refl refl refl refl refl refl in
    record {
      polls = stays;
      goes = laws.goes_on g.T.Stream.remaining g.T.Stream.contents g.T.Stream.answers c.args.now c.args.budget c.args.self.now (record c.args.self.now { router = c.poll_connection-outcome.new.router; connection = c.poll_connection-outcome.new.connection }) c.poll_connection-outcome.result stays;
    }
