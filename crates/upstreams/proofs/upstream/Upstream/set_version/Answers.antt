use Rattle.std.proofs.Common.{None}
use Rattle.upstreams.proofs.UpstreamLaws as laws
use Rattle.upstreams.proofs.upstream.Upstream.set_version.Goals as goal

pub returns-clause-calls : goal.returns-clause-calls
returns-clause-calls g c = λ calls b h. laws.shows g.T.Stream.remaining g.T.Stream.contents _ b (record c.args.self.now { router = c.speak.new.self; fallback = record { chosen = c.args.version; since = None } }) (laws.speaks g.T.Stream.remaining g.T.Stream.contents c.args.self.now.router c.speak.new.self c.args.self.now.connection c.args.version c.speak.ensures.calls calls b (laws.runs_of g.T.Stream.remaining g.T.Stream.contents calls b c.args.self.now h)) h.noted
