use Rattle.upstreams.proofs.UpstreamLaws as laws
use Rattle.upstreams.proofs.upstream.Upstream.configure.Goals as goal

pub returns-clause-calls : goal.returns-clause-calls
returns-clause-calls g c = λ calls b h. laws.shows g.T.Stream.remaining g.T.Stream.contents _ b (record c.args.self.now { router = c.configure.new.self }) (laws.configures g.T.Stream.remaining g.T.Stream.contents c.args.self.now.router c.configure.new.self c.args.self.now.connection c.args.config c.configure.ensures.calls calls b (laws.runs_of g.T.Stream.remaining g.T.Stream.contents calls b c.args.self.now h)) h.noted
