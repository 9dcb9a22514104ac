use Rattle.upstreams.proofs.UpstreamLaws as laws
use Rattle.upstreams.proofs.upstream.Upstream.disconnect.Goals as goal

pub returns-clause-calls : goal.returns-clause-calls
returns-clause-calls g c = laws.closes g.T.Stream.remaining g.T.Stream.contents c.args.self.now c.close.new.self c.args.now c.close.ensures.calls c.close.ensures.gone c.close.ensures.noted
