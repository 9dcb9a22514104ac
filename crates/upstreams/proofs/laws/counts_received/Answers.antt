use Rattle.upstreams.proofs.UpstreamLaws as laws
use Rattle.upstreams.proofs.laws.counts_received.Goals as goal

pub returns : goal.returns
returns g c = laws.counts_received g.T.Stream.remaining g.T.Stream.contents c.args.upstream.now c.counts_splits.ensures
