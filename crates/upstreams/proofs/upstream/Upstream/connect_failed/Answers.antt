use Rattle.std.proofs.Common.{◌∙◌, ap}
use Rattle.upstreams.specs.Notes.{noted_at_connection}
use Rattle.upstreams.specs.Versions.{version_at}
use Rattle.upstreams.proofs.UpstreamLaws as laws
use Rattle.upstreams.proofs.upstream.Upstream.connect_failed.Goals as goal

pub returns-clause-calls : goal.returns-clause-calls
returns-clause-calls g c = λ calls b h.
    let begun = c.begin-spoken.ensures.calls calls b h in
    laws.fails g.T.Stream.remaining g.T.Stream.contents c.args.self.now (record c.close.new.self { notes = c.new-self.result }) c.begin-spoken.new.self.router c.args.at (version_at c.args.at c.args.self.now.fallback calls) begun.0 c.close.ensures.calls c.close.ensures.gone
    (c.new-self.ensures ∙ ap (noted_at_connection c.args.at) begun.1) calls b h

pub returns-clause-fallback : goal.returns-clause-fallback
returns-clause-fallback g c = λ calls b h. c.close.ensures.fallback ∙ c.begin-spoken.ensures.fallback calls b h
