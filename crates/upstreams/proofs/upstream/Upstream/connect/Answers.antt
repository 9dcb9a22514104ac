use Rattle.std.proofs.Common.{◌∙◌, [], ap, Some}
use Rattle.rtr_server.specs.Turns.{no_traffic}
use Rattle.upstreams.specs.Notes.{noted_at_connection}
use Rattle.upstreams.specs.Versions.{version_at}
use Rattle.upstreams.proofs.UpstreamLaws as laws
use Rattle.upstreams.proofs.upstream.Upstream.connect.Goals as goal

pub returns-clause-calls : goal.returns-clause-calls
returns-clause-calls g c = λ calls b h.
    let begun = c.begin-spoken.ensures.calls calls b h in
    laws.connects g.T.Stream.remaining g.T.Stream.contents c.args.self.now (record c.begin-spoken.new.self { connection = Some c.new.result }) c.args.stream c.args.now (version_at c.args.now c.args.self.now.fallback calls) begun.0
    (ap Some c.new.ensures ∙ ap (λ v. Some (record { stream = c.args.stream; unread = []; unwritten = []; traffic = no_traffic; notes = noted_at_connection c.args.now v })) begun.1) calls b h
