use Rattle.upstreams.proofs.UpstreamLaws as laws
use Rattle.upstreams.proofs.upstream.Upstream.advance.Goals as goal

pub returns-clause-calls : goal.returns-clause-calls
returns-clause-calls g c = λ calls b h.
    let t = laws.ticks g.T.Stream.remaining g.T.Stream.contents c.args.self.now.router c.tick.new.self c.args.self.now.connection c.note_tick.new.connection c.args.self.now.notes c.is_idle-was_idle.result c.args.now c.is_idle-was_idle.ensures c.note_tick.ensures c.tick.ensures.calls calls b (laws.runs_of g.T.Stream.remaining g.T.Stream.contents calls b c.args.self.now h) h.noted in
    laws.shows g.T.Stream.remaining g.T.Stream.contents _ b (record c.args.self.now { router = c.tick.new.self; connection = c.note_tick.new.connection }) t.0 t.1
