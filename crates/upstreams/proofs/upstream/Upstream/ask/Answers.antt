use Rattle.std.proofs.Common.{◌≡◌, ◌∷◌, subst, sym}
use Rattle.rtr_ends.specs.Router.{AsksNow, Ticks}
use Rattle.upstreams.specs.Notes.{noted}
use Rattle.upstreams.specs.Polls.{Runs, notes_of}
use Rattle.upstreams.proofs.UpstreamLaws as laws
use Rattle.upstreams.proofs.upstream.Upstream.ask.Goals as goal

pub returns-clause-calls : goal.returns-clause-calls
returns-clause-calls g c = λ calls b h early.
    let t = laws.asks_now g.T.Stream.remaining g.T.Stream.contents c.args.self.now.router c.ask-asked.new.self c.args.self.now.connection c.args.self.now.notes c.args.now c.ask-asked.ensures.calls calls b early (laws.runs_of g.T.Stream.remaining g.T.Stream.contents _ b c.args.self.now h) h.noted in
    let u = subst (λ x. Runs g.T.Stream.remaining g.T.Stream.contents (AsksNow ∷ Ticks c.args.now ∷ calls) b c.ask-asked.new.self x × (notes_of x c.args.self.now.notes ≡ noted (AsksNow ∷ Ticks c.args.now ∷ calls))) (sym c.note_query.ensures) t in
    laws.shows g.T.Stream.remaining g.T.Stream.contents _ b (record c.args.self.now { router = c.ask-asked.new.self; connection = c.note_query.new.connection }) u.0 u.1
