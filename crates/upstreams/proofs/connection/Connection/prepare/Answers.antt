use Rattle.std.proofs.Common.{◌≡◌, ◌∙◌, refl}
use Rattle.rtr_ends.proofs.TableLaws.{false_true}
use Rattle.upstreams.specs.Polls.{Anyhow, HasUnwritten, IsFlushed, IsOver, MayBeFlushed}
use Rattle.upstreams.proofs.ConnectionLaws as laws
use Rattle.upstreams.proofs.connection.Connection.prepare.Goals as goal

pub loop-now-init : goal.loop-now-init
loop-now-init g c = record { goes = laws.stays g.T.Stream.remaining g.T.Stream.contents c.args.now Anyhow c.args.router.now c.args.self.now; answers = refl }

pub returns-then-not-is_empty-clause-goes : goal.returns-then-not-is_empty-clause-goes
returns-then-not-is_empty-clause-goes g c =
    laws.so_then g.T.Stream.remaining g.T.Stream.contents c.args.now Anyhow MayBeFlushed HasUnwritten c.args.router.now c.args.self.now c.fill.new.router c.fill.new.self (λ calls b runs flushed. laws.to_write c.fill.new.self.unwritten (λ none. false_true (c.if-not-is_empty.ensures.1 none)))
    (laws.then_on g.T.Stream.remaining g.T.Stream.contents c.args.now Anyhow Anyhow MayBeFlushed c.args.router.now c.args.self.now c.loop-now.router c.loop-now.self c.fill.new.router c.fill.new.self c.loop-now.invariant.goes (c.fill.ensures.goes c.args.now))

pub returns-then-is_empty-clause-goes : goal.returns-then-is_empty-clause-goes
returns-then-is_empty-clause-goes g c =
    laws.next_is g.T.Stream.remaining g.T.Stream.contents c.args.now Anyhow c.args.router.now c.args.self.now c.fill.new.router c.fill.new.self c.next_on.result (c.if-not-is_empty.ensures.0 refl) (c.is_empty-in-loop-now.ensures.0 c.if-is_empty.true) c.next_on.ensures
    (laws.then_on g.T.Stream.remaining g.T.Stream.contents c.args.now Anyhow Anyhow MayBeFlushed c.args.router.now c.args.self.now c.loop-now.router c.loop-now.self c.fill.new.router c.fill.new.self c.loop-now.invariant.goes (c.fill.ensures.goes c.args.now))

pub returns-then-take-eq0-clause-goes : goal.returns-then-take-eq0-clause-goes
returns-then-take-eq0-clause-goes g c =
    laws.ended_is g.T.Stream.remaining g.T.Stream.contents c.args.now Anyhow c.args.router.now c.args.self.now c.take.new.router c.take.new.self c.end_of.result c.end_of.ensures
    (laws.then_on g.T.Stream.remaining g.T.Stream.contents c.args.now Anyhow IsFlushed IsOver c.args.router.now c.args.self.now c.fill.new.router c.fill.new.self c.take.new.router c.take.new.self
    (laws.so_then g.T.Stream.remaining g.T.Stream.contents c.args.now Anyhow MayBeFlushed IsFlushed c.args.router.now c.args.self.now c.fill.new.router c.fill.new.self (λ calls b runs flushed. flushed (c.if-not-is_empty.ensures.0 refl))
    (laws.then_on g.T.Stream.remaining g.T.Stream.contents c.args.now Anyhow Anyhow MayBeFlushed c.args.router.now c.args.self.now c.loop-now.router c.loop-now.self c.fill.new.router c.fill.new.self c.loop-now.invariant.goes (c.fill.ensures.goes c.args.now)))
    (laws.so_then g.T.Stream.remaining g.T.Stream.contents c.args.now IsFlushed (λ s. c.take.result ≡ 0 → IsOver s) IsOver c.fill.new.router c.fill.new.self c.take.new.router c.take.new.self (λ calls b runs over. over c.if-take-eq0.true) c.take.ensures.goes))

pub loop-now-preserved : goal.loop-now-preserved
loop-now-preserved g c = record {
  goes = laws.then_on g.T.Stream.remaining g.T.Stream.contents c.args.now Anyhow IsFlushed Anyhow c.args.router.now c.args.self.now c.fill.new.router c.fill.new.self c.take.new.router c.take.new.self
      (laws.so_then g.T.Stream.remaining g.T.Stream.contents c.args.now Anyhow MayBeFlushed IsFlushed c.args.router.now c.args.self.now c.fill.new.router c.fill.new.self (λ calls b runs flushed. flushed (c.if-not-is_empty.ensures.0 refl))
      (laws.then_on g.T.Stream.remaining g.T.Stream.contents c.args.now Anyhow Anyhow MayBeFlushed c.args.router.now c.args.self.now c.loop-now.router c.loop-now.self c.fill.new.router c.fill.new.self c.loop-now.invariant.goes (c.fill.ensures.goes c.args.now)))
      (laws.so_then g.T.Stream.remaining g.T.Stream.contents c.args.now IsFlushed (λ s. c.take.result ≡ 0 → IsOver s) Anyhow c.fill.new.router c.fill.new.self c.take.new.router c.take.new.self (λ calls b runs over. tt) c.take.ensures.goes);
  answers = laws.same_taken g.T.Stream.answers c.fill.new.self c.take.new.self _ _ _ c.take.ensures.rest ∙ laws.same_filled g.T.Stream.answers c.loop-now.self c.fill.new.self _ c.fill.ensures.rest ∙ c.loop-now.invariant.answers;
}
