use Rattle.std.proofs.Common.{◌≡◌, ◌∙◌, sym, refl, not}
use Rattle.prefixes.proofs.Basics.{false_of_not, true_of_not}
use Rattle.rtr_ends.proofs.TableLaws.{false_true}
use Rattle.rtr_server.specs.Turns.{Anyhow, IsIdle, IsOver, IsSettled, IsToWrite, MaySettle}
use Rattle.rtr_server.proofs.TurnLaws as laws
use Rattle.rtr_server.proofs.turn.Slot.prepare.Goals as goal

pub loop-self-init : goal.loop-self-init
loop-self-init g c = record { conn = refl; goes = laws.stays g.S.VersionStore.holds g.T.Stream.remaining g.T.Stream.contents Anyhow c.args.self.now c.args.cache.now; answers = refl }

pub returns-then-not-is_empty-clause-goes : goal.returns-then-not-is_empty-clause-goes
returns-then-not-is_empty-clause-goes g c =
    laws.so_then g.S.VersionStore.holds g.T.Stream.remaining g.T.Stream.contents Anyhow MaySettle IsToWrite c.args.self.now c.fill.new.self c.args.cache.now c.fill.new.cache (λ s settled. laws.to_write c.fill.new.self.unwritten (λ none. false_true (c.if-not-is_empty.ensures.1 none)))
    (laws.then_on g.S.VersionStore.holds g.T.Stream.remaining g.T.Stream.contents Anyhow Anyhow MaySettle c.args.self.now c.loop-self.self c.fill.new.self c.args.cache.now c.loop-self.cache c.fill.new.cache c.loop-self.invariant.conn c.loop-self.invariant.goes c.fill.ensures.goes)

pub returns-then-is_open-clause-goes : goal.returns-then-is_open-clause-goes
returns-then-is_open-clause-goes g c =
    laws.so_then g.S.VersionStore.holds g.T.Stream.remaining g.T.Stream.contents Anyhow (λ s. MaySettle s × (c.is_open.result ≡ not s.serving.conn.state.ended)) IsIdle c.args.self.now c.fill.new.self c.args.cache.now c.fill.new.cache
    (λ s h. record { settled = h.0 (c.if-not-is_empty.ensures.0 refl); all_consumed = c.is_empty-in-loop-self.ensures.0 c.if-is_empty.true; goes_on = false_of_not s.conn.state.ended (sym h.1 ∙ c.if-is_open.true) })
    (laws.open_is g.S.VersionStore.holds g.T.Stream.remaining g.T.Stream.contents Anyhow MaySettle c.args.self.now c.fill.new.self c.args.cache.now c.fill.new.cache c.is_open.result (c.fill.ensures.conn ∙ c.loop-self.invariant.conn) c.is_open.ensures
    (laws.then_on g.S.VersionStore.holds g.T.Stream.remaining g.T.Stream.contents Anyhow Anyhow MaySettle c.args.self.now c.loop-self.self c.fill.new.self c.args.cache.now c.loop-self.cache c.fill.new.cache c.loop-self.invariant.conn c.loop-self.invariant.goes c.fill.ensures.goes))

pub returns-else-is_open-clause-goes : goal.returns-else-is_open-clause-goes
returns-else-is_open-clause-goes g c =
    laws.so_then g.S.VersionStore.holds g.T.Stream.remaining g.T.Stream.contents Anyhow (λ s. MaySettle s × (c.is_open.result ≡ not s.serving.conn.state.ended)) IsOver c.args.self.now c.fill.new.self c.args.cache.now c.fill.new.cache
    (λ s h. record { all_written = c.if-not-is_empty.ensures.0 refl; none_due = (h.0 (c.if-not-is_empty.ensures.0 refl)).none_due; ended = true_of_not s.conn.state.ended (sym h.1 ∙ c.if-is_open.false) })
    (laws.open_is g.S.VersionStore.holds g.T.Stream.remaining g.T.Stream.contents Anyhow MaySettle c.args.self.now c.fill.new.self c.args.cache.now c.fill.new.cache c.is_open.result (c.fill.ensures.conn ∙ c.loop-self.invariant.conn) c.is_open.ensures
    (laws.then_on g.S.VersionStore.holds g.T.Stream.remaining g.T.Stream.contents Anyhow Anyhow MaySettle c.args.self.now c.loop-self.self c.fill.new.self c.args.cache.now c.loop-self.cache c.fill.new.cache c.loop-self.invariant.conn c.loop-self.invariant.goes c.fill.ensures.goes))

pub returns-then-take-eq0-clause-goes : goal.returns-then-take-eq0-clause-goes
returns-then-take-eq0-clause-goes g c =
    laws.then_on g.S.VersionStore.holds g.T.Stream.remaining g.T.Stream.contents Anyhow IsSettled IsOver c.args.self.now c.fill.new.self c.take.new.self c.args.cache.now c.fill.new.cache c.take.new.cache (c.fill.ensures.conn ∙ c.loop-self.invariant.conn)
    (laws.so_then g.S.VersionStore.holds g.T.Stream.remaining g.T.Stream.contents Anyhow MaySettle IsSettled c.args.self.now c.fill.new.self c.args.cache.now c.fill.new.cache (λ s settled. settled (c.if-not-is_empty.ensures.0 refl))
    (laws.then_on g.S.VersionStore.holds g.T.Stream.remaining g.T.Stream.contents Anyhow Anyhow MaySettle c.args.self.now c.loop-self.self c.fill.new.self c.args.cache.now c.loop-self.cache c.fill.new.cache c.loop-self.invariant.conn c.loop-self.invariant.goes c.fill.ensures.goes))
    (laws.so_then g.S.VersionStore.holds g.T.Stream.remaining g.T.Stream.contents IsSettled (λ s. c.take.result ≡ 0 → IsOver s) IsOver c.fill.new.self c.take.new.self c.fill.new.cache c.take.new.cache (λ s over. over c.if-take-eq0.true) c.take.ensures.goes)

pub loop-self-preserved : goal.loop-self-preserved
loop-self-preserved g c = record {
  conn = c.take.ensures.conn ∙ c.fill.ensures.conn ∙ c.loop-self.invariant.conn;
  goes = laws.then_on g.S.VersionStore.holds g.T.Stream.remaining g.T.Stream.contents Anyhow IsSettled Anyhow c.args.self.now c.fill.new.self c.take.new.self c.args.cache.now c.fill.new.cache c.take.new.cache (c.fill.ensures.conn ∙ c.loop-self.invariant.conn)
      (laws.so_then g.S.VersionStore.holds g.T.Stream.remaining g.T.Stream.contents Anyhow MaySettle IsSettled c.args.self.now c.fill.new.self c.args.cache.now c.fill.new.cache (λ s settled. settled (c.if-not-is_empty.ensures.0 refl))
      (laws.then_on g.S.VersionStore.holds g.T.Stream.remaining g.T.Stream.contents Anyhow Anyhow MaySettle c.args.self.now c.loop-self.self c.fill.new.self c.args.cache.now c.loop-self.cache c.fill.new.cache c.loop-self.invariant.conn c.loop-self.invariant.goes c.fill.ensures.goes))
      (laws.so_then g.S.VersionStore.holds g.T.Stream.remaining g.T.Stream.contents IsSettled (λ s. c.take.result ≡ 0 → IsOver s) Anyhow c.fill.new.self c.take.new.self c.fill.new.cache c.take.new.cache (λ s over. tt) c.take.ensures.goes);
  answers = laws.same_stream g.T.Stream.answers c.fill.new.self c.take.new.self _ _ c.take.ensures.rest ∙ c.fill.ensures.answers ∙ c.loop-self.invariant.answers;
}
