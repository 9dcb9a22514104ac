use Rattle.std.proofs.Common.{true, false}
use Rattle.rtr_ends.proofs.TableLaws.{false_true}
use Rattle.rtr_server.specs.Turns.{MaySettle, NoneDue, settles}
use Rattle.rtr_server.proofs.TurnLaws as laws
use Rattle.rtr_server.proofs.turn.Slot.pull_owed.Goals as goal

pub returns-then-not-is_empty-clause-goes : goal.returns-then-not-is_empty-clause-goes
returns-then-not-is_empty-clause-goes g c =
    laws.so_then g.S.VersionStore.holds g.T.Stream.remaining g.T.Stream.contents NoneDue NoneDue MaySettle c.args.self.now c.args.self.now c.args.cache.now c.args.cache.now (λ s due none. false_true (c.if-not-is_empty.ensures.1 none)) (laws.stays g.S.VersionStore.holds g.T.Stream.remaining g.T.Stream.contents NoneDue c.args.self.now c.args.cache.now)

pub returns-then-settle-clause-goes : goal.returns-then-settle-clause-goes
returns-then-settle-clause-goes g c =
    laws.then_on g.S.VersionStore.holds g.T.Stream.remaining g.T.Stream.contents NoneDue (settles true) MaySettle c.args.self.now c.settle.new.self c.pull.new.self c.args.cache.now c.settle.new.cache c.pull.new.cache c.settle.ensures.conn c.if-settle.ensures.goes
    (laws.after_notice g.S.VersionStore.holds g.T.Stream.remaining g.T.Stream.contents c.settle.new.self c.pull.new.self c.settle.new.cache c.pull.new.cache (laws.same_owed c.settle.new.self c.pull.new.self _ c.pull.ensures.rest) c.pull.ensures.goes)

pub returns-else-settle-clause-goes : goal.returns-else-settle-clause-goes
returns-else-settle-clause-goes g c =
    laws.so_then g.S.VersionStore.holds g.T.Stream.remaining g.T.Stream.contents NoneDue (settles false) MaySettle c.args.self.now c.settle.new.self c.args.cache.now c.settle.new.cache (λ s settled none. settled) c.if-settle.ensures.goes
