use Rattle.rtr_ends.proofs.TableLaws.{false_true}
use Rattle.rtr_server.specs.Turns.{Anyhow, MaySettle, NoneDue}
use Rattle.rtr_server.proofs.TurnLaws as laws
use Rattle.rtr_server.proofs.turn.Slot.fill.Goals as goal

pub returns-then-is_empty-clause-goes : goal.returns-then-is_empty-clause-goes
returns-then-is_empty-clause-goes g c =
    laws.then_on g.S.VersionStore.holds g.T.Stream.remaining g.T.Stream.contents Anyhow NoneDue MaySettle c.args.self.now c.pull.new.self c.pull_owed.new.self c.args.cache.now c.pull.new.cache c.pull_owed.new.cache c.pull.ensures.conn c.pull.ensures.goes c.pull_owed.ensures.goes

pub returns-else-is_empty-clause-goes : goal.returns-else-is_empty-clause-goes
returns-else-is_empty-clause-goes g c =
    laws.so_then g.S.VersionStore.holds g.T.Stream.remaining g.T.Stream.contents Anyhow Anyhow MaySettle c.args.self.now c.args.self.now c.args.cache.now c.args.cache.now (λ s any none. false_true (c.if-is_empty.ensures.1 none)) (laws.stays g.S.VersionStore.holds g.T.Stream.remaining g.T.Stream.contents Anyhow c.args.self.now c.args.cache.now)
