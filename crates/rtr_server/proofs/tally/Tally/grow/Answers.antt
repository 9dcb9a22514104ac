use Rattle.std.proofs.Common.{arith}
use Rattle.rtr_server.proofs.CountingLaws as laws
use Rattle.rtr_server.proofs.tally.Tally.grow.Goals as goal

pub returns : goal.returns
returns c = laws.grows c.self.inside.pdus c.self.inside.serial c.self.inside.report c.self.inside.front c.put.new.front c.self.inside.tail c.put_behind.new.tail c.tail_at.result c.self.inside.came c.saturating_add-self-inside.result c.args.byte c.args.self.now c.self.view_is (omega (arith, c.self.told)) (omega (arith, c.self.told)) c.put.ensures c.tail_at.ensures.value c.tail_at.ensures.low c.put_behind.ensures c.saturating_add-self-inside.ensures
