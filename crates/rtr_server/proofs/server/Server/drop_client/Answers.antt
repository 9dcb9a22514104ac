use Rattle.rtr_server.proofs.PastLaws as laws
use Rattle.rtr_server.proofs.server.Server.drop_client.Goals as goal

pub returns-clause-past : goal.returns-clause-past
returns-clause-past g c = λ p shows. laws.drops_past g.S.VersionStore.holds g.T.Stream.remaining g.T.Stream.contents p c.args.client.0.0 c.args.self.now c.close.new.self shows c.close.ensures.others c.close.ensures.most c.close.ensures.counted c.close.ensures.gone c.close.ensures.closed
