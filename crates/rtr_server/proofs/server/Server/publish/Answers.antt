use Rattle.rtr_server.proofs.PastLaws as laws
use Rattle.rtr_server.proofs.server.Server.publish.Goals as goal

pub returns-clause-publishes : goal.returns-clause-publishes
returns-clause-publishes g c = λ p shows.
    laws.published_past g.S.VersionStore.holds g.T.Stream.remaining g.T.Stream.contents p c.args.self.now c.publish_to_all.new.self shows c.args.set c.publish_to_all.result c.len-size.ensures.set c.publish_to_all.ensures.most (c.publish_to_all.ensures.counted shows.count)
    (c.publish_to_all.ensures.publishes _ shows.shows)
