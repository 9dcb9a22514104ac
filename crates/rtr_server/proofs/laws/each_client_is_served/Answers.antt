use Rattle.rtr_server.proofs.PastLaws as laws
use Rattle.rtr_server.proofs.laws.each_client_is_served.Goals as goal

pub returns : goal.returns
returns g c = laws.each_client_is_served g.S.VersionStore.holds g.T.Stream.remaining g.T.Stream.contents c.args.server.now
