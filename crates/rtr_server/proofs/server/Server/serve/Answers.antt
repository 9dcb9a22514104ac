use Rattle.rtr_server.proofs.PastLaws as laws
use Rattle.rtr_server.proofs.server.Server.serve.Goals as goal

pub returns-clause-past : goal.returns-clause-past
returns-clause-past g c = λ p shows.
    laws.goes_past g.S.VersionStore.holds g.T.Stream.remaining g.T.Stream.contents p c.args.client.0.0 c.args.self.now c.serve_one.new.self shows c.serve_one.ensures.others c.serve_one.ensures.most c.serve_one.ensures.counted g.T.Stream.answers c.args.budget c.serve_one.result c.serve_one.new.self.parted c.serve_one.ensures.serves
