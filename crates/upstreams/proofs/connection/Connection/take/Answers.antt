use Rattle.std.proofs.Common.{◌∙◌, ap, is_some, take}
use Rattle.rtr_server.proofs.TurnLaws.{received_more}
use Rattle.upstreams.specs.Notes.{received_notes}
use Rattle.upstreams.proofs.ConnectionLaws as laws
use Rattle.upstreams.proofs.connection.Connection.take.Goals as goal

pub returns-clause-goes : goal.returns-clause-goes
returns-clause-goes g c = laws.takes g.T.Stream.remaining g.T.Stream.contents c.args.now c.args.router.now c.hand_in-taken.new.router c.args.self.now c.hand_in-taken.new.self (record c.args.self.now.traffic { received = c.hand_in-taken.new.received; asked = c.hand_in-taken.new.asked }) c.receive.new.self c.hand_in-taken.result c.requires c.hand_in-taken.ensures.rest
    (received_more c.args.self.now.traffic c.hand_in-taken.new.received c.hand_in-taken.new.asked (take c.hand_in-taken.result c.args.self.now.unread) c.hand_in-taken.ensures.counts c.hand_in-taken.ensures.asks) c.hand_in-taken.ensures.bytes c.hand_in-taken.ensures.takes
    (λ r n before now. c.receive.ensures n now ∙ ap (λ held. received_notes c.args.now held n (record c.args.self.now.notes { opening = c.hand_in-taken.new.opening })) (c.holds-held.ensures r before)
    ∙ ap (λ o. received_notes c.args.now (is_some r.version) n (record c.args.self.now.notes { opening = o })) c.hand_in-taken.ensures.opens)
