use Rattle.std.proofs.Common.{◌∙◌, arith, refl, sym}
use Rattle.rtr_server.proofs.PastLaws as laws
use Rattle.rtr_server.proofs.server.Server.admit.Goals as goal

pub returns-in-Err-put_at-clause-admits : goal.returns-in-Err-put_at-clause-admits
returns-in-Err-put_at-clause-admits g c = λ p shows.
    let opened = c.in-Ok.ensures _ shows.shows in (
      omega (arith, shows.count, shows.most, c.if-self.false),
      laws.refused_past g.S.VersionStore.holds g.T.Stream.remaining g.T.Stream.contents p c.args.self.now _ shows c.in-Ok.conn opened.0 c.in-Err-put_at.ensures.kept refl (shows.count ∙ sym c.in-Err-put_at.ensures.same) (c.close.ensures _ opened.1),
      c.in-Err-put_at.ensures.kept,
    )

pub returns-in-Ok-put_at-clause-admits : goal.returns-in-Ok-put_at-clause-admits
returns-in-Ok-put_at-clause-admits g c = λ p shows.
    let opened = c.in-Ok.ensures _ shows.shows in
    laws.admits_past g.S.VersionStore.holds g.T.Stream.remaining g.T.Stream.contents p c.args.self.now _ shows c.in-Ok.conn opened.0 c.args.stream (omega (arith, shows.count, shows.most, c.if-self.false)) c.put_at.ensures.others refl refl c.in-Ok-put_at.ensures.more c.in-Ok-put_at.ensures.placed opened.1
