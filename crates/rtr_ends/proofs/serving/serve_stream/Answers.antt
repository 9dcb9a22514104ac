use Rattle.rtr_ends.proofs.ServeStreamLaws as laws
use Rattle.rtr_ends.proofs.serving.serve_stream.Goals as goal

pub returns-in-Err-clause-serves : goal.returns-in-Err-clause-serves
returns-in-Err-clause-serves g c m shows = laws.nothing_served m _ _ _

pub returns-in-Ok-clause-closed : goal.returns-in-Ok-clause-closed
returns-in-Ok-clause-closed g c m shows =
    let opened = c.in-Ok.ensures m shows in
    let served = c.serve-result.ensures.serves m opened.1 in
    laws.closes g.S.VersionStore.holds m c.in-Ok.conn.0 served.0.calls c.close.new.self opened.0.free (c.close.ensures _ served.1)
