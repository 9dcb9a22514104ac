use Rattle.std.proofs.Common.{refl}
use Rattle.feed.specs.Loopback.{publishing}
use Rattle.feed.proofs.Fetching.{fetched}
use Rattle.feed.proofs.Serving.{answered}
use Rattle.feed.proofs.loopback.fetched.Goals as goal

pub returns-in-Some-clause-table : goal.returns-in-Some-clause-table
returns-in-Some-clause-table c =
    let start = c.in_ok-cache.ensures in
    let opened = c.in_ok-conn.ensures (publishing c.args.set) start.shows in
    let t = c.in_ok-wire.ensures c.args.set (c.in_ok-ask.ensures c.args.set c.asking-router.ensures.question opened.1) c.asking-router.ensures.router in
    let wire = answered c.know_units.ensures.apart c.know_units.ensures.written c.one_split.ensures c.history_splits.ensures c.serves_history.ensures c.args.set c.in_ok-conn.conn.0 c.in_ok-wire.wire.items c.turns.new.cache t.gave start.is (t.all refl) in
    fetched c.know_units.ensures.apart c.know_units.ensures.written c.same_members.ensures c.router_speaks.ensures c.args.set c.in_ok-wire.wire.items c.turns.new.router c.closed.new.self (c.in-Some.field-0.0, c.in-Some.field-0.1, c.in-Some.field-0.2.0) start.is.sets.0.payloads
    wire t.took c.closed.ensures.leads c.in-Some.ensures.kept

pub returns-in-Some-clause-sent : goal.returns-in-Some-clause-sent
returns-in-Some-clause-sent c =
    let start = c.in_ok-cache.ensures in
    let opened = c.in_ok-conn.ensures (publishing c.args.set) start.shows in
    let t = c.in_ok-wire.ensures c.args.set (c.in_ok-ask.ensures c.args.set c.asking-router.ensures.question opened.1) c.asking-router.ensures.router in
    answered c.know_units.ensures.apart c.know_units.ensures.written c.one_split.ensures c.history_splits.ensures c.serves_history.ensures c.args.set c.in_ok-conn.conn.0 c.in_ok-wire.wire.items c.turns.new.cache t.gave start.is (t.all refl)
