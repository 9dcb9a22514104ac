use Rattle.std.proofs.Common.{arith, ◌++◌, take}
use Rattle.rtr_commands.proofs.Exchanging.{exchange_fits, exchange_less, exchange_more, exchange_takes, exchanged_all, exchanged_ended, exchanging_none}
use Rattle.rtr_commands.proofs.answering.exchange.Goals as goal

pub loop-rest-init : goal.loop-rest-init
loop-rest-init c i h = exchanging_none i c.args.conn.0 c.args.bytes.now c.args.replies.now.items c.args.cache.now h

pub split_at-requires : goal.split_at-requires
split_at-requires c =
    exchange_fits c.requires.0 c.args.conn.0 c.args.bytes.now c.loop-rest.rest.now c.loop-rest.replies.items c.loop-rest.cache c.receive-count.result (λ k. omega (arith, c.type_inv.bytes k)) (c.loop-rest.invariant c.requires.0 c.requires.1) c.receive-count.new.self c.receive-count.ensures.takes

pub pull_all-requires : goal.pull_all-requires
pull_all-requires c =
    let e = c.loop-rest.invariant c.requires.0 c.requires.1 in (
      c.requires.0,
      (
        e.came ++ take c.receive-count.result c.loop-rest.rest.now,
        exchange_takes c.requires.0 c.args.conn.0 c.args.bytes.now c.loop-rest.rest.now c.loop-rest.replies.items c.loop-rest.cache c.receive-count.result (λ k. omega (arith, c.type_inv.bytes k)) e c.receive-count.new.self c.receive-count.ensures.takes,
      ),
    )

pub loop-rest-smaller : goal.loop-rest-smaller
loop-rest-smaller c =
    rw c.split_at.ensures.back (exchange_less c.requires.0 c.args.conn.0 c.args.bytes.now c.loop-rest.rest.now c.loop-rest.replies.items c.loop-rest.cache c.receive-count.result (λ k. omega (arith, c.type_inv.bytes k)) (c.loop-rest.invariant c.requires.0 c.requires.1)
    c.receive-count.new.self c.is_open.result c.is_empty.result c.receive-count.ensures.takes c.is_open.ensures c.loop-rest-test.true c.is_empty.ensures c.if-not-is_empty.true)

pub loop-rest-preserved : goal.loop-rest-preserved
loop-rest-preserved c i h =
    let e = c.loop-rest.invariant i h in
    rw c.split_at.ensures.back (exchange_more i c.args.conn.0 c.args.bytes.now c.loop-rest.rest.now c.loop-rest.replies.items c.loop-rest.cache c.receive-count.result (λ k. omega (arith, c.type_inv.bytes k)) e c.receive-count.new.self c.pull_all.new.cache c.pull_all.new.replies.items c.receive-count.ensures.takes
    (λ s. c.in_ok-pull_all.ensures i (e.came ++ take c.receive-count.result c.loop-rest.rest.now) s))

pub returns-else-not-is_empty : goal.returns-else-not-is_empty
returns-else-not-is_empty c i h =
    exchanged_all i c.args.conn.0 c.args.bytes.now c.loop-rest.rest.now c.loop-rest.replies.items c.loop-rest.cache c.is_empty.result (c.loop-rest.invariant i h) c.is_empty.ensures c.if-not-is_empty.false

pub returns-after-loop-rest : goal.returns-after-loop-rest
returns-after-loop-rest c i h =
    exchanged_ended i c.args.conn.0 c.args.bytes.now c.loop-rest.rest.now c.loop-rest.replies.items c.loop-rest.cache c.is_open.result (c.loop-rest.invariant i h) c.is_open.ensures c.loop-rest-test.false
