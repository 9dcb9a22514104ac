use Rattle.std.proofs.Common.{arith, subst, sym, [], List, ℕ}
use Rattle.std.specs.Prelude.{string_bytes}
use Rattle.rtr_ends.specs.CacheState.{without_conns}
use Rattle.rtr_ends.specs.Timing.{default_intervals}
use Rattle.rtr_commands.specs.Serves.{HasLines, HasServed}
use Rattle.rtr_commands.proofs.Concluding.{answers_ended, answers_open}
use Rattle.rtr_commands.proofs.Starting.{opens}
use Rattle.rtr_commands.proofs.answering.answers_of.Goals as goal
use Rattle.rtr_commands.proofs.answering.answers_of.Goals.{then-is_open, else-is_open}

pub exchange-requires : goal.exchange-requires
exchange-requires c = (
  c.requires.0,
  subst (λ (x : List ℕ). HasServed c.requires.0 c.in_ok-conn.conn.0 [] x c.open.new.self) (sym c.new-replies.ensures.items)
      (opens c.requires.0 c.args.cache.now c.open.new.self c.in_ok-conn.conn.0 c.requires.1 (c.in_ok-conn.ensures (without_conns 1 default_intervals c.requires.0) c.requires.1.shows).1),
)

pub returns : goal.returns
returns c i s =
    let served : HasServed i c.in_ok-conn.conn.0 [] c.new-replies.result.items c.open.new.self =
    subst (λ (x : List ℕ). HasServed i c.in_ok-conn.conn.0 [] x c.open.new.self) (sym c.new-replies.ensures.items)
    (opens i c.args.cache.now c.open.new.self c.in_ok-conn.conn.0 s (c.in_ok-conn.ensures (without_conns 1 default_intervals i) s.shows).1) in
    let x = c.in_ok-exchange.ensures i served in
    let lines = subst (λ v. HasLines v c.as_slice.result.now (string_bytes c.in_ok-lines.lines)) c.first.ensures c.in_ok-lines.ensures in
    elim c.if-is_open.branch [
      | then-is_open w ↦ answers_open i c.in_ok-conn.conn.0 c.args.bytes.now c.exchange.new.replies.items c.as_slice.result.now c.exchange.new.cache c.in_ok-lines.lines c.if-is_open.left _ c.is_open.result (λ k. omega (arith, c.type_inv.bytes k)) x c.as_slice.ensures.value lines c.is_open.ensures w.if-is_open.true w.cut_off-left.ensures w.left-is
      | else-is_open w ↦ answers_ended i c.in_ok-conn.conn.0 c.args.bytes.now c.exchange.new.replies.items c.as_slice.result.now c.exchange.new.cache c.in_ok-lines.lines c.if-is_open.left c.is_open.result (λ k. omega (arith, c.type_inv.bytes k)) x c.as_slice.ensures.value lines c.is_open.ensures w.if-is_open.false w.left-is
    ]
