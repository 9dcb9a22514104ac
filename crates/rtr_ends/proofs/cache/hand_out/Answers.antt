use Rattle.std.proofs.Common.{◌+◌, Box, Global, Option, Vec, subst, sym, refl, arith}
use Rattle.rtr_ends.specs.declared.peer.Peer.{Peer}
use Rattle.rtr_ends.proofs.CacheStateLaws.{IsHandedOut, handed_none, handed_more, handed_all}
use Rattle.rtr_ends.proofs.cache.hand_out.Goals as goal
use Rattle.rtr_ends.proofs.cache.hand_out.Goals.{in-Some, in_default}

pub loop-number-init : goal.loop-number-init
loop-number-init c = handed_none (λ share. share.value) c.args.serial.0 c.args.peers.now.items c.args.shares.items c.requires

pub loop-number-preserved : goal.loop-number-preserved
loop-number-preserved c =
    elim c.match-pop.branch [
      | in-Some w ↦ (let more = handed_more (λ share. share.value) c.args.serial.0 c.args.peers.now.items c.args.shares.items c.loop-number.number c.loop-number.peers.items w.offer_at.new.peers.items
          c.loop-number.shares.items c.pop.new.self.items w.in-Some.set (record { serial = c.args.serial; set = w.in-Some.set }) w.in-Some.ensures.items refl refl w.offer_at.ensures c.loop-number.invariant in
          subst (λ (v : Vec (Option (Box Peer Global)) Global). IsHandedOut (λ share. share.value) c.args.serial.0 c.args.peers.now.items c.args.shares.items (c.loop-number.number + 1) v.items c.pop.new.self.items) (sym w.peers-is) more)
      | in_default w ↦ absurd (omega (arith, w.in_default.ensures.cases.0, c.loop-number.shares.ok.0, c.loop-number.invariant.count, c.loop-number-test.true, c.len-number-end.ensures, c.args.peers.now.ok.0))
    ]

pub returns : goal.returns
returns c =
    handed_all (λ share. share.value) c.args.serial.0 c.args.peers.now.items c.args.shares.items c.loop-number.number c.loop-number.peers.items c.loop-number.shares.items
    (omega (arith, c.loop-number-test.false, c.len-number-end.ensures)) c.loop-number.invariant
