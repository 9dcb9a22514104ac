use Rattle.rtr_ends.proofs.CacheStateLaws.{IsHandedOut}
use Rattle.rtr_ends.proofs.cache.hand_out.Given as goal

abbrev pub invariant-loop-number : goal.invariant-loop-number
invariant-loop-number l = IsHandedOut (λ share. share.value) l.serial.0 l.fn.peers.items l.fn.shares.items l.number l.peers.items l.shares.items
