use Rattle.std.proofs.Common.{length, map}
use Rattle.trust_anchors.specs.Locators.{IsTaUri}
use Rattle.trust_anchors.proofs.Cutting.{Grows}
use Rattle.trust_anchors.proofs.tal.read_uris.Given as goal

-- the lines so far are URIs
abbrev pub invariant-loop-line : goal.invariant-loop-line
invariant-loop-line l = Grows IsTaUri (map (λ u. u.now) l.uris.items) l.rest l.fn.bytes

-- less remains
abbrev pub decreases-loop-line : goal.decreases-loop-line
decreases-loop-line l = length l.rest
