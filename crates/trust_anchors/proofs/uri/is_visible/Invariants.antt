use Rattle.std.proofs.Common.{ℕ, ◌<◌, get_or}
use Rattle.trust_anchors.specs.Locators.{IsVisible}
use Rattle.trust_anchors.proofs.uri.is_visible.Given as goal

-- the bytes so far are visible
abbrev pub invariant-loop-byte : goal.invariant-loop-byte
invariant-loop-byte l = (k : ℕ) (d : ℕ) → k < l.byte-index → IsVisible (get_or l.bytes k d)
