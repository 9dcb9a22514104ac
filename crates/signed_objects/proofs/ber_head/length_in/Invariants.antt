use Rattle.std.proofs.Common.{◌≡◌, ◌<◌, take}
use Rattle.der_lite.specs.Der.{number}
use Rattle.signed_objects.proofs.ber_head.length_in.Given as goal

-- the length of the octets so far, which is in range
abbrev pub invariant-loop-octet : goal.invariant-loop-octet
invariant-loop-octet l = (l.length ≡ number (take l.octet-index l.octets)) × (l.length < 4294967296)
