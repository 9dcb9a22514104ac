use Rattle.std.proofs.Common.{◌≡◌, take}
use Rattle.der_lite.specs.Der.{number as number_of}
use Rattle.ccr.proofs.bits.number.Given as goal

-- the number of the bytes so far
abbrev pub invariant-loop-byte : goal.invariant-loop-byte
invariant-loop-byte l = l.number ≡ number_of (take l.byte-index l.bytes)
