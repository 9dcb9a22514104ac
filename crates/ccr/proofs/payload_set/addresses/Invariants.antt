use Rattle.std.proofs.Common.{◌≡◌, map, take}
use Rattle.ccr.specs.Canonical.{entry_of}
use Rattle.ccr.specs.Families.{addresses_of}
use Rattle.ccr.proofs.payload_set.addresses.Given as goal

-- the list of the entries so far
abbrev pub invariant-loop-vrp : goal.invariant-loop-vrp
invariant-loop-vrp l = l.list ≡ addresses_of l.family (map entry_of (take l.vrp-index l.vrps))
