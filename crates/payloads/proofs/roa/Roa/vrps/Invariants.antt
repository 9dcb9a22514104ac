use Rattle.std.proofs.Common.{◌≡◌, map, take}
use Rattle.payloads.specs.RoaEntries.{payload_of}
use Rattle.payloads.proofs.roa.Roa.vrps.Given as goal

-- the payloads of the entries so far
abbrev pub invariant-loop-entry : goal.invariant-loop-entry
invariant-loop-entry l = l.vrps.items ≡ map (payload_of l.fn.self.asn) (take l.entry-index l.fn.self.entries)
