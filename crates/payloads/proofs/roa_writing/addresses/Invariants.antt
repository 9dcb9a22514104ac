use Rattle.std.proofs.Common.{◌≡◌, take}
use Rattle.payloads.specs.RoaBytes.{list_bytes}
use Rattle.payloads.proofs.roa_writing.addresses.Given as goal

-- the list of the entries so far
abbrev pub invariant-loop-entry : goal.invariant-loop-entry
invariant-loop-entry l = l.list ≡ list_bytes l.family (take l.entry-index l.entries)
