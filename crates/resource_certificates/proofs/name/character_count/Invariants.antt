use Rattle.std.proofs.Common.{◌≡◌, ◌+◌, drop, ◌≤◌}
use Rattle.resource_certificates.specs.Names.{character_count}
use Rattle.resource_certificates.proofs.name.character_count.Given as goal

-- the octets that are left give the rest of the count, which is not above their place
abbrev pub invariant-loop-octet : goal.invariant-loop-octet
invariant-loop-octet l = (l.count + character_count (drop l.octet-index l.content) ≡ character_count l.content) × (l.count ≤ l.octet-index)
