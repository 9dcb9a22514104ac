use Rattle.std.proofs.Common.{◌≡◌, drop}
use Rattle.signed_objects.specs.Oids.{follow}
use Rattle.signed_objects.proofs.oid.is_oid.Given as goal

-- nothing is wrong so far, so all depends on the octets that are left
abbrev pub invariant-loop-octet : goal.invariant-loop-octet
invariant-loop-octet l = follow 0 l.content ≡ follow l.before (drop l.octet-index l.content)
