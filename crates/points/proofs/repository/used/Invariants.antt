use Rattle.std.proofs.Common.{◌≡◌, ◌++◌, flat_map}
use Rattle.std.specs.BTreeMap.{values}
use Rattle.points.specs.InUse.{used_payloads}
use Rattle.points.proofs.repository.used.Given as goal

-- those of the points so far are listed
abbrev pub invariant-loop-accepted : goal.invariant-loop-accepted
invariant-loop-accepted l = l.vrps.items ++ flat_map (used_payloads l.now) l.accepted-iterator ≡ flat_map (used_payloads l.now) (values l.points)
