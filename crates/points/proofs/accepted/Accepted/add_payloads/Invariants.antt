use Rattle.std.proofs.Common.{◌≡◌, ◌++◌, take, flat_map}
use Rattle.payloads.specs.RoaValues.{payloads_of}
use Rattle.points.proofs.accepted.Accepted.add_payloads.Given as goal

-- those of the ROAs so far are added
abbrev pub invariant-loop-roa : goal.invariant-loop-roa
invariant-loop-roa l = l.vrps.items ≡ l.fn.vrps.items ++ flat_map payloads_of (take l.roa-index l.roa-items)
