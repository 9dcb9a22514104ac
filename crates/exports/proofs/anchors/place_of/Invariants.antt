use Rattle.std.proofs.Common.{◌≡◌, drop, map, string_bytes}
use Rattle.exports.specs.Anchors.{place_from}
use Rattle.exports.proofs.anchors.place_of.Given as goal

-- The name is none of those so far.
abbrev pub invariant-loop-index : goal.invariant-loop-index
invariant-loop-index l = place_from l.index (drop l.index (map string_bytes l.names)) l.name ≡ place_from 0 (map string_bytes l.names) l.name
