use Rattle.std.proofs.Common.{◌≡◌, take}
use Rattle.exports.specs.Lasting.{counting}
use Rattle.sources.proofs.listed.counting.Given as goal

-- those of the records so far that count
abbrev pub invariant-loop-index : goal.invariant-loop-index
invariant-loop-index l = l.left.items ≡ counting l.now (take l.index l.records) l.lasts
