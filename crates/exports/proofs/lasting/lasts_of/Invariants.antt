use Rattle.std.proofs.Common.{take}
use Rattle.exports.proofs.Lasts.{Raised}
use Rattle.exports.proofs.Places.{Numbered}
use Rattle.exports.proofs.lasting.lasts_of.Given as goal

-- the last seconds of the records so far were compared, and their numbers given to members
abbrev pub invariant-loop-index : goal.invariant-loop-index
invariant-loop-index l = Raised l.members (take l.index l.records) l.lasts l.found.items × Numbered l.members l.records l.index l.numbers l.of_each.items
