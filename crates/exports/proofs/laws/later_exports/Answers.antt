use Rattle.exports.proofs.Later as later
use Rattle.exports.proofs.laws.later_exports.Goals as goal

pub returns : goal.returns
returns c = later.later_exports (record { of_lists = c.one_reading.ensures; of_entries = c.one_saying.ensures })
