use Rattle.exports.proofs.Later as later
use Rattle.exports.proofs.laws.same_until.Goals as goal

pub returns : goal.returns
returns c = later.same_until (record { of_lists = c.one_reading.ensures; of_entries = c.one_saying.ensures })
