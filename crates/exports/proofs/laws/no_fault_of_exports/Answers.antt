use Rattle.exports.proofs.Outcomes as outcomes
use Rattle.exports.proofs.laws.no_fault_of_exports.Goals as goal

pub returns : goal.returns
returns c = outcomes.no_fault (record { of_lists = c.one_reading.ensures; of_entries = c.one_saying.ensures })
