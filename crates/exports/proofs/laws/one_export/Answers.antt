use Rattle.exports.proofs.Outcomes as outcomes
use Rattle.exports.proofs.laws.one_export.Goals as goal

pub returns : goal.returns
returns c = outcomes.one_export (record { of_lists = c.one_reading.ensures; of_entries = c.one_saying.ensures })
