use Rattle.exports.proofs.Ends.{forgotten, lasts}
use Rattle.exports.proofs.export.read_export_until.Goals as goal

pub returns-in-Ok-clause-lasts : goal.returns-in-Ok-clause-lasts
returns-in-Ok-clause-lasts c = lasts c.args.bytes.now c.args.now _ (forgotten c.args.bytes.now c.args.now c.in-Ok.read c.in-Ok.ensures.ok)
