use Rattle.exports.proofs.names.ExportNames.with.Goals as goal

pub returns : goal.returns
returns c so_far j h = (c.with.ensures so_far j h.0, c.with-2.ensures so_far j h.1, c.with-3.ensures so_far j h.2)
