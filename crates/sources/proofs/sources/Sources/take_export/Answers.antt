use Rattle.sources.proofs.Shrinks.{without_guard}
use Rattle.sources.proofs.sources.Sources.take_export.Goals as goal

pub returns-clause-lists : goal.returns-clause-lists
returns-clause-lists c =
    without_guard c.args.self.now.max_age c.args.bytes.now c.args.now c.args.file c.take_export_within.result c.args.self.now.lists.items c.take_export_within.new.self.lists.items c.take_export_within.ensures.lists
