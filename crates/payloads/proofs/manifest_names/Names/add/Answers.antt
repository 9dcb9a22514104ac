use Rattle.payloads.proofs.ManifestLookups.{names_on}
use Rattle.payloads.proofs.manifest_names.Names.add.Goals as goal

pub returns-clause-added : goal.returns-clause-added
returns-clause-added c = λ files file same h. names_on c.args.self.now.set c.insert.new.self c.args.name.now files file c.in_ok-insert.ensures.updates.0 same h
