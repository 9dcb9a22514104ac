use Rattle.std.proofs.Common.{◌∙◌, Some, sym}
use Rattle.std.proofs.lemmas.Map.Text.{btree_map_updates_str}
use Rattle.points.proofs.Maps.{was_there, is_there}
use Rattle.points.proofs.finding.FilesByName.add.Goals as goal

pub returns : goal.returns
returns c = λ files are.
    let name = c.args.file.now.name.now in
    let there = was_there c.args.self.now.map files name c.in_ok-before.before are c.in_ok-before.ensures.old in (
      c.is_some.ensures ∙ there,
      λ fresh. is_there c.args.self.now.map c.insert.new.self files c.args.file are (sym (c.is_some.ensures ∙ there) ∙ fresh)
          (btree_map_updates_str name c.args.self.now.map c.insert.new.self (Some c.args.file) c.in_ok-before.ensures.updates),
    )
