use Rattle.std.proofs.Common.{◌∙◌, ap, sym, Some, option_map}
use Rattle.payload_lists.specs.PayloadList.{member_count}
use Rattle.payload_lists.proofs.Entries.{count_view}
use Rattle.slurm.proofs.members.total.Goals as goal

pub returns-in-Some : goal.returns-in-Some
returns-in-Some c =
    ap Some (c.len.ensures.len ∙ sym (count_view c.in-Some.members.now.entries)) ∙ ap (option_map member_count) c.in-Some.ensures
