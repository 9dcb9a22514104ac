use Rattle.std.proofs.Common.{Some, sym, subst}
use Rattle.serde_json.specs.Data.{put, string}
use Rattle.payload_lists.specs.PlainForm.{HoldsMembers}
use Rattle.payload_lists.proofs.PlainMembers.{holds_prefix, none_is}
use Rattle.payload_lists.proofs.plain.add_text.Goals as goal

pub returns : goal.returns
returns c ms h =
    let new = none_is c.args.found.now.prefix (c.if-is_none.ensures) in
    subst (λ k. HoldsMembers (put k (string c.args.text.now) ms) (record c.args.found.now { prefix = Some c.args.text })) (sym c.in-prefix.is) (holds_prefix ms c.args.found.now c.args.text new h)
