use Rattle.std.proofs.Common.{sym, subst}
use Rattle.serde_json.specs.Data.{put}
use Rattle.exports.specs.ListForm.{HoldsEntry}
use Rattle.exports.proofs.ListParts.{holds_asn, holds_max_len, holds_other, holds_prefix}
use Rattle.exports.proofs.lists.with_list_member.Goals as goal

pub returns-in-asn : goal.returns-in-asn
returns-in-asn c ms d h scalar =
    subst (λ k. HoldsEntry (put k d ms) (record c.args.found { asn = c.args.scalar.number })) (sym c.in-asn.is) (holds_asn ms d c.args.found c.args.scalar h scalar)

pub returns-in-maxLength : goal.returns-in-maxLength
returns-in-maxLength c ms d h scalar =
    subst (λ k. HoldsEntry (put k d ms) (record c.args.found { max_len = c.args.scalar.number })) (sym c.in-maxLength.is) (holds_max_len ms d c.args.found c.args.scalar h scalar)

pub returns-in-prefix : goal.returns-in-prefix
returns-in-prefix c ms d h scalar =
    subst (λ k. HoldsEntry (put k d ms) (record c.args.found { prefix = c.args.scalar.text })) (sym c.in-prefix.is) (holds_prefix ms d c.args.found c.args.scalar h scalar)

pub returns-in_default : goal.returns-in_default
returns-in_default c ms d h scalar = holds_other c.args.name.now ms d c.args.found c.in_default.not-asn c.in_default.not-prefix c.in_default.not-maxLength h
