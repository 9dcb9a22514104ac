use Rattle.std.proofs.Common.{Some, sym, subst}
use Rattle.serde_json.specs.Data.{number, put, unsigned}
use Rattle.payload_lists.specs.PlainForm.{HoldsMembers}
use Rattle.payload_lists.proofs.PlainMembers.{holds_asn, holds_max_len, none_is}
use Rattle.payload_lists.proofs.plain.add_number.Goals as goal

pub returns-in-asn : goal.returns-in-asn
returns-in-asn c ms h =
    let new = none_is c.args.found.now.asn (c.if-is_none.ensures) in
    subst (λ k. HoldsMembers (put k (number (unsigned c.args.count)) ms) (record c.args.found.now { asn = Some c.args.count })) (sym c.in-asn.is) (holds_asn ms c.args.found.now c.args.count new h)

pub returns-in-maxLength : goal.returns-in-maxLength
returns-in-maxLength c ms h =
    let new = none_is c.args.found.now.max_len (c.if-is_none-2.ensures) in
    subst (λ k. HoldsMembers (put k (number (unsigned c.args.count)) ms) (record c.args.found.now { max_len = Some c.args.count })) (sym c.in-maxLength.is) (holds_max_len ms c.args.found.now c.args.count new h)
