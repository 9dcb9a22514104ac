use Rattle.std.proofs.Common.{Some, sym, subst}
use Rattle.serde_json.specs.Data.{put}
use Rattle.exports.specs.PlainForm.{IsRawEntry}
use Rattle.exports.proofs.PlainParts.{found_asn, found_expires, found_max_len, found_other, found_prefix, found_ta}
use Rattle.exports.proofs.streaming.with_member.Goals as goal

pub returns-in-asn : goal.returns-in-asn
returns-in-asn c ms d is scalar =
    subst (λ k. IsRawEntry (put k d ms) (record c.args.found { asn_number = c.args.scalar.number; asn_text = c.args.scalar.text })) (sym c.in-asn.is) (found_asn ms d c.args.found c.args.scalar is scalar)

pub returns-in-prefix : goal.returns-in-prefix
returns-in-prefix c ms d is scalar = subst (λ k. IsRawEntry (put k d ms) (record c.args.found { prefix = c.args.scalar.text })) (sym c.in-prefix.is) (found_prefix ms d c.args.found c.args.scalar is scalar)

pub returns-in-maxLength : goal.returns-in-maxLength
returns-in-maxLength c ms d is scalar = subst (λ k. IsRawEntry (put k d ms) (record c.args.found { max_len = c.args.scalar.number })) (sym c.in-maxLength.is) (found_max_len ms d c.args.found c.args.scalar is scalar)

pub returns-in-expires : goal.returns-in-expires
returns-in-expires c ms d is scalar =
    subst (λ k. IsRawEntry (put k d ms) (record c.args.found { expires = Some c.args.scalar.number })) (sym c.in-expires.is) (found_expires ms d c.args.found c.args.scalar is scalar)

pub returns-in-ta : goal.returns-in-ta
returns-in-ta c ms d is scalar = subst (λ k. IsRawEntry (put k d ms) (record c.args.found { ta = c.args.scalar.text })) (sym c.in-ta.is) (found_ta ms d c.args.found c.args.scalar is scalar)

pub returns-in_default : goal.returns-in_default
returns-in_default c ms d is scalar =
    found_other c.args.name.now ms d c.args.found c.in_default.not-asn c.in_default.not-prefix c.in_default.not-maxLength c.in_default.not-expires c.in_default.not-ta is
