use Rattle.std.proofs.Common.{◌<◌, ◌^◌, ap, ◌∙◌, subst}
use Rattle.std.specs.Option.{SomeIff}
use Rattle.fast_float.specs.Text.{IsInteger, digits_of, scan}
use Rattle.payload_lists.proofs.PlainMembers.{plain_is}
use Rattle.payload_lists.proofs.plain.plain_number.Goals as goal

-- src/plain.rt:15:1
pub returns : goal.returns
returns c =
    plain_is c.args.text.now c.to_u64.result
    (subst (λ p. SomeIff c.to_u64.result (IsInteger p × (digits_of p < 2 ^ 64)) (digits_of p)) (c.scan.ensures.parts ∙ ap scan c.as_bytes.ensures.value) c.to_u64.ensures)
