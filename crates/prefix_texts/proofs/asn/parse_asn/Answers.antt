use Rattle.std.proofs.Common.{◌++◌, ◌∙◌, sym, ap, codes}
use Rattle.prefix_texts.proofs.AsnTexts.{asn_none}
use Rattle.prefix_texts.proofs.asn.parse_asn.Goals as goal

pub returns-in-Some-clause-none : goal.returns-in-Some-clause-none
returns-in-Some-clause-none c =
    let cut = c.in-Some.ensures.cases in
    asn_none c.args.text.now c.in-Some.digits.now c.plain_asn.result (cut.1.1 ∙ ap (λ t. codes "AS" ++ t) (sym cut.2)) c.plain_asn.ensures.none
