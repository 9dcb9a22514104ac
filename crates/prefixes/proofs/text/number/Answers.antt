use Rattle.std.proofs.Common.{◌∙◌, subst, List, ℕ}
use Rattle.prefixes.specs.TextSteps.{BeginsNumeral}
use Rattle.prefixes.proofs.Decimals.{begins, read, missed}
use Rattle.prefixes.proofs.text.number.Goals as goal

pub returns-then-not-begins_number : goal.returns-then-not-begins_number
returns-then-not-begins_number c n small is =
    let at = c.begins_number.ensures.1 (begins n c.as_bytes.result.now small (c.as_bytes.ensures.value ∙ is)) in cc

pub returns-in-Ok : goal.returns-in-Ok
returns-in-Ok c =
    read c.args.text.now c.parse.result c.parse.ensures.value.0
    (subst (λ (bs : List ℕ). BeginsNumeral bs) c.as_bytes.ensures.value (c.begins_number.ensures.0 c.if-not-begins_number.false)) c.in-Ok.n c.in-Ok.is

pub returns-in-Err : goal.returns-in-Err
returns-in-Err c n small is = missed c.args.text.now c.parse.result c.parse.ensures.value.0 _ c.in-Err.is n small is
