use Rattle.std.proofs.Common.{◌≡◌, true, false, sym, ◌∙◌}
use Rattle.rpkirtr_c.proofs.Addresses.{v4_one, shown}
use Rattle.rpkirtr_c.proofs.values.v4_of.Goals as goal

pub returns-in-Err-clause-none : goal.returns-in-Err-clause-none
returns-in-Err-clause-none c p valid bytes long = absurd (let e : false ≡ true = c.in-Err.ensures.valid.1 (shown 32 c.from.result c.args.len p valid (c.from.ensures ∙ v4_one c.in_ok-number.number p.addr c.in_ok-number.ensures.some.0 valid.address (sym c.in_ok-number.ensures.some.1 ∙ bytes)) long) in cc)
