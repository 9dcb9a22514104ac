use Rattle.std.proofs.Common.{◌≡◌, true, false, sym, ◌∙◌}
use Rattle.rpkirtr_c.proofs.Addresses.{v6_one, shown}
use Rattle.rpkirtr_c.proofs.values.v6_of.Goals as goal

pub returns-in-Err-clause-none : goal.returns-in-Err-clause-none
returns-in-Err-clause-none c p valid bytes long = absurd (let e : false ≡ true = c.in-Err.ensures.valid.1 (shown 128 c.v6_number-number.result c.args.len p valid (v6_one c.v6_number-number.result p.addr c.v6_number-number.type_inv valid.address (sym c.v6_number-number.ensures ∙ bytes)) long) in cc)
