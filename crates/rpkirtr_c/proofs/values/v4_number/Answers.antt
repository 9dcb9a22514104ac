use Rattle.std.proofs.Common.{◌≡◌, sym, subst}
use Rattle.rpkirtr_c.specs.Spelled.{v4_bytes}
use Rattle.rpkirtr_c.proofs.Addresses.{v4_tested, v4_refuted}
use Rattle.rpkirtr_c.proofs.values.v4_number.Goals as goal

pub returns-then-ne-clause-none : goal.returns-then-ne-clause-none
returns-then-ne-clause-none c = v4_refuted c.args.addr.now c.ne.result c.ne.ensures c.if-ne.true

pub returns-clause-some : goal.returns-clause-some
returns-clause-some c = (c.read_u32.type_inv, subst (λ n. c.args.addr.now ≡ v4_bytes n) (sym c.read_u32.ensures) (v4_tested c.args.addr.now c.fits-addr c.told-addr c.ne.result c.ne.ensures c.if-ne.false))
