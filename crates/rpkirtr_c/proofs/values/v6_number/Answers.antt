use Rattle.std.proofs.Common.{◌≡◌, sym, subst}
use Rattle.rpkirtr_c.specs.Spelled.{v6_bytes}
use Rattle.rpkirtr_c.proofs.Addresses.{v6_read}
use Rattle.rpkirtr_c.proofs.values.v6_number.Goals as goal

pub returns : goal.returns
returns c = subst (λ n. c.args.addr.now ≡ v6_bytes n) (sym c.read_u128.ensures) (v6_read c.args.addr.now c.fits-addr c.told-addr)
