use Rattle.std.proofs.Common.{◌-◌, ◌≤◌, ◌^◌, arith}
use Rattle.std.proofs.Math.Nat.{pow-le-pow_right}
use Rattle.constraints.proofs.ValueLaws.{last_fits}
use Rattle.constraints.proofs.value.last_address.Goals as goal

pub overflow_add-result : goal.overflow_add-result
overflow_add-result c =
    let fits = last_fits c.args.addr c.args.width c.args.len (c.args.width - c.args.len) (omega (arith, c.requires.within)) c.requires.small c.requires.host in
    let power : 2 ^ c.args.width ≤ 2 ^ 128 = pow-le-pow_right {n = 2} (omega arith) c.requires.narrow in
    omega (arith, fits, power, c.ones.ensures)
