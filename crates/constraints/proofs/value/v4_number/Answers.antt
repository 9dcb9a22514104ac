use Rattle.prefixes.proofs.Addresses.{v4_read, v4_missed}
use Rattle.constraints.proofs.value.v4_number.Goals as goal

pub returns-in-Ok : goal.returns-in-Ok
returns-in-Ok c = v4_read c.args.text.now c.in-Ok.address c.to_bits.result c.in-Ok.ensures.value c.to_bits.ensures

pub returns-in-Err : goal.returns-in-Err
returns-in-Err c = v4_missed c.args.text.now c.in-Err.ensures.value
