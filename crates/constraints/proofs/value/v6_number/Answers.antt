use Rattle.prefix_texts.proofs.Sayings.{address_missed, address_read}
use Rattle.constraints.proofs.value.v6_number.Goals as goal

pub returns-in-Ok : goal.returns-in-Ok
returns-in-Ok c = address_read c.args.text.now c.in-Ok.address c.to_bits.result c.in-Ok.ensures.value c.to_bits.ensures

pub returns-in-Err : goal.returns-in-Err
returns-in-Err c = address_missed c.args.text.now c.in-Err.ensures.value
