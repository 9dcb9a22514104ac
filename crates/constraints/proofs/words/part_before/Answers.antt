use Rattle.std.proofs.Common.{◌-◌, length, arith}
use Rattle.constraints.specs.Stops.{stops}
use Rattle.constraints.proofs.PartLaws.{front_is}
use Rattle.constraints.proofs.words.part_before.Goals as goal

pub returns-clause-text : goal.returns-clause-text
returns-clause-text c =
    let bytes = c.args.bytes.now in
    let rest = c.part_after-rest.result.now in
    front_is (stops c.args.stop) bytes rest (length bytes - length rest) c.part_after-rest.ensures.value (omega (arith, c.part_after-rest.ensures.shorter))
