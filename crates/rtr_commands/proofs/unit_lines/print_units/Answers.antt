use Rattle.rtr_pdu.specs.Counted.{device_of}
use Rattle.rtr_commands.proofs.UnitLists.{of_first, told_fault, told_less, told_more, told_most, told_none, told_whole}
use Rattle.rtr_commands.proofs.unit_lines.print_units.Goals as goal

pub loop-unit-init : goal.loop-unit-init
loop-unit-init g c = rw c.new-input.ensures.device (told_none c.args.bytes.now (g.W.Write.contents c.args.out.now))

pub overflow_sub-offset : goal.overflow_sub-offset
overflow_sub-offset g c = rw c.device.ensures (told_most c.args.bytes.now (device_of c.loop-unit.input).now _ _ c.loop-unit.invariant)

pub loop-unit-smaller : goal.loop-unit-smaller
loop-unit-smaller g c =
    let r = of_first c.args.bytes.now _ _ _ _ _ _ c.first-version.ensures c.in-Ok-Some.ensures.reads in
    told_less c.args.bytes.now (device_of c.loop-unit.input).now r.bytes (device_of c.read_unit_of.new.input).now c.in-Ok-Some.unit _ r.consumed c.in-Ok-Some.field-0-is r.answers

pub loop-unit-preserved : goal.loop-unit-preserved
loop-unit-preserved g c =
    let r = of_first c.args.bytes.now _ _ _ _ _ _ c.first-version.ensures c.in-Ok-Some.ensures.reads in
    told_more c.args.bytes.now (device_of c.loop-unit.input).now r.bytes (device_of c.read_unit_of.new.input).now _ _ _ c.in-Ok-Some.unit _ c.loop-unit.invariant r.consumed c.in-Ok-Some.field-0-is r.answers
    c.in_ok-print_unit-in-Ok-Some.ensures

pub returns-in-Ok-None : goal.returns-in-Ok-None
returns-in-Ok-None g c =
    let r = of_first c.args.bytes.now _ _ _ _ _ _ c.first-version.ensures c.in-Ok-None.ensures.reads in
    told_whole c.args.bytes.now (device_of c.loop-unit.input).now r.bytes (device_of c.read_unit_of.new.input).now _ _ _ c.loop-unit.invariant r.consumed c.in-Ok-None.field-0-is r.answers

pub returns-in-Err-Fault : goal.returns-in-Err-Fault
returns-in-Err-Fault g c =
    let r = of_first c.args.bytes.now _ _ _ _ _ _ c.first-version.ensures c.in-Err-Fault.ensures.reads in
    rw (c.number.ensures, c.in-Err-Fault.fault-is, c.device.ensures)
    (told_fault c.args.bytes.now (device_of c.loop-unit.input).now r.bytes (device_of c.read_unit_of.new.input).now _ _ c.in-Err-Fault.fault _ c.loop-unit.invariant r.consumed c.in-Err-Fault.field-0-is r.answers)
