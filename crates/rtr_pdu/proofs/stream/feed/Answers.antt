use Rattle.std.proofs.Common.{List, refl, subst, sym}
use Rattle.rtr_pdu.specs.Reader.{version_with}
use Rattle.rtr_pdu.specs.declared.unit.Unit.{Unit}
use Rattle.rtr_pdu.specs.Run.{ReadsOn}
use Rattle.rtr_pdu.proofs.RunLaws as laws
use Rattle.rtr_pdu.proofs.stream.feed.Goals as goal

pub loop-unit-init : goal.loop-unit-init
loop-unit-init c = λ start any stream h. (stream, h, refl)

pub loop-unit-smaller : goal.loop-unit-smaller
loop-unit-smaller c = laws.takes_some (version_with c.loop-unit.reader c.loop-unit.rest.now) c.loop-unit.reader c.loop-unit.rest.now c.next.new.piece.now c.in-Unit.unit c.next.new.self c.in-Unit.ensures.reader c.in-Unit.ensures.takes

pub loop-unit-preserved : goal.loop-unit-preserved
loop-unit-preserved c =
    let P : List Unit → Type 0 = λ x. ReadsOn c.args.units.now.items c.args.reader.now c.args.piece.now x c.tell.new.reader c.next.new.piece.now in
    subst P (sym c.in_ok-push-in-Unit.ensures.items)
    (laws.goes_unit c.args.units.now.items c.args.reader.now c.args.piece.now c.loop-unit.units.items c.loop-unit.reader c.loop-unit.rest.now c.next.new.piece.now c.in-Unit.unit c.next.new.self c.tell.new.reader
    c.loop-unit.invariant c.in-Unit.ensures.takes c.tell.ensures)

pub returns-in-NeedMore : goal.returns-in-NeedMore
returns-in-NeedMore c =
    laws.goes_more c.args.units.now.items c.args.reader.now c.args.piece.now c.loop-unit.units.items c.loop-unit.reader c.loop-unit.rest.now c.next.new.piece.now c.next.new.self
    c.loop-unit.invariant c.in-NeedMore.ensures.takes

pub returns-in-Fault : goal.returns-in-Fault
returns-in-Fault c =
    laws.goes_fault c.args.units.now.items c.args.reader.now c.args.piece.now c.loop-unit.units.items c.loop-unit.reader c.loop-unit.rest.now c.next.new.piece.now c.in-Fault.fault c.next.new.self
    c.loop-unit.invariant c.in-Fault.ensures.takes
