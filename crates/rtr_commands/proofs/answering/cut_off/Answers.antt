use Rattle.rtr_pdu.specs.Reader.{fresh}
use Rattle.rtr_pdu.specs.Version.{first_version}
use Rattle.std.proofs.Common.{ap, Some, false, ◌<◌, ℕ, List, length, subst, sym, ◌∙◌}
use Rattle.rtr_commands.proofs.SplitLines.{Any, leaves_off, leaves_fault, leaves_none, leaves_some, read_less, read_more, read_most, read_none, tests_empty, tests_some}
use Rattle.rtr_commands.proofs.answering.cut_off.Goals as goal

pub loop-reader-init : goal.loop-reader-init
loop-reader-init c = (c.of_version-reader.ensures ∙ ap (λ v. fresh (Some v) false) c.first.ensures, read_none (first_version c.args.bytes.now) Any c.args.bytes.now tt)

pub loop-reader-smaller : goal.loop-reader-smaller
loop-reader-smaller c = read_less (first_version c.args.bytes.now) c.loop-reader.rest.now c.next.new.piece.now c.in-Unit.field-0 c.loop-reader.reader c.next.new.self c.loop-reader.invariant.0 c.in-Unit.ensures.takes

pub loop-reader-preserved : goal.loop-reader-preserved
loop-reader-preserved c =
    read_more (first_version c.args.bytes.now) Any Any c.args.bytes.now c.loop-reader.rest.now c.next.new.piece.now c.in-Unit.field-0 c.loop-reader.reader c.next.new.self c.loop-reader.invariant.0 c.in-Unit.ensures.takes c.loop-reader.invariant.1 (λ any. tt)

pub overflow_sub-offset : goal.overflow_sub-offset
overflow_sub-offset c = read_most (first_version c.args.bytes.now) Any c.args.bytes.now c.loop-reader.rest.now c.loop-reader.invariant.1

pub returns-in-Fault : goal.returns-in-Fault
returns-in-Fault c =
    leaves_off c.args.bytes.now _ (leaves_fault (first_version c.args.bytes.now) c.args.bytes.now c.loop-reader.rest.now c.next.new.piece.now c.in-Fault.field-0 c.loop-reader.reader c.next.new.self c.loop-reader.invariant.0 c.in-Fault.ensures.takes c.loop-reader.invariant.1)

pub returns-in-NeedMore : goal.returns-in-NeedMore
returns-in-NeedMore c =
    leaves_off c.args.bytes.now _ (leaves_none (first_version c.args.bytes.now) c.args.bytes.now c.loop-reader.rest.now c.next.new.piece.now c.loop-reader.reader c.next.new.self c.loop-reader.invariant.0 c.in-NeedMore.ensures.takes c.loop-reader.invariant.1
    (sym c.held.ensures.held ∙ tests_empty c.held.result.now c.is_empty.result c.is_empty.ensures c.if-is_empty.true))

pub returns-in-NeedMore-2 : goal.returns-in-NeedMore-2
returns-in-NeedMore-2 c =
    leaves_off c.args.bytes.now _ (leaves_some (first_version c.args.bytes.now) c.args.bytes.now c.loop-reader.rest.now c.next.new.piece.now c.loop-reader.reader c.next.new.self c.loop-reader.invariant.0 c.in-NeedMore-2.ensures.takes c.loop-reader.invariant.1
    (subst (λ (x : List ℕ). 0 < length x) c.held.ensures.held (tests_some c.held.result.now c.is_empty.result c.is_empty.ensures c.if-is_empty.false)))
