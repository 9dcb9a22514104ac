use Rattle.std.proofs.Common.{◌<◌, length, refl, string_bytes, subst, sym, ◌∙◌}
use Rattle.rtr_pdu.specs.declared.unit.Unit.TheVariants.{Prefix}
use Rattle.rtr_commands.proofs.SplitLines.{Lined, Read, ends_there, has_lines, lined_more, read_less, read_more, read_none}
use Rattle.rtr_commands.proofs.answering.unit_lines.Goals as goal

pub loop-found-init : goal.loop-found-init
loop-found-init c = (c.of_version-reader.ensures, read_none c.args.version (Lined c.args.version (string_bytes c.in_ok-lines.lines)) c.args.bytes.now (record { sound = tt; lines_are = c.in_ok-lines.ensures.bytes }))

pub loop-found-smaller-in-Continue-branch-2 : goal.loop-found-smaller-in-Continue-branch-2
loop-found-smaller-in-Continue-branch-2 c = read_less c.args.version c.loop-found.rest.now c.next_prefix.new.piece.now (Prefix c.in-Some.found.0 c.in-Some.found.1) c.loop-found.reader c.next_prefix.new.self c.loop-found.invariant.0 c.in-Some.ensures.some

pub loop-found-preserved-in-Continue-branch-2 : goal.loop-found-preserved-in-Continue-branch-2
loop-found-preserved-in-Continue-branch-2 c =
    read_more c.args.version (Lined c.args.version (string_bytes c.loop-found.lines)) (Lined c.args.version (string_bytes c.push_prefix.new.lines)) c.args.bytes.now c.loop-found.rest.now c.next_prefix.new.piece.now (Prefix c.in-Some.found.0 c.in-Some.found.1) c.loop-found.reader c.next_prefix.new.self c.loop-found.invariant.0 c.in-Some.ensures.some c.loop-found.invariant.1
    (λ lined. lined_more c.args.version (string_bytes c.loop-found.lines) (string_bytes c.push_prefix.new.lines) c.loop-found.invariant.1.units (Prefix c.in-Some.found.0 c.in-Some.found.1) c.in_ok-push_prefix.ensures refl lined)

pub loop-found-smaller : goal.loop-found-smaller
loop-found-smaller c =
    subst (λ x. length c.next.new.piece.now < length x) c.in_default.ensures.none.1
    (read_less c.args.version c.next_prefix.new.piece.now c.next.new.piece.now c.in-Unit.unit c.next_prefix.new.self c.next.new.self (c.in_default.ensures.none.0 ∙ c.loop-found.invariant.0) c.in-Unit.ensures.takes)

pub loop-found-preserved : goal.loop-found-preserved
loop-found-preserved c =
    let left = subst (λ x. Read c.args.version (Lined c.args.version (string_bytes c.loop-found.lines)) c.args.bytes.now x) (sym c.in_default.ensures.none.1) c.loop-found.invariant.1 in
    read_more c.args.version (Lined c.args.version (string_bytes c.loop-found.lines)) (Lined c.args.version (string_bytes c.push_line.new.lines)) c.args.bytes.now c.next_prefix.new.piece.now c.next.new.piece.now c.in-Unit.unit c.next_prefix.new.self c.next.new.self (c.in_default.ensures.none.0 ∙ c.loop-found.invariant.0) c.in-Unit.ensures.takes left
    (λ lined. lined_more c.args.version (string_bytes c.loop-found.lines) (string_bytes c.push_line.new.lines) left.units c.in-Unit.unit c.in_ok-push_line-in-Unit.ensures (sym c.is_internal_error.ensures ∙ c.if-is_internal_error.false) lined)

pub returns-in_default-next : goal.returns-in_default-next
returns-in_default-next c =
    let left = subst (λ x. Read c.args.version (Lined c.args.version (string_bytes c.loop-found.lines)) c.args.bytes.now x) (sym c.in_default.ensures.none.1) c.loop-found.invariant.1 in
    let (fault, ends) = ends_there c.args.version (Lined c.args.version (string_bytes c.loop-found.lines)) c.args.bytes.now c.next_prefix.new.piece.now c.next.new.piece.now c.next.result c.next_prefix.new.self c.next.new.self c.in_default-next.not-Unit (c.in_default.ensures.none.0 ∙ c.loop-found.invariant.0) c.next.ensures.takes left in
    has_lines c.args.version c.args.bytes.now c.next_prefix.new.piece.now (string_bytes c.loop-found.lines) fault ends
