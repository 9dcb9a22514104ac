use Rattle.std.proofs.Common.{◌≡◌, ℕ, ◌<◌, ◌≤◌, length, List, sym, ap, ◌∙◌, subst, arith, refl}
use Rattle.std.specs.Prelude.{None, Some}
use Rattle.rtr_pdu.specs.Stream.{as_read, header_fault, length_of}
use Rattle.rtr_pdu.specs.Reading.{filled}
use Rattle.rtr_pdu.proofs.ReaderLaws as laws
use Rattle.rtr_pdu.proofs.BodyLaws as bodies
use Rattle.rtr_pdu.specs.declared.unit.Next.TheVariants as next
use Rattle.rtr_pdu.proofs.reader.advance.Goals as goal

pub returns-then-len-lt8 : goal.returns-then-len-lt8
returns-then-len-lt8 c =
    let few : length (filled 8 c.args.buffer.now.items c.args.piece.now.now) < 8 = omega (arith, ap length c.fill.ensures.held, c.if-len-lt8.true, c.len.ensures.value) in
    laws.moved c.args.version c.args.any c.args.buffer.now.items c.args.piece.now.now next.NeedMore 8 8 c.fill.new.piece.now c.fill.new.buffer.items refl c.fill.ensures.held c.fill.ensures.rest
    (laws.header_short c.args.version c.args.any c.args.buffer.now.items c.args.piece.now.now few)

pub finish-requires-clause-within : goal.finish-requires-clause-within
finish-requires-clause-within c =
    let now = c.fill.ensures.held in
    let eight : 8 ≤ length (filled 8 c.args.buffer.now.items c.args.piece.now.now) = omega (arith, ap length now, c.if-len-lt8.false, c.len.ensures.value) in
    let none : header_fault c.args.version (as_read c.args.version c.args.any (filled 8 c.args.buffer.now.items c.args.piece.now.now)) ≡ None =
    ap (λ x. header_fault c.args.version (as_read c.args.version c.args.any x)) (sym (c.as_slice.ensures.value ∙ now)) ∙ sym c.judge.ensures ∙ c.in-None.is in
    let room = laws.header_room c.args.version c.args.any c.args.buffer.now.items c.args.piece.now.now c.requires eight none (bodies.header_least c.args.version c.args.any (filled 8 c.args.buffer.now.items c.args.piece.now.now) none eight) in
    let P : List ℕ → Type 0 = λ x. length x ≤ length_of (as_read c.args.version c.args.any x) in
    subst P (sym now) room

pub returns-in-Some : goal.returns-in-Some
returns-in-Some c =
    let now = c.fill.ensures.held in
    let eight : 8 ≤ length (filled 8 c.args.buffer.now.items c.args.piece.now.now) = omega (arith, ap length now, c.if-len-lt8.false, c.len.ensures.value) in
    let some : header_fault c.args.version (as_read c.args.version c.args.any (filled 8 c.args.buffer.now.items c.args.piece.now.now)) ≡ Some c.in-Some.fault =
    ap (λ x. header_fault c.args.version (as_read c.args.version c.args.any x)) (sym (c.as_slice.ensures.value ∙ now)) ∙ sym c.judge.ensures ∙ c.in-Some.is in
    laws.moved c.args.version c.args.any c.args.buffer.now.items c.args.piece.now.now (next.Fault c.in-Some.fault) 8 8 c.fill.new.piece.now c.fill.new.buffer.items refl now c.fill.ensures.rest
    (laws.header_bad c.args.version c.args.any c.args.buffer.now.items c.args.piece.now.now c.requires eight c.in-Some.fault some)

pub returns-in-None : goal.returns-in-None
returns-in-None c =
    laws.moved_after c.args.version c.args.any c.args.buffer.now.items c.args.piece.now.now c.finish.result 8 c.fill.new.piece.now c.fill.new.buffer.items c.finish.new.piece.now c.finish.new.buffer.items
    c.fill.ensures.held c.fill.ensures.rest c.finish.ensures
