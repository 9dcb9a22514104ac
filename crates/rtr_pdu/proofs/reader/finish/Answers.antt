use Rattle.std.proofs.Common.{◌≡◌, ℕ, ◌<◌, ◌≤◌, length, Bool, List, sym, ap, ◌∙◌, subst, arith}
use Rattle.rtr_pdu.specs.declared.version.Version.{Version}
use Rattle.rtr_pdu.specs.Stream.{as_read, length_of}
use Rattle.rtr_pdu.specs.Reading.{number_at, filled, IsBody}
use Rattle.rtr_pdu.proofs.ReaderLaws as laws
use Rattle.rtr_pdu.proofs.BodyLaws as bodies
use Rattle.rtr_pdu.specs.declared.unit.Next.TheVariants as next
use Rattle.rtr_pdu.proofs.reader.finish.Goals as goal

-- the size in the header
size_is : (version : Version) (any : Bool) (held slice : List ℕ) (size : ℕ) → size ≡ number_at 4 4 slice → slice ≡ held → size ≡ length_of (as_read version any held)
size_is version any held slice size e f = e ∙ ap (λ x. number_at 4 4 x) f ∙ bodies.header_size version any held

pub fill-requires : goal.fill-requires
fill-requires c =
    let held : List ℕ = c.args.buffer.now.items in
    omega (
      arith,
      size_is c.args.version c.args.any c.args.buffer.now.items c.as_slice.result.now c.number_32-size.result c.number_32-size.ensures c.as_slice.ensures.value,
      bodies.header_most c.args.version c.args.any c.args.buffer.now.items c.requires.sound c.requires.header,
    )

pub returns-then-len-size : goal.returns-then-len-size
returns-then-len-size c =
    let size = size_is c.args.version c.args.any c.args.buffer.now.items c.as_slice.result.now c.number_32-size.result c.number_32-size.ensures c.as_slice.ensures.value in
    let now : c.fill.new.buffer.items ≡ filled (length_of (as_read c.args.version c.args.any c.args.buffer.now.items)) c.args.buffer.now.items c.args.piece.now.now =
    c.fill.ensures.held ∙ ap (λ n. filled n c.args.buffer.now.items c.args.piece.now.now) size in
    let few : length (filled (length_of (as_read c.args.version c.args.any c.args.buffer.now.items)) c.args.buffer.now.items c.args.piece.now.now) < length_of (as_read c.args.version c.args.any c.args.buffer.now.items) =
    omega (arith, ap length now, size, c.if-len-size.true, c.len.ensures.value) in
    laws.moved c.args.version c.args.any c.args.buffer.now.items c.args.piece.now.now next.NeedMore c.number_32-size.result _ c.fill.new.piece.now c.fill.new.buffer.items size c.fill.ensures.held c.fill.ensures.rest
    (laws.fills_short c.args.version c.args.any c.args.buffer.now.items c.args.piece.now.now c.requires.sound c.requires.header c.requires.within few)

pub read-requires : goal.read-requires
read-requires c =
    let size = size_is c.args.version c.args.any c.args.buffer.now.items c.as_slice.result.now c.number_32-size.result c.number_32-size.ensures c.as_slice.ensures.value in
    let now : c.fill.new.buffer.items ≡ filled (length_of (as_read c.args.version c.args.any c.args.buffer.now.items)) c.args.buffer.now.items c.args.piece.now.now =
    c.fill.ensures.held ∙ ap (λ n. filled n c.args.buffer.now.items c.args.piece.now.now) size in
    let enough : length_of (as_read c.args.version c.args.any c.args.buffer.now.items) ≤ length (filled (length_of (as_read c.args.version c.args.any c.args.buffer.now.items)) c.args.buffer.now.items c.args.piece.now.now) =
    omega (arith, ap length now, size, c.if-len-size.false, c.len.ensures.value) in
    let body = bodies.is_body c.args.version c.args.any (filled (length_of (as_read c.args.version c.args.any c.args.buffer.now.items)) c.args.buffer.now.items c.args.piece.now.now)
    (laws.body_whole c.args.version c.args.any c.args.buffer.now.items c.args.piece.now.now c.requires.sound c.requires.header c.requires.within enough)
    (laws.body_size c.args.version c.args.any c.args.buffer.now.items c.args.piece.now.now c.requires.sound c.requires.header c.requires.within enough) in
    subst (λ x. IsBody c.args.version c.args.any x) (sym (c.as_slice-2.ensures.value ∙ now)) body
