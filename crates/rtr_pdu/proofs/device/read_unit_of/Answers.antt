-- What a call gave is behind what was held, and is at most what was wanted.
use Rattle.std.proofs.Common.{◌≡◌, length, take, drop, ◌++◌, arith, subst, sym, ap, ◌∙◌}
use Rattle.std.proofs.lemmas.List.{take-append-le, length-take-le, length-append, length-drop}
use Rattle.std.specs.Io.KnownBytes.{Consumes}
use Rattle.std.proofs.KnownBytes.{Consumes-trans}
use Rattle.rtr_pdu.specs.Device.{end_answer}
use Rattle.rtr_pdu.specs.Version.{version_in}
use Rattle.rtr_pdu.specs.Reader.{IsReader, ReaderTakes, version_with}
use Rattle.rtr_pdu.specs.declared.unit.Next.TheVariants as next
use Rattle.rtr_pdu.proofs.DeviceLaws as laws
use Rattle.rtr_pdu.proofs.device.read_unit_of.Goals as goal

pub returns-in-Unit-clause-reads : goal.returns-in-Unit-clause-reads
returns-in-Unit-clause-reads g c =
    let (sound, mode, known, fails, least, most, front, size) = c.loop-reader.invariant in
    let of_it : version_with c.loop-reader.reader (take c.in-Ok.n (c.read.new.buf ++ drop c.missing-size.result c.loop-reader.bytes)) ≡ c.args.version =
    ap (λ v. version_in v (c.loop-reader.reader.held ++ take c.in-Ok.n (c.read.new.buf ++ drop c.missing-size.result c.loop-reader.bytes))) known in
    let piece = take-append-le c.in-Ok.n c.read.new.buf (drop c.missing-size.result c.loop-reader.bytes) c.in-Ok.ensures.bound.0 in
    let room : length c.read.new.buf ≡ c.missing-size.result = c.read.auto.buf ∙ length-take-le c.missing-size.result c.loop-reader.bytes (omega (arith, c.missing-size.ensures.most, size)) in
    let few = laws.within c.in-Ok.n c.missing-size.result c.loop-reader.reader.held c.held.result.now c.read.new.buf _ room c.missing-size.ensures.value c.held.ensures.held c.in-Ok.ensures.bound piece in
    let one = laws.was_counted c.in-Ok.ensures.counted c.in-Ok.ensures.spent in
    laws.gives_unit c.args.version _ _ _ _ _ _ _ _ _ _ sound mode (subst (λ v. IsReader v c.loop-reader.reader) of_it c.in-Unit.ensures.reader) few front (subst (Consumes _ _) (sym piece) c.in-Ok.ensures.bytes.0) most one.0 _ (subst (λ v. ReaderTakes v c.loop-reader.reader (take c.in-Ok.n (c.read.new.buf ++ drop c.missing-size.result c.loop-reader.bytes)) (next.Unit c.in-Unit.unit) c.next.new.piece.now c.next.new.self) of_it c.in-Unit.ensures.takes)

pub returns-in-Fault-clause-reads : goal.returns-in-Fault-clause-reads
returns-in-Fault-clause-reads g c =
    let (sound, mode, known, fails, least, most, front, size) = c.loop-reader.invariant in
    let of_it : version_with c.loop-reader.reader (take c.in-Ok.n (c.read.new.buf ++ drop c.missing-size.result c.loop-reader.bytes)) ≡ c.args.version =
    ap (λ v. version_in v (c.loop-reader.reader.held ++ take c.in-Ok.n (c.read.new.buf ++ drop c.missing-size.result c.loop-reader.bytes))) known in
    let piece = take-append-le c.in-Ok.n c.read.new.buf (drop c.missing-size.result c.loop-reader.bytes) c.in-Ok.ensures.bound.0 in
    let room : length c.read.new.buf ≡ c.missing-size.result = c.read.auto.buf ∙ length-take-le c.missing-size.result c.loop-reader.bytes (omega (arith, c.missing-size.ensures.most, size)) in
    let few = laws.within c.in-Ok.n c.missing-size.result c.loop-reader.reader.held c.held.result.now c.read.new.buf _ room c.missing-size.ensures.value c.held.ensures.held c.in-Ok.ensures.bound piece in
    let one = laws.was_counted c.in-Ok.ensures.counted c.in-Ok.ensures.spent in
    laws.gives_fault c.args.version _ _ _ _ _ _ _ _ _ _ sound mode (subst (λ v. IsReader v c.loop-reader.reader) of_it c.in-Fault.ensures.reader) few front (subst (Consumes _ _) (sym piece) c.in-Ok.ensures.bytes.0) most one.0 _ (subst (λ v. ReaderTakes v c.loop-reader.reader (take c.in-Ok.n (c.read.new.buf ++ drop c.missing-size.result c.loop-reader.bytes)) (next.Fault c.in-Fault.fault) c.next.new.piece.now c.next.new.self) of_it c.in-Fault.ensures.takes)

pub loop-reader-smaller : goal.loop-reader-smaller
loop-reader-smaller g c =
    let (sound, mode, known, fails, least, most, front, size) = c.loop-reader.invariant in
    let of_it : version_with c.loop-reader.reader (take c.in-Ok.n (c.read.new.buf ++ drop c.missing-size.result c.loop-reader.bytes)) ≡ c.args.version =
    ap (λ v. version_in v (c.loop-reader.reader.held ++ take c.in-Ok.n (c.read.new.buf ++ drop c.missing-size.result c.loop-reader.bytes))) known in
    let piece = take-append-le c.in-Ok.n c.read.new.buf (drop c.missing-size.result c.loop-reader.bytes) c.in-Ok.ensures.bound.0 in
    let held : c.next.new.self.held ≡ c.loop-reader.reader.held ++ take c.in-Ok.n c.read.new.buf =
    ap (λ r. r.held) (laws.holds_more c.args.version _ _ _ _ (subst (λ v. ReaderTakes v c.loop-reader.reader (take c.in-Ok.n (c.read.new.buf ++ drop c.missing-size.result c.loop-reader.bytes)) next.NeedMore c.next.new.piece.now c.next.new.self) of_it c.in-NeedMore.ensures.takes)) ∙ ap (λ x. c.loop-reader.reader.held ++ x) piece in
    let came = length-append c.loop-reader.reader.held (take c.in-Ok.n c.read.new.buf) in
    let least = laws.partial_most c.args.version c.loop-reader.reader.held (laws.begins c.args.version c.loop-reader.reader sound mode (subst (λ v. IsReader v c.loop-reader.reader) of_it c.in-NeedMore.ensures.reader)) in
    omega (arith, ap length held, came, c.in-Ok.ensures.bound.1, least, c.in-Ok.n-test.1)

pub loop-reader-preserved : goal.loop-reader-preserved
loop-reader-preserved g c =
    let (sound, mode, known, fails, least, most, front, size) = c.loop-reader.invariant in
    let of_it : version_with c.loop-reader.reader (take c.in-Ok.n (c.read.new.buf ++ drop c.missing-size.result c.loop-reader.bytes)) ≡ c.args.version =
    ap (λ v. version_in v (c.loop-reader.reader.held ++ take c.in-Ok.n (c.read.new.buf ++ drop c.missing-size.result c.loop-reader.bytes))) known in
    let piece = take-append-le c.in-Ok.n c.read.new.buf (drop c.missing-size.result c.loop-reader.bytes) c.in-Ok.ensures.bound.0 in
    let new = laws.holds_more c.args.version _ _ _ _ (subst (λ v. ReaderTakes v c.loop-reader.reader (take c.in-Ok.n (c.read.new.buf ++ drop c.missing-size.result c.loop-reader.bytes)) next.NeedMore c.next.new.piece.now c.next.new.self) of_it c.in-NeedMore.ensures.takes) in
    let held : c.next.new.self.held ≡ c.loop-reader.reader.held ++ take c.in-Ok.n c.read.new.buf = ap (λ r. r.held) new ∙ ap (λ x. c.loop-reader.reader.held ++ x) piece in
    let came = length-append c.loop-reader.reader.held (take c.in-Ok.n c.read.new.buf) in
    let room : length c.read.new.buf ≡ c.missing-size.result = c.read.auto.buf ∙ length-take-le c.missing-size.result c.loop-reader.bytes (omega (arith, c.missing-size.ensures.most, size)) in
    let one = laws.was_counted c.in-Ok.ensures.counted c.in-Ok.ensures.spent in (
      ap (λ r. r.fault) new ∙ sound,
      ap (λ r. r.any) new ∙ mode,
      ap (λ r. r.version) new ∙ known,
      omega (arith, one.1, fails),
      omega (arith, one.0, least),
      omega (arith, one.0, most, ap length held, came, c.in-Ok.ensures.bound.1, c.in-Ok.n-test.1),
      subst (Consumes _ _) (sym held) (Consumes-trans _ _ _ _ _ front c.in-Ok.ensures.bytes.0),
      (let both = length-append c.read.new.buf (drop c.missing-size.result c.loop-reader.bytes) in omega (arith, both, room, length-drop c.missing-size.result c.loop-reader.bytes, c.missing-size.ensures.most, size)),
    )

pub returns-in-Ok-eq0-clause-reads : goal.returns-in-Ok-eq0-clause-reads
returns-in-Ok-eq0-clause-reads g c =
    let (sound, mode, known, fails, least, most, front, size) = c.loop-reader.invariant in
    let stands : IsReader c.args.version c.loop-reader.reader =
    subst (λ v. IsReader v c.loop-reader.reader) (ap (λ v. version_in v c.loop-reader.reader.held) known) c.held.ensures.reader in
    let room : length c.read.new.buf ≡ c.missing-size.result = c.read.auto.buf ∙ length-take-le c.missing-size.result c.loop-reader.bytes (omega (arith, c.missing-size.ensures.most, size)) in
    let ends = c.in-Ok-eq0.ensures.bytes.1 c.in-Ok-eq0.field-0-test (omega (arith, room, c.missing-size.ensures.some)) in
    let one = laws.was_counted c.in-Ok-eq0.ensures.counted c.in-Ok-eq0.ensures.spent in
    laws.gives_end c.args.version _ _ _ _ _ _ _ c.loop-reader.reader _ _ sound mode stands front c.in-Ok-eq0.ensures.bytes.0 c.in-Ok-eq0.field-0-test ends most one.0
    (c.end.ensures ∙ ap end_answer c.end_of_input.ensures.answer)
