use Rattle.std.proofs.Common.{ap, ◌∙◌, sym, subst}
use Rattle.rtr_pdu.specs.declared.version.Version.{Version}
use Rattle.rtr_pdu.specs.Stream.{as_read, IsPartial}
use Rattle.rtr_pdu.specs.Reader.{IsReader, version_with}
use Rattle.rtr_pdu.proofs.ReaderLaws as laws
use Rattle.rtr_pdu.proofs.reader.UnitReader.next.Goals as goal

pub advance-requires : goal.advance-requires
advance-requires c =
    let none = laws.not_some c.self.inside.fault c.in_default.not-Some in
    laws.standing_none c.version_with-version.result c.self.inside.fault c.self.inside.any c.self.inside.buffer.items none
    (subst (λ v. laws.Standing v c.self.inside.fault c.self.inside.any c.self.inside.buffer.items) (sym (c.version_with-version.ensures ∙ sym (ap (λ r. version_with r c.args.piece.now.now) c.self.view_is)))
    (laws.reader_with c.self.inside.version c.self.inside.fault c.self.inside.any c.self.inside.buffer.items c.args.piece.now.now c.self.invariant))

pub invariant_of-self : goal.invariant_of-self
invariant_of-self c =
    let none = laws.not_some c.self.inside.fault c.in_default.not-Some in
    let version : Version = c.version_with-version.result in
    laws.standing_from version c.self.inside.fault c.self.inside.later c.clear.new.self.items none
    (subst (λ x. IsPartial version (as_read version c.self.inside.later x)) (sym c.clear.ensures) (laws.partial_empty version c.self.inside.later))

pub returns-in-Unit-clause-reader : goal.returns-in-Unit-clause-reader
returns-in-Unit-clause-reader c =
    subst (λ r. IsReader (version_with r c.args.piece.now.now) r) c.self.view_is
    (laws.reader_with c.self.inside.version c.self.inside.fault c.self.inside.any c.self.inside.buffer.items c.args.piece.now.now c.self.invariant)

pub returns-in-NeedMore-clause-reader : goal.returns-in-NeedMore-clause-reader
returns-in-NeedMore-clause-reader c =
    subst (λ r. IsReader (version_with r c.args.piece.now.now) r) c.self.view_is
    (laws.reader_with c.self.inside.version c.self.inside.fault c.self.inside.any c.self.inside.buffer.items c.args.piece.now.now c.self.invariant)

pub returns-in-Fault-clause-reader : goal.returns-in-Fault-clause-reader
returns-in-Fault-clause-reader c =
    subst (λ r. IsReader (version_with r c.args.piece.now.now) r) c.self.view_is
    (laws.reader_with c.self.inside.version c.self.inside.fault c.self.inside.any c.self.inside.buffer.items c.args.piece.now.now c.self.invariant)
