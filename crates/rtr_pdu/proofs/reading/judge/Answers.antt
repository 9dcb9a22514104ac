use Rattle.std.proofs.Common.{ℕ, ◌&&◌, ◌==◌, List, sym, ap, ◌∙◌}
use Rattle.std.specs.Prelude.{if◌then◌else◌, slice_index}
use Rattle.rtr_pdu.specs.Stream.{fault_of, type_of}
use Rattle.rtr_pdu.specs.Version.{version_number}
use Rattle.rtr_pdu.proofs.BodyLaws as laws
use Rattle.rtr_pdu.proofs.reading.judge.Goals as goal

pub returns : goal.returns
returns c =
    let bytes : List ℕ = c.args.bytes.now in
    c.judge_header.ensures
    ∙ ap (λ v. fault_of c.args.version v (type_of c.args.bytes.now) c.number_32-len.result) c.shown_version-shown.ensures
    ∙ ap (λ n. fault_of c.args.version (if c.args.any && (type_of c.args.bytes.now == 0 && n == 12) then version_number c.args.version else slice_index c.args.bytes.now 0) (type_of c.args.bytes.now) n) c.number_32-len.ensures
    ∙ sym (laws.header-as_read c.args.version c.args.any c.args.bytes.now c.requires)
