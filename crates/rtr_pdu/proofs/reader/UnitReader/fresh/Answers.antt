use Rattle.std.proofs.Common.{sym, subst}
use Rattle.std.specs.Prelude.{[]}
use Rattle.rtr_pdu.specs.Stream.{as_read, IsPartial}
use Rattle.rtr_pdu.specs.Version.{version_in}
use Rattle.rtr_pdu.proofs.ReaderLaws as laws
use Rattle.rtr_pdu.proofs.reader.UnitReader.fresh.Goals as goal

pub invariant_of-result : goal.invariant_of-result
invariant_of-result c =
    subst (λ x. IsPartial (version_in c.args.version x) (as_read (version_in c.args.version x) c.args.any x)) (sym c.new.ensures)
    (laws.partial_empty (version_in c.args.version []) c.args.any)
