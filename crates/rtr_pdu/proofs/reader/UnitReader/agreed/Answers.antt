use Rattle.std.proofs.Common.{◌<◌, length, false, sym, subst, arith}
use Rattle.rtr_pdu.specs.Version.{version_in}
use Rattle.rtr_pdu.proofs.ReaderLaws as laws
use Rattle.rtr_pdu.proofs.reader.UnitReader.agreed.Goals as goal
use Rattle.rtr_pdu.proofs.reader.UnitReader.agreed.Goals.{then-len-lt8, else-len-lt8}
use Rattle.rtr_pdu.specs.Reader.{IsReader}

pub invariant_of-self : goal.invariant_of-self
invariant_of-self c =
    let of_bytes = version_in c.self.inside.version c.self.inside.buffer.items in
    elim c.if-len-lt8.branch [
      | then-len-lt8 w ↦
          (let short : length c.self.inside.buffer.items < 8 = omega (arith, w.if-len-lt8.true, c.len.ensures.value) in
          subst (λ x. IsReader (version_in x.version x.buffer.items) (record { version = x.version; held = x.buffer.items; any = x.any; later = false; fault = x.fault })) (sym w.self-inside-is)
          (laws.standing_short of_bytes of_bytes c.self.inside.fault c.self.inside.any false c.self.inside.buffer.items short c.self.invariant))
      | else-len-lt8 w ↦ subst (λ x. IsReader (version_in x.version x.buffer.items) (record { version = x.version; held = x.buffer.items; any = x.any; later = false; fault = x.fault })) (sym w.self-inside-is) c.self.invariant
    ]
