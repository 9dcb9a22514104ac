use Rattle.std.proofs.Common.{◌∙◌}
use Rattle.std.specs.Prelude.{slice_index}
use Rattle.rtr_pdu.specs.Reading.{is_odd}
use Rattle.rtr_pdu.proofs.reading.key.Goals as goal
use Rattle.std.proofs.lemmas.List.{take_rest}

pub returns : goal.returns
returns c =
    c.new.ensures
    ∙ (λ i. record {
      announce = is_odd (slice_index c.args.bytes.now 2);
      identifier = c.copy_from_slice.ensures.after i;
      asn = c.number_32.ensures i;
      info = take_rest c.args.bytes.now 32 i;
    })
