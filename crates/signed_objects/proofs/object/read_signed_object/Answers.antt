use Rattle.signed_objects.proofs.BerSteps.{noted}
use Rattle.signed_objects.proofs.object.read_signed_object.Goals as goal

pub returns-clause-der : goal.returns-clause-der
returns-clause-der c =
    noted c.args.bytes.now c.in_ok-owned.field-0.is_der c.eq-is_der.result c.in_ok-der.der.items c.as_slice.result.now c.in_ok-der.ensures c.as_slice.ensures.value c.in_ok-owned.ensures.1 c.eq-is_der.ensures
