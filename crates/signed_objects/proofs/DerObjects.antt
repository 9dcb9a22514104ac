-- What was read of the bytes of an object.
use Rattle.std.proofs.Common.{◌≡◌, ℕ, List, Ok, Err, refl, inl, inr}
use Rattle.der_lite.specs.Place.{place_of}
use Rattle.der_lite.specs.Der.{IsBytes}
use Rattle.signed_objects.specs.declared.fault.CmsFault.{CmsFault}
use Rattle.signed_objects.specs.declared.fault.ObjectFault.{ObjectFault}
use Rattle.signed_objects.specs.declared.fault.ObjectFault.TheVariants.{At, Memory}
use Rattle.signed_objects.specs.Cms.{ObjectParts, object}
use Rattle.signed_objects.specs.Faults.{kind_number, cms_fault_of}
use Rattle.signed_objects.specs.Reading.{object_all}
use Rattle.signed_objects.specs.Objects.{Holds, Judges, ObjectValue, value_of_parts, IsDerObject, DerFaultAt, ReadsDer}
use Rattle.signed_objects.proofs.ExactObjects.{exact_object}
use Rattle.signed_objects.proofs.ShortAttributes.{IsShort, octets_short}

-- what was read is spelled
pub object_read : (der : List ℕ) (o : ObjectParts) → IsBytes der → object_all der ≡ Ok o → object.Spells o der
unfolding object_all
object_read der o are e = exact_object.takes (place_of 0 der) o are e

-- its attributes are short
pub read_short : (der : List ℕ) (o : ObjectParts) → IsBytes der → object_all der ≡ Ok o → IsShort o.signer.octets
read_short der o are e = octets_short o der (object_read der o are e)

-- a fault that was read is the one there
pub fault_read : (der : List ℕ) (fault : CmsFault) → IsBytes der → object_all der ≡ Err (cms_fault_of fault) → DerFaultAt der fault.offset (kind_number fault.kind)
unfolding object_all
fault_read der fault are e = inl (exact_object.faults (place_of 0 der) (cms_fault_of fault) are e)

-- a fault that was judged is the one there
pub fault_judged : {X : Type 0} (view : X → ObjectValue) (fault : ObjectFault) (der : List ℕ) (o : ObjectParts) → IsBytes der → object_all der ≡ Ok o → Judges (Err fault) o → ReadsDer view (Err fault) der
fault_judged view (At fault) der o are e h = inr (o, object_read der o are e, h.0, h.1)
fault_judged view Memory der o are e h = (o, object_read der o are e, h)

-- an object that holds
pub object_is : (der : List ℕ) (o : ObjectParts) → IsBytes der → object_all der ≡ Ok o → Holds o → IsDerObject der (value_of_parts o)
object_is der o are e h = record { parts = o; spelled = object_read der o are e; holds = h; is = refl }
