-- The laws of signed objects in BER, and what was read of a file.
use Rattle.std.proofs.Common.{◌≡◌, ℕ, List, Ok, Err, ap, subst, inl, inr}
use Rattle.der_lite.specs.Place.{Fault, place_of}
use Rattle.der_lite.specs.Der.{IsBytes}
use Rattle.der_lite.specs.Fields.{last_at}
use Rattle.der_lite.proofs.GrammarLaws as laws
use Rattle.signed_objects.specs.declared.form.Form.TheVariants.{Member}
use Rattle.signed_objects.specs.declared.fault.CmsFault.{CmsFault}
use Rattle.der_forms.specs.Combinators.{fault_at}
use Rattle.signed_objects.specs.Faults.{kind_number, cms_fault_of}
use Rattle.signed_objects.specs.BerReading.{element_in, all_in}
use Rattle.signed_objects.specs.Objects.{ObjectValue, IsDerObject, DerFaultAt}
use Rattle.signed_objects.specs.BerObjects.{whole_file, SameContent, BerFaultAt, IsObject, FaultAt, OneContent, OneObject, OneFault}
use Rattle.signed_objects.proofs.ExactBer.{exact_file}
use Rattle.signed_objects.proofs.ObjectLaws.{fault_law, object_law}

-- what was read is spelled
pub content_read : (bytes der : List ℕ) → IsBytes bytes → all_in bytes ≡ Ok der → SameContent bytes der
unfolding all_in
content_read bytes der are e = exact_file.takes (place_of 0 bytes) der are e

-- a fault that was read is the one there
pub ber_fault_read : (bytes : List ℕ) (fault : CmsFault) → IsBytes bytes → all_in bytes ≡ Err (cms_fault_of fault) → BerFaultAt bytes fault.offset (kind_number fault.kind)
unfolding all_in
ber_fault_read bytes fault are e = exact_file.faults (place_of 0 bytes) (cms_fault_of fault) are e

-- bytes become one
pub content_law : OneContent
content_law bytes der other s t = laws.one_value whole_file (last_at (element_in 16 Member)) exact_file (place_of 0 bytes) der other s t

-- bytes that become DER have no fault of BER
apart : (bytes der : List ℕ) (f : Fault) → SameContent bytes der → whole_file.FaultAt (place_of 0 bytes) f → ⊥
apart bytes der f s t = laws.apart whole_file (last_at (element_in 16 Member)) exact_file (place_of 0 bytes) der f s t

pub one_object_law : OneObject
one_object_law bytes value other s t = object_law s.der value other s.object (subst (λ (der : List ℕ). IsDerObject der other) (content_law bytes t.der s.der t.same s.same) t.object)

-- two faults of a file are one
faults_once : (bytes : List ℕ) (offset other number second : ℕ) → FaultAt bytes offset number → FaultAt bytes other second → (offset ≡ other) × (number ≡ second)
faults_once bytes offset other number second (inl a) (inl b) =
    let same = laws.one_fault whole_file (last_at (element_in 16 Member)) exact_file (place_of 0 bytes) (fault_at number offset) (fault_at second other) a b in
    (ap (λ (f : Fault). f.offset) same, ap (λ (f : Fault). f.number) same)
faults_once bytes offset other number second (inl a) (inr b) = absurd (apart bytes b.0 (fault_at number offset) b.1 a)
faults_once bytes offset other number second (inr a) (inl b) = absurd (apart bytes a.0 (fault_at second other) a.1 b)
faults_once bytes offset other number second (inr a) (inr b) =
    fault_law.0 a.0 offset other number second a.2 (subst (λ (der : List ℕ). DerFaultAt der other second) (content_law bytes b.0 a.0 b.1 a.1) b.2)

-- an object has no fault
object_apart : (bytes : List ℕ) (offset number : ℕ) (value : ObjectValue) → FaultAt bytes offset number → IsObject bytes value → ⊥
object_apart bytes offset number value (inl a) o = apart bytes o.der (fault_at number offset) o.same a
object_apart bytes offset number value (inr a) o = fault_law.1 a.0 offset number value a.2 (subst (λ (der : List ℕ). IsDerObject der value) (content_law bytes o.der a.0 o.same a.1) o.object)

pub one_fault_law : OneFault
one_fault_law = (faults_once, object_apart)
