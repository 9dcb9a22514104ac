-- Signed objects of which the lengths are in BER.
use Rattle.std.specs.Prelude.{◌≡◌, ◌⊎◌, ℕ, Bool, List, Result, Ok, Err, ⊤}
use Rattle.der_lite.specs.Place.{place_of}
use Rattle.der_lite.specs.Grammar.{Members, last}
use Rattle.signed_objects.specs.declared.form.Form.TheVariants.{Member}
use Rattle.signed_objects.specs.declared.fault.ObjectFault.{ObjectFault}
use Rattle.signed_objects.specs.declared.fault.ObjectFault.TheVariants.{At, Memory}
use Rattle.der_forms.specs.Combinators.{fault_at}
use Rattle.signed_objects.specs.Ber.{element}
use Rattle.signed_objects.specs.Faults.{kind_number}
use Rattle.signed_objects.specs.Objects.{ObjectValue, IsDerObject, DerFaultAt}

-- one element, and the end
abbrev pub whole_file : Members (List ℕ)
whole_file = last (element 16 Member)

-- The bytes are an element in BER, and these octets are written for it.
abbrev pub SameContent : List ℕ → List ℕ → Type 0
SameContent bytes der = whole_file.Spells der bytes

-- The first fault of bytes that are no element in BER has this number, and is at the offset.
abbrev pub BerFaultAt : List ℕ → ℕ → ℕ → Type 0
BerFaultAt bytes offset number = whole_file.FaultAt (place_of 0 bytes) (fault_at number offset)

-- These octets are written for the bytes; or this is their first fault; or memory ran out.
abbrev pub ReadsBer : {X : Type 0} → (X → List ℕ) → Result X ObjectFault → List ℕ → Type 0
ReadsBer view (Ok x) bytes = SameContent bytes (view x)
ReadsBer view (Err (At fault)) bytes = BerFaultAt bytes fault.offset (kind_number fault.kind)
ReadsBer view (Err Memory) bytes = ⊤

-- The bytes are a signed object, whose digest and signature hold: what is written for them is one in DER.
pub record IsObject (bytes : List ℕ) (value : ObjectValue) : Type 0 where
  pub der : List ℕ
  pub same : SameContent bytes der
  pub object : IsDerObject der value

-- The bytes are no element in BER, and this is their first fault; or this is the first fault of what is written for them, at an offset in that.
abbrev pub FaultAt : List ℕ → ℕ → ℕ → Type 0
FaultAt bytes offset number = BerFaultAt bytes offset number ⊎ ((der : List ℕ) × SameContent bytes der × DerFaultAt der offset number)

-- The bytes are this object; or this fault is their first; or memory ran out.
abbrev pub ReadsObject : {X : Type 0} → (X → ObjectValue) → Result X ObjectFault → List ℕ → Type 0
ReadsObject view (Ok x) bytes = IsObject bytes (view x)
ReadsObject view (Err (At fault)) bytes = FaultAt bytes fault.offset (kind_number fault.kind)
ReadsObject view (Err Memory) bytes = ⊤

-- This is the object, and whether it was in DER; or memory ran out.
abbrev pub Owns : {X E : Type 0} → (X → ObjectValue) → (X → Bool) → Result X E → ObjectValue → Bool → Type 0
Owns view is_der (Ok x) value was_der = (view x ≡ value) × (is_der x ≡ was_der)
Owns view is_der (Err _) value was_der = ⊤

-- ---- laws

-- No bytes become two.
abbrev pub OneContent : Type 0
OneContent = (bytes der other : List ℕ) → SameContent bytes der → SameContent bytes other → der ≡ other

-- No bytes are two objects.
abbrev pub OneObject : Type 0
OneObject = (bytes : List ℕ) (value other : ObjectValue) → IsObject bytes value → IsObject bytes other → value ≡ other

-- At most one fault fits bytes, and none fits bytes that are an object.
abbrev pub OneFault : Type 0
OneFault =
    ((bytes : List ℕ) (offset other number second : ℕ) → FaultAt bytes offset number → FaultAt bytes other second → (offset ≡ other) × (number ≡ second))
    × ((bytes : List ℕ) (offset number : ℕ) (value : ObjectValue) → FaultAt bytes offset number → IsObject bytes value → ⊥)

-- What is written for an object in DER is the object unchanged.
abbrev pub DerIsKept : Type 0
DerIsKept = (der : List ℕ) (value : ObjectValue) → IsDerObject der value → SameContent der der

-- An object in DER is an object, with the same value.
abbrev pub DerIsObject : Type 0
DerIsObject = (der : List ℕ) (value : ObjectValue) → IsDerObject der value → IsObject der value
