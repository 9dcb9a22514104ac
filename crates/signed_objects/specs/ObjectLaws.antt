-- What holds of signed objects in DER.
use Rattle.std.specs.Prelude.{◌≡◌, ℕ, List}
use Rattle.signed_objects.specs.Objects.{ObjectValue, IsDerObject, DerFaultAt}

-- At most one fault fits bytes, and none fits bytes that are an object.
abbrev pub OneDerFault : Type 0
OneDerFault =
    ((der : List ℕ) (offset other number second : ℕ) → DerFaultAt der offset number → DerFaultAt der other second → (offset ≡ other) × (number ≡ second))
    × ((der : List ℕ) (offset number : ℕ) (value : ObjectValue) → DerFaultAt der offset number → IsDerObject der value → ⊥)

-- No bytes are two objects.
abbrev pub OneDerObject : Type 0
OneDerObject = (der : List ℕ) (value other : ObjectValue) → IsDerObject der value → IsDerObject der other → value ≡ other
