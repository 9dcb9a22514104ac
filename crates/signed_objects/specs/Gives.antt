-- What the functions that read give.
use Rattle.std.specs.Prelude.{◌≡◌, ℕ, List, Option, Result, Ok, Err}
use Rattle.der_lite.specs.Place.{Place, Fault}
use Rattle.signed_objects.specs.declared.fault.CmsFault.{CmsFault}
use Rattle.signed_objects.specs.Faults.{cms_fault_of}
use Rattle.signed_objects.specs.Attributes.{Attribute}
use Rattle.signed_objects.specs.Certificates.{Extension, identifier_in}
use Rattle.signed_objects.specs.Reading.{Found, found_in}

-- What was read and the cursor's new place, or the first fault.
abbrev pub GivesNext : {X V : Type 0} → (X → V) → Result X CmsFault → Place → Result (V × Place) Fault → Type 0
GivesNext view (Ok x) new read = read ≡ Ok (view x, new)
GivesNext view (Err e) new read = read ≡ Err (cms_fault_of e)

-- What was read to the end, or the first fault.
abbrev pub GivesAll : {X V : Type 0} → (X → V) → Result X CmsFault → Result V Fault → Type 0
GivesAll view (Ok x) read = read ≡ Ok (view x)
GivesAll view (Err e) read = read ≡ Err (cms_fault_of e)

-- Attributes were read to the end, of which these values were found; or the first fault.
abbrev pub GivesFound : {X : Type 0} → (X → Found) → Result X CmsFault → Result (List Attribute) Fault → Type 0
GivesFound view (Ok x) read = (attributes : List Attribute) × (read ≡ Ok attributes) × (view x ≡ found_in attributes)
GivesFound view (Err e) read = read ≡ Err (cms_fault_of e)

-- Extensions were read to the end, among which this identifier of the key was found, if any; or the first fault.
abbrev pub GivesIdentifier : {X : Type 0} → (X → Option (List ℕ)) → Result X CmsFault → Result (List Extension) Fault → Type 0
GivesIdentifier view (Ok x) read = (extensions : List Extension) × (read ≡ Ok extensions) × (view x ≡ identifier_in extensions)
GivesIdentifier view (Err e) read = read ≡ Err (cms_fault_of e)
