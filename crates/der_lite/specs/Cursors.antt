-- What a read of a cursor gives.
use Rattle.std.specs.Prelude.{◌≡◌, ℕ, ◌≤◌, List, ◌∷◌, length, Result, Ok, Err, Some, None}
use Rattle.der_lite.specs.declared.fault.DerFaultKind.{DerFaultKind}
use Rattle.der_lite.specs.declared.fault.DerFaultKind.TheVariants.{Truncated, WrongTag, BadLength, BadContent, Trailing}
use Rattle.der_lite.specs.declared.fault.DerFault.{DerFault}
use Rattle.der_lite.specs.declared.head.Head.{Head}
use Rattle.der_lite.specs.declared.content.Bits.{Bits}
use Rattle.der_lite.specs.Place.{Place, Fault, first_of}
use Rattle.der_lite.specs.Der.{length_end, content_end, head_rules}

-- the number of each kind of fault
abbrev pub der_kind_number : DerFaultKind → ℕ
der_kind_number Truncated = 1
der_kind_number WrongTag = 2
der_kind_number BadLength = 3
der_kind_number BadContent = 4
der_kind_number Trailing = 5

-- a fault by its number
abbrev pub der_fault_of : DerFault → Fault
der_fault_of e = record { number = der_kind_number e.kind; offset = e.offset }

-- A read gave what reading at the old place gives, and the cursor is behind it. After a fault it is at the old place.
abbrev pub GivesElement : {X V : Type 0} → (X → V) → Result X DerFault → Place → Place → Result (V × Place) Fault → Type 0
GivesElement view (Ok x) old new read = read ≡ Ok (view x, new)
GivesElement view (Err e) old new read = (read ≡ Err (der_fault_of e)) × (new ≡ old)

-- the places of the content and behind the element, or the first fault
abbrev pub FindsElement : Result (Place × Place) DerFault → Result (Place × Place) Fault → Type 0
FindsElement (Ok found) read = read ≡ Ok found
FindsElement (Err e) read = read ≡ Err (der_fault_of e)

-- the enclosing element ended, or bytes remained
abbrev pub EndsElement : Result (Unit {0}) DerFault → Result (Unit {0}) Fault → Type 0
EndsElement (Ok _) read = read ≡ Ok tt
EndsElement (Err e) read = read ≡ Err (der_fault_of e)

-- the head of an element that is here whole
pub record HeadOf (tag : ℕ) (bytes : List ℕ) (head : Head) : Type 0 where
  pub kept : first_of (head_rules tag bytes) ≡ None
  pub length_is : head.length_end ≡ length_end bytes
  pub content_is : head.content_end ≡ content_end bytes
  pub ordered : head.length_end ≤ head.content_end
  pub within : head.content_end ≤ length bytes

-- the head, or the first fault
abbrev pub Split : Result Head DerFaultKind → ℕ → List ℕ → Type 0
Split (Ok head) tag bytes = HeadOf tag bytes head
Split (Err kind) tag bytes = first_of (head_rules tag bytes) ≡ Some (der_kind_number kind)

-- the content that a bit string has: the count of unused bits, and the bytes
abbrev pub bits_content : Bits → List ℕ
bits_content bits = bits.unused ∷ bits.bytes.now
