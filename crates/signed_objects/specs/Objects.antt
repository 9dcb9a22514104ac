-- Signed objects in DER: the grammar, and what digest and signature say (RFC 6488 section 3, RFC 5652 section 5.6).
use Rattle.std.specs.Prelude.{◌≡◌, ◌⊎◌, ℕ, List, Option, Some, None, Result, Ok, Err}
use Rattle.sha2.specs.Sha256.{sha256}
use Rattle.der_lite.specs.Place.{place_of}
use Rattle.der_lite.specs.Der.{tlv}
use Rattle.rsa_sha256.specs.Rsa.{IsModulus, IsSignature}
use Rattle.signed_objects.specs.declared.fault.CmsFaultKind.{CmsFaultKind}
use Rattle.signed_objects.specs.declared.fault.ObjectFault.{ObjectFault}
use Rattle.signed_objects.specs.declared.fault.ObjectFault.TheVariants.{At, Memory}
use Rattle.der_forms.specs.Combinators.{fault_at}
use Rattle.signed_objects.specs.Attributes.{SET}
use Rattle.signed_objects.specs.Cms.{ObjectParts, object}
use Rattle.signed_objects.specs.Faults.{kind_number}

-- The signer is the key of the certificate (RFC 6488 section 3, 1.c).
abbrev pub HasSigner : ObjectParts → Type 0
HasSigner o = o.signer.identifier ≡ o.key.identifier

-- The content-type attribute is the type of the content (RFC 6488 section 2.1.6.4.1).
abbrev pub HasType : ObjectParts → Type 0
HasType o = o.signer.said.content_type ≡ o.content_type

-- The message-digest attribute is the digest of the content (RFC 5652 section 5.4).
abbrev pub HasDigest : ObjectParts → Type 0
HasDigest o = o.signer.said.message_digest ≡ sha256 o.content

-- what the key signs: the attributes under the tag of a SET (RFC 5652 section 5.4)
abbrev pub to_be_signed : List ℕ → List ℕ
to_be_signed attributes = tlv SET attributes

-- The signature holds under the key of the certificate (RFC 5652 section 5.6).
abbrev pub HasSignature : ObjectParts → Type 0
HasSignature o = IsSignature o.key.modulus (to_be_signed o.signer.octets) o.signer.signature

-- The object is what its signer says.
pub record Holds (o : ObjectParts) : Type 0 where
  pub signer : HasSigner o
  pub type : HasType o
  pub digest : HasDigest o
  pub modulus : IsModulus o.key.modulus
  pub signature : HasSignature o

-- The first of what the attributes say that does not hold has this number.
abbrev pub Disagrees : ObjectParts → ℕ → Type 0
Disagrees o number =
    (¬ (HasSigner o) × (number ≡ 31)) ⊎ (HasSigner o × ¬ (HasType o) × (number ≡ 32)) ⊎ (HasSigner o × HasType o × ¬ (HasDigest o) × (number ≡ 33))

-- The key and the signature follow.
abbrev pub Fails : ObjectParts → ℕ → Type 0
Fails o number =
    Disagrees o number
    ⊎ (HasSigner o × HasType o × HasDigest o × ¬ (IsModulus o.key.modulus) × (number ≡ 34))
    ⊎ (HasSigner o × HasType o × HasDigest o × IsModulus o.key.modulus × ¬ (HasSignature o) × (number ≡ 35))

-- a signed object, as a caller sees it: the certificate is the octets of its element
pub record ObjectValue : Type 0 where
  pub content_type : List ℕ
  pub content : List ℕ
  pub certificate : List ℕ
  pub key_identifier : List ℕ

-- what a caller sees of an object's parts
abbrev pub value_of_parts : ObjectParts → ObjectValue
value_of_parts o = record { content_type = o.content_type; content = o.content; certificate = o.certificate; key_identifier = o.signer.identifier }

-- The bytes are a signed object in DER, whose digest and signature hold.
pub record IsDerObject (der : List ℕ) (value : ObjectValue) : Type 0 where
  pub parts : ObjectParts
  pub spelled : object.Spells parts der
  pub holds : Holds parts
  pub is : value ≡ value_of_parts parts

-- What is at the offset fails with this number, and all that is judged before it holds. The elements are judged from the first to the last,
-- and then the object as a whole.
abbrev pub DerFaultAt : List ℕ → ℕ → ℕ → Type 0
DerFaultAt der offset number =
    object.FaultAt (place_of 0 der) (fault_at number offset)
    ⊎ ((parts : ObjectParts) × object.Spells parts der × Fails parts number × (offset ≡ 0))

-- The attributes say what is so; or this is the first that is not.
abbrev pub Says : Option CmsFaultKind → ObjectParts → Type 0
Says None o = HasSigner o × HasType o × HasDigest o
Says (Some kind) o = Disagrees o (kind_number kind)

-- All that is judged before the signature holds.
abbrev pub HoldsBefore : ObjectParts → Type 0
HoldsBefore o = HasSigner o × HasType o × HasDigest o × IsModulus o.key.modulus

-- The object is what its signer says; or this is the first that is not; or memory ran out before the signature was verified.
abbrev pub Judges : Result (Unit {0}) ObjectFault → ObjectParts → Type 0
Judges (Ok _) o = Holds o
Judges (Err (At fault)) o = Fails o (kind_number fault.kind) × (fault.offset ≡ 0)
Judges (Err Memory) o = HoldsBefore o

-- The bytes are this object in DER; or this fault is their first; or memory ran out before the signature was verified, and all else holds.
abbrev pub ReadsDer : {X : Type 0} → (X → ObjectValue) → Result X ObjectFault → List ℕ → Type 0
ReadsDer view (Ok x) der = IsDerObject der (view x)
ReadsDer view (Err (At fault)) der = DerFaultAt der fault.offset (kind_number fault.kind)
ReadsDer view (Err Memory) der = (parts : ObjectParts) × object.Spells parts der × HoldsBefore parts
