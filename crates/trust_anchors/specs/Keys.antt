-- The key of a locator (RFC 8630 section 2.2, RFC 7935 section 3).
use Rattle.std.specs.Prelude.{◌≡◌, ◌≢◌, ℕ, ◌≤◌, List, [], ◌∷◌, ◌++◌, length, slice_index, Result, Ok, Err}
use Rattle.base64.specs.Engines.{standard}
use Rattle.base64.specs.GeneralPurpose.{IsBytes, encode_of}
use Rattle.trust_anchors.specs.declared.fault.TalFault.{TalFault}
use Rattle.trust_anchors.specs.declared.fault.TalFault.TheVariants.{At, Memory}
use Rattle.trust_anchors.specs.declared.fault.TalFaultKind.TheVariants.{NoBreak, NoUri, Uri, Base64, Key}

-- base64 (RFC 4648 section 4)
abbrev pub base64 : List ℕ → List ℕ
base64 octets = encode_of standard octets

-- SubjectPublicKeyInfo in front of a modulus of 256 octets: rsaEncryption with NULL, a bit string, and in it RSAPublicKey, whose modulus has a
-- zero in front
abbrev pub key_head : List ℕ
key_head =
    0x30 ∷ 0x82 ∷ 0x01 ∷ 0x22
    ∷ 0x30 ∷ 0x0d ∷ 0x06 ∷ 0x09 ∷ 0x2a ∷ 0x86 ∷ 0x48 ∷ 0x86 ∷ 0xf7 ∷ 0x0d ∷ 0x01 ∷ 0x01 ∷ 0x01 ∷ 0x05 ∷ 0x00
    ∷ 0x03 ∷ 0x82 ∷ 0x01 ∷ 0x0f ∷ 0x00
    ∷ 0x30 ∷ 0x82 ∷ 0x01 ∷ 0x0a ∷ 0x02 ∷ 0x82 ∷ 0x01 ∷ 0x01 ∷ 0x00 ∷ []

-- what follows the modulus: the exponent 65537
abbrev pub key_tail : List ℕ
key_tail = 0x02 ∷ 0x03 ∷ 0x01 ∷ 0x00 ∷ 0x01 ∷ []

-- The octets are the subjectPublicKeyInfo of RSA with this modulus, of 2,048 bits, and with the exponent 65537 (RFC 7935 section 3). In DER there is
-- one spelling.
pub record IsKeyInfo (modulus octets : List ℕ) : Type 0 where
  pub spelled : octets ≡ key_head ++ (modulus ++ key_tail)
  pub sized : length modulus ≡ 256
  pub top_bit : 128 ≤ slice_index modulus 0

-- the base64 of no octets
abbrev pub IsNoBase64 : List ℕ → Type 0
IsNoBase64 text = (octets : List ℕ) → IsBytes octets → text ≢ base64 octets

-- The text is the base64 of octets that are this key.
pub record IsKeyText (modulus text : List ℕ) : Type 0 where
  pub octets : List ℕ
  pub bytes : IsBytes octets
  pub encoded : text ≡ base64 octets
  pub key : IsKeyInfo modulus octets

-- The text is the base64 of octets that are not a key.
pub record IsNoKeyText (text : List ℕ) : Type 0 where
  pub octets : List ℕ
  pub bytes : IsBytes octets
  pub encoded : text ≡ base64 octets
  pub no_key : (modulus : List ℕ) → ¬ (IsKeyInfo modulus octets)

-- The text is a key's base64, or is not, at this line; or memory ran out.
abbrev pub ReadsKey : {X : Type 0} → (X → List ℕ) → ℕ → List ℕ → Result X TalFault → Type 0
ReadsKey view line text (Ok modulus) = IsKeyText (view modulus) text
ReadsKey view line text (Err (At Base64 at)) = (at ≡ line) × IsNoBase64 text
ReadsKey view line text (Err (At Key at)) = (at ≡ line) × IsNoKeyText text
ReadsKey view line text (Err (At NoBreak at)) = ⊥
ReadsKey view line text (Err (At NoUri at)) = ⊥
ReadsKey view line text (Err (At Uri at)) = ⊥
ReadsKey view line text (Err Memory) = Unit {0}

-- The text is the base64 of these octets, or of none, at this line; or memory ran out.
abbrev pub Decodes : {X : Type 0} → (X → List ℕ) → ℕ → List ℕ → Result X TalFault → Type 0
Decodes view line text (Ok octets) = (text ≡ base64 (view octets)) × IsBytes (view octets)
Decodes view line text (Err (At Base64 at)) = (at ≡ line) × IsNoBase64 text
Decodes view line text (Err (At Key at)) = ⊥
Decodes view line text (Err (At NoBreak at)) = ⊥
Decodes view line text (Err (At NoUri at)) = ⊥
Decodes view line text (Err (At Uri at)) = ⊥
Decodes view line text (Err Memory) = Unit {0}
