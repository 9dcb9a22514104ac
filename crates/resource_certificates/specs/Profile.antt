-- What the extensions of a resource certificate say (RFC 6487 section 4.8). Which resources there are is not judged here.
use Rattle.std.specs.Prelude.{◌≡◌, ℕ, Bool, false, not, ◌&&◌, ◌||◌, ◌==◌, bytes_eq, List, [], ◌∷◌, length, drop, Option, Some, None, is_some, is_none, Result, Ok, Err}
use Rattle.std.specs.Result.{is_ok}
use Rattle.sha1.specs.Sha1.{sha1}
use Rattle.der_lite.specs.Place.{first_of, place_of}
use Rattle.der_lite.specs.Grammar.{KeepsRules}
use Rattle.resource_certificates.specs.declared.role.Role.{Role}
use Rattle.resource_certificates.specs.declared.role.Role.TheVariants.{Anchor, Authority, EndEntity}
use Rattle.resource_certificates.specs.declared.fault.CertificateFault.{CertificateFault}
use Rattle.resource_certificates.specs.declared.fault.CertificateFaultKind.{CertificateFaultKind}
use Rattle.resource_certificates.specs.Faults.{fault_of, kind_number}
use Rattle.resource_certificates.specs.Policies.{policies_all}
use Rattle.resource_certificates.specs.Places.{crl_uri_of, Accesses, accesses_of}
use Rattle.resource_certificates.specs.Directories.{names_file}
use Rattle.resource_certificates.specs.Certificates.{Tbs, Certificate, file}

-- RFC 6487 section 4.8.2: an OCTET STRING of the SHA-1 of the key's bits
abbrev pub subject_value : List ℕ → List ℕ
subject_value bits = 4 ∷ 20 ∷ sha1 bits

-- RFC 6487 section 4.8.3: a SEQUENCE of keyIdentifier [0] alone
abbrev pub key_value : List ℕ → List ℕ
key_value identifier = 48 ∷ 22 ∷ 128 ∷ 20 ∷ identifier

-- that of the SHA-1 of a key's bits
abbrev pub authority_value : List ℕ → List ℕ
authority_value bits = key_value (sha1 bits)

-- the value of a keyIdentifier of 20 octets
abbrev pub is_key_value : List ℕ → Bool
is_key_value value = bytes_eq value (key_value (drop 4 value)) && length (drop 4 value) == 20

-- RFC 6487 section 4.8.1: a SEQUENCE of cA TRUE alone
abbrev pub ca_constraints : List ℕ
ca_constraints = 48 ∷ 3 ∷ 1 ∷ 1 ∷ 255 ∷ []

-- RFC 6487 section 4.8.4: keyCertSign and cRLSign; digitalSignature
abbrev pub usage_of : Role → List ℕ
usage_of Anchor = 3 ∷ 2 ∷ 1 ∷ 6 ∷ []
usage_of Authority = 3 ∷ 2 ∷ 1 ∷ 6 ∷ []
usage_of EndEntity = 3 ∷ 2 ∷ 7 ∷ 128 ∷ []

-- the extension is there, with this value
abbrev pub is_value : Option (List ℕ) → List ℕ → Bool
is_value None wanted = false
is_value (Some value) wanted = bytes_eq value wanted

-- cA TRUE in an authority; no basicConstraints in another
abbrev pub are_constraints : Role → Option (List ℕ) → Bool
are_constraints Anchor found = is_value found ca_constraints
are_constraints Authority found = is_value found ca_constraints
are_constraints EndEntity found = is_none found

-- RFC 5280 section 6.1.4, k and n: cA TRUE, and a key that signs certificates and CRLs
abbrev pub is_authority : Tbs → Bool
is_authority tbs = is_value tbs.found.basic_constraints ca_constraints && is_value tbs.found.key_usage (usage_of Authority)

-- RFC 6487 section 4.8.6: no CRL is named in a trust anchor, and an rsync URI in others
abbrev pub are_points : Role → Option (List ℕ) → Bool
are_points Anchor found = is_none found
are_points Authority found = is_some (crl_uri_of found)
are_points EndEntity found = is_some (crl_uri_of found)

-- RFC 6487 section 4.8.7: no issuer is named in a trust anchor, and an rsync URI in others
abbrev pub are_issuers : Role → Option (List ℕ) → Bool
are_issuers Anchor found = is_none found
are_issuers Authority found = is_some (accesses_of found).issuer
are_issuers EndEntity found = is_some (accesses_of found).issuer

-- RFC 6487 section 4.8.8.1, RFC 8182 section 3.2: an authority names its repository and, in it, its manifest by rsync, and at most one https URI
-- of rpkiNotify
abbrev pub is_authority_info : Accesses → Bool
is_authority_info a = names_file a.repository a.manifest && not a.bad_notify

-- RFC 6487 section 4.8.8.2: an end entity names its object by rsync, and no other method but rpkiNotify
abbrev pub is_object_info : Accesses → Bool
is_object_info a = is_some a.object && not a.other

abbrev pub is_info : Role → Option (List ℕ) → Bool
is_info Anchor found = is_authority_info (accesses_of found)
is_info Authority found = is_authority_info (accesses_of found)
is_info EndEntity found = is_object_info (accesses_of found)

-- a keyIdentifier alone is there
abbrev pub has_key_value : Option (List ℕ) → Bool
has_key_value None = false
has_key_value (Some value) = is_key_value value

-- in a trust anchor absent, or of its own key; in others a keyIdentifier alone
abbrev pub is_authority_key : Role → List ℕ → Option (List ℕ) → Bool
is_authority_key Anchor bits found = is_none found || is_value found (authority_value bits)
is_authority_key Authority bits found = has_key_value found
is_authority_key EndEntity bits found = has_key_value found

-- The extension is there, and is this policy with at most one qualifier, a CPS.
abbrev pub are_policies : ℕ → Option (List ℕ) → Bool
are_policies arc None = false
are_policies arc (Some value) = is_ok (policies_all arc value)

-- what has to hold, in the order in which it is judged
abbrev pub profile_rules : Role → Tbs → List (ℕ × Bool)
profile_rules role tbs =
    (20, not (are_constraints role tbs.found.basic_constraints))
    ∷ (21, not (is_value tbs.found.subject_key (subject_value tbs.key.bits)))
    ∷ (22, not (is_authority_key role tbs.key.bits tbs.found.authority_key))
    ∷ (23, not (is_value tbs.found.key_usage (usage_of role)))
    ∷ (24, not (are_points role tbs.found.distribution_points))
    ∷ (25, not (are_issuers role tbs.found.authority_info))
    ∷ (26, not (is_info role tbs.found.subject_info))
    ∷ (28, are_policies 3 tbs.found.policies)
    ∷ (27, not (are_policies 2 tbs.found.policies))
    ∷ (29, is_none tbs.found.ip_blocks && is_none tbs.found.as_ids)
    ∷ []

-- The bytes are this certificate, in this role.
pub record IsCertificate (role : Role) (bytes : List ℕ) (c : Certificate) : Type 0 where
  pub spelled : file.Spells c bytes
  pub profile : KeepsRules (profile_rules role c.tbs)

-- The profile is kept, or this is the first rule of it that is broken.
abbrev pub Profiled : Option CertificateFaultKind → Role → Tbs → Type 0
Profiled None role tbs = first_of (profile_rules role tbs) ≡ None
Profiled (Some kind) role tbs = first_of (profile_rules role tbs) ≡ Some (kind_number kind)

-- an element is faulty; or all are spelled, and this is the first rule of the profile that is broken, at 0
pub data FaultOf (role : Role) (bytes : List ℕ) (fault : CertificateFault) : Type 0 where
  element : file.FaultAt (place_of 0 bytes) (fault_of fault) → FaultOf role bytes fault
  profile : (c : Certificate) → file.Spells c bytes → first_of (profile_rules role c.tbs) ≡ Some (kind_number fault.kind) → fault.offset ≡ 0 → FaultOf role bytes fault

-- The bytes are this certificate in this role, or this is their first fault.
abbrev pub ReadsCertificate : {X : Type 0} → (X → Certificate) → Role → Result X CertificateFault → List ℕ → Type 0
ReadsCertificate view role (Ok x) bytes = IsCertificate role bytes (view x)
ReadsCertificate view role (Err e) bytes = FaultOf role bytes e
