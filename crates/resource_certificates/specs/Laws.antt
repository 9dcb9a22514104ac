-- What holds of certificates and CRLs.
use Rattle.std.specs.Prelude.{◌≡◌, ◌⊎◌, ◌↔◌, ℕ, true, List, Option, Ok}
use Rattle.std.specs.Result.{is_ok}
use Rattle.der_lite.specs.Place.{Fault, place_of}
use Rattle.der_lite.specs.Der.{IsBytes}
use Rattle.resource_certificates.specs.Certificates.{file}
use Rattle.resource_certificates.specs.Crls.{crl_file, crl_number, crl_number_all}
use Rattle.resource_certificates.specs.Policies.{policies_value, policies_all}
use Rattle.resource_certificates.specs.Places.{distribution_points, points_all, Accesses, access_list, accesses_all}
use Rattle.der_lite.specs.Grammar.{Members, last}

-- Bytes are one value, or have one fault, and never both.
pub record IsOneOrFaulty {V : Type 0} (m : Members V) : Type 0 where
  pub one_value : (bytes : List ℕ) (v w : V) → m.Spells v bytes → m.Spells w bytes → v ≡ w
  pub one_fault : (bytes : List ℕ) (f g : Fault) → m.FaultAt (place_of 0 bytes) f → m.FaultAt (place_of 0 bytes) g → f ≡ g
  pub apart : (bytes : List ℕ) (v : V) (f : Fault) → m.Spells v bytes → m.FaultAt (place_of 0 bytes) f → ⊥
  pub either : (bytes : List ℕ) → IsBytes bytes → ((v : V) × m.Spells v bytes) ⊎ ((f : Fault) × m.FaultAt (place_of 0 bytes) f)

abbrev pub OneCertificate : Type 0
OneCertificate = IsOneOrFaulty file

abbrev pub OneCrl : Type 0
OneCrl = IsOneOrFaulty crl_file

-- What is judged of certificatePolicies and of cRLNumber is that octets spell them. What is read of URIs is what octets spell.
abbrev pub SpelledValues : Type 0
SpelledValues =
    ((value : List ℕ) (arc : ℕ) → IsBytes value → (is_ok (policies_all arc value) ≡ true) ↔ ((uri : Option (List ℕ)) × (policies_value arc).Spells uri value))
    × ((value : List ℕ) → IsBytes value → (is_ok (crl_number_all value) ≡ true) ↔ ((content : List ℕ) × (last crl_number).Spells content value))
    × ((value : List ℕ) (uri : Option (List ℕ)) → IsBytes value → (points_all value ≡ Ok uri) ↔ (last distribution_points).Spells uri value)
    × ((value : List ℕ) (accesses : Accesses) → IsBytes value → (accesses_all value ≡ Ok accesses) ↔ (last access_list).Spells accesses value)
