-- What the functions that read URIs give.
use Rattle.std.specs.Prelude.{◌≡◌, ℕ, ◌||◌, ◌&&◌, not, List, Option, Result, Ok, Err}
use Rattle.std.specs.Option.{option_or}
use Rattle.der_lite.specs.Place.{Fault}
use Rattle.resource_certificates.specs.declared.fault.CertificateFault.{CertificateFault}
use Rattle.resource_certificates.specs.Faults.{fault_of}
use Rattle.resource_certificates.specs.Places.{GeneralName, first_uri, https, is_uri, Access, own_place, is_method, Accesses, accesses_in}

-- Names were read to the end, of which this is the first rsync URI; or the first fault.
abbrev pub GivesFirst : {X : Type 0} → (X → Option (List ℕ)) → Result X CertificateFault → Result (List GeneralName) Fault → Type 0
GivesFirst view (Ok x) read = (names : List GeneralName) × (read ≡ Ok names) × (view x ≡ first_uri names)
GivesFirst view (Err e) read = read ≡ Err (fault_of e)

-- Descriptions were read to the end, which say this; or the first fault.
abbrev pub GivesAccesses : {X : Type 0} → (X → Accesses) → Result X CertificateFault → Result (List Access) Fault → Type 0
GivesAccesses view (Ok x) read = (accesses : List Access) × (read ≡ Ok accesses) × (view x ≡ accesses_in accesses)
GivesAccesses view (Err e) read = read ≡ Err (fault_of e)

-- one description more
abbrev pub put_access : Accesses → Access → Accesses
put_access found a = record {
  issuer = option_or found.issuer (own_place 2 a);
  repository = option_or found.repository (own_place 5 a);
  manifest = option_or found.manifest (own_place 10 a);
  object = option_or found.object (own_place 11 a);
  other = found.other || not (is_method 11 a || is_method 13 a);
  notify = found.notify || is_method 13 a;
  bad_notify = found.bad_notify || (is_method 13 a && (not (is_uri https a.1) || found.notify));
}
