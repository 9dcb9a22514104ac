-- Which object a certificate is for (RFC 6487 section 4.8.8.2).
use Rattle.std.specs.Prelude.{◌≡◌, ℕ, List, Some}
use Rattle.resource_certificates.specs.Certificates.{Certificate}
use Rattle.resource_certificates.specs.Places.{accesses_of}

-- The certificate of an end entity names this URI as the place of its object. An object is not accepted under another name (RFC 9981 section 4).
abbrev pub IsOfObject : Certificate → List ℕ → Type 0
IsOfObject c uri = (accesses_of c.tbs.found.subject_info).object ≡ Some uri
