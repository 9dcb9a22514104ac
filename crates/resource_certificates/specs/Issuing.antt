-- Which authority issued a certificate or a CRL, by its name and its key (RFC 6487 section 7.2, RFC 5280 section 6.1.3).
use Rattle.std.specs.Prelude.{◌≡◌, Some}
use Rattle.resource_certificates.specs.Certificates.{Tbs}
use Rattle.resource_certificates.specs.Crls.{TbsCrl}
use Rattle.resource_certificates.specs.Profile.{authority_value}

-- The issuer's name has the characters of the authority's subject, and authorityKeyIdentifier is the SHA-1 of the authority's key.
pub record IsIssuedBy (tbs authority : Tbs) : Type 0 where
  pub name : tbs.issuer ≡ authority.subject
  pub key : tbs.found.authority_key ≡ Some (authority_value authority.key.bits)

-- the same of a CRL (RFC 5280 section 6.3.3)
pub record IsCrlOf (tbs : TbsCrl) (authority : Tbs) : Type 0 where
  pub name : tbs.issuer ≡ authority.subject
  pub key : tbs.found.authority_key ≡ authority_value authority.key.bits
