-- The laws of certificates and CRLs.
use Rattle.der_lite.specs.Place.{place_of}
use Rattle.der_lite.specs.Fields.{last_at}
use Rattle.der_lite.specs.Grammar.{Members}
use Rattle.der_lite.specs.Decoding.{ReadAll}
use Rattle.der_lite.proofs.Exact.{ExactMembers}
use Rattle.der_lite.proofs.GrammarLaws as laws
use Rattle.resource_certificates.specs.Certificates as c
use Rattle.resource_certificates.specs.Crls as l
use Rattle.resource_certificates.specs.Reading as r
use Rattle.resource_certificates.specs.CrlReading as s
use Rattle.resource_certificates.specs.Laws.{IsOneOrFaulty, OneCertificate, OneCrl}
use Rattle.resource_certificates.proofs.Exact.{exact_file}
use Rattle.resource_certificates.proofs.ExactCrls.{exact_crl_file}

one_or_faulty : {V : Type 0} (m : Members V) (read : ReadAll V) → ExactMembers m read → IsOneOrFaulty m
one_or_faulty m read exact = record {
  one_value = λ bytes v w a b. laws.one_value m read exact (place_of 0 bytes) v w a b;
  one_fault = λ bytes f g a b. laws.one_fault m read exact (place_of 0 bytes) f g a b;
  apart = λ bytes v f a b. laws.apart m read exact (place_of 0 bytes) v f a b;
  either = λ bytes are. laws.either m read exact (place_of 0 bytes) are;
}

pub certificate_law : OneCertificate
certificate_law = one_or_faulty c.file (last_at r.certificate_at) exact_file

pub crl_law : OneCrl
crl_law = one_or_faulty l.crl_file (last_at s.crl_at) exact_crl_file
