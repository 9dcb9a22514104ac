-- Faults by their numbers.
use Rattle.std.specs.Prelude.{ℕ}
use Rattle.der_lite.specs.Place.{Fault}
use Rattle.der_lite.specs.Cursors.{der_kind_number as element_number}
use Rattle.signed_objects.specs.declared.fault.CmsFaultKind.{CmsFaultKind}
use Rattle.signed_objects.specs.declared.fault.CmsFaultKind.TheVariants.{Element, NoSignedData, Version, DigestAlgorithms, DigestAlgorithm, NoContent, Certificates, CertificateVersion, KeyAlgorithm, PublicKey, NoExtensions, KeyIdentifierTwice, NoKeyIdentifier, Crls, SignerInfos, SignerVersion, SignerIdentifier, NoSignedAttributes, UnknownAttribute, AttributeTwice, AttributeValues, SigningTime, NoContentType, NoMessageDigest, SignatureAlgorithm, UnsignedAttributes, OtherSigner, OtherContentType, OtherDigest, Modulus, Signature, LongTag, EndOfContents, Piece, LongLength, PrimitiveIndefinite, DerIndefinite, LongContent, TooDeep}
use Rattle.signed_objects.specs.declared.fault.CmsFault.{CmsFault}

-- the number of each kind of fault
abbrev pub kind_number : CmsFaultKind → ℕ
kind_number (Element kind) = element_number kind
kind_number NoSignedData = 6
kind_number Version = 7
kind_number DigestAlgorithms = 8
kind_number DigestAlgorithm = 9
kind_number NoContent = 10
kind_number Certificates = 11
kind_number CertificateVersion = 12
kind_number KeyAlgorithm = 13
kind_number PublicKey = 14
kind_number NoExtensions = 15
kind_number KeyIdentifierTwice = 16
kind_number NoKeyIdentifier = 17
kind_number Crls = 18
kind_number SignerInfos = 19
kind_number SignerVersion = 20
kind_number SignerIdentifier = 21
kind_number NoSignedAttributes = 22
kind_number UnknownAttribute = 23
kind_number AttributeTwice = 24
kind_number AttributeValues = 25
kind_number SigningTime = 26
kind_number NoContentType = 27
kind_number NoMessageDigest = 28
kind_number SignatureAlgorithm = 29
kind_number UnsignedAttributes = 30
kind_number OtherSigner = 31
kind_number OtherContentType = 32
kind_number OtherDigest = 33
kind_number Modulus = 34
kind_number Signature = 35
kind_number LongTag = 36
kind_number EndOfContents = 37
kind_number Piece = 38
kind_number LongLength = 39
kind_number PrimitiveIndefinite = 40
kind_number DerIndefinite = 41
kind_number LongContent = 42
kind_number TooDeep = 43

-- a fault by its number
abbrev pub cms_fault_of : CmsFault → Fault
cms_fault_of fault = record { number = kind_number fault.kind; offset = fault.offset }
