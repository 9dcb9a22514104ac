-- Kinds of files, worked out.
use Rattle.std.specs.Prelude.{◌≡◌, ◌==◌, false, [], ◌∷◌, codes, None, refl}
use Rattle.std.specs.List.{ends_with}
use Rattle.file_kinds.specs.declared.kind.FileKind.TheVariants.{Certificate, RevocationList, Roa, Manifest, Ghostbusters, Checklist, Aspa, TrustAnchorKey, PrefixList}
use Rattle.file_kinds.specs.Kinds.{row, HasExtension, HasName, HasType}

-- ---- the registry "RPKI Repository Name Schemes"

-- RFC 6481 section 7
a_certificate : HasExtension (codes "cer") Certificate
a_certificate = refl

a_revocation_list : HasExtension (codes "crl") RevocationList
a_revocation_list = refl

a_roa : HasExtension (codes "roa") Roa
a_roa = refl

a_manifest : HasExtension (codes "mft") Manifest
a_manifest = refl

-- RFC 6493
a_record : HasExtension (codes "gbr") Ghostbusters
a_record = refl

-- RFC 9323
a_checklist : HasExtension (codes "sig") Checklist
a_checklist = refl

-- RFC 9691
a_key : HasExtension (codes "tak") TrustAnchorKey
a_key = refl

-- providers of an autonomous system, and its prefixes
an_aspa : HasExtension (codes "asa") Aspa
an_aspa = refl

a_prefix_list : HasExtension (codes "spl") PrefixList
a_prefix_list = refl

-- names in a repository
a_manifest_s_name : HasName (codes "rpki.example/ca/b.mft") Manifest
a_manifest_s_name = refl

with_two_dots : HasName (codes "a.cer.roa") Roa
with_two_dots = refl

-- an extension has small letters, and a dot in front of it
in_capitals : ends_with ◌==◌ (codes "A.ROA") (46 ∷ (row Roa).extension) ≡ false
in_capitals = refl

without_a_dot : ends_with ◌==◌ (codes "roa") (46 ∷ (row Roa).extension) ≡ false
without_a_dot = refl

-- ---- the registry "SMI Security for S/MIME CMS Content Type": below 1.2.840.113549.1.9.16.1

-- RFC 9582 section 3: id-ct-routeOriginAuthz is 24
roas : HasType (0x2a ∷ 0x86 ∷ 0x48 ∷ 0x86 ∷ 0xf7 ∷ 0x0d ∷ 0x01 ∷ 0x09 ∷ 0x10 ∷ 0x01 ∷ 0x18 ∷ []) Roa
roas = refl

-- RFC 9286 section 4.1: id-ct-rpkiManifest is 26
manifests : HasType (0x2a ∷ 0x86 ∷ 0x48 ∷ 0x86 ∷ 0xf7 ∷ 0x0d ∷ 0x01 ∷ 0x09 ∷ 0x10 ∷ 0x01 ∷ 0x1a ∷ []) Manifest
manifests = refl

-- RFC 6493: id-ct-rpkiGhostbusters is 35
records : HasType (0x2a ∷ 0x86 ∷ 0x48 ∷ 0x86 ∷ 0xf7 ∷ 0x0d ∷ 0x01 ∷ 0x09 ∷ 0x10 ∷ 0x01 ∷ 0x23 ∷ []) Ghostbusters
records = refl

-- RFC 9323: id-ct-signedChecklist is 48
checklists : HasType (0x2a ∷ 0x86 ∷ 0x48 ∷ 0x86 ∷ 0xf7 ∷ 0x0d ∷ 0x01 ∷ 0x09 ∷ 0x10 ∷ 0x01 ∷ 0x30 ∷ []) Checklist
checklists = refl

-- id-ct-ASPA is 49
aspas : HasType (0x2a ∷ 0x86 ∷ 0x48 ∷ 0x86 ∷ 0xf7 ∷ 0x0d ∷ 0x01 ∷ 0x09 ∷ 0x10 ∷ 0x01 ∷ 0x31 ∷ []) Aspa
aspas = refl

-- RFC 9691: id-ct-signedTAL is 50
keys : HasType (0x2a ∷ 0x86 ∷ 0x48 ∷ 0x86 ∷ 0xf7 ∷ 0x0d ∷ 0x01 ∷ 0x09 ∷ 0x10 ∷ 0x01 ∷ 0x32 ∷ []) TrustAnchorKey
keys = refl

-- id-ct-rpkiSignedPrefixList is 51
prefix_lists : HasType (0x2a ∷ 0x86 ∷ 0x48 ∷ 0x86 ∷ 0xf7 ∷ 0x0d ∷ 0x01 ∷ 0x09 ∷ 0x10 ∷ 0x01 ∷ 0x33 ∷ []) PrefixList
prefix_lists = refl

-- certificates and revocation lists are no signed objects
of_a_certificate : (row Certificate).content_type ≡ None
of_a_certificate = refl

of_a_revocation_list : (row RevocationList).content_type ≡ None
of_a_revocation_list = refl
