-- The kinds of files in a repository: one table of extensions and eContentTypes, and how it is asked.
use Rattle.std.specs.Prelude.{◌≡◌, ◌==◌, ℕ, List, [], ◌∷◌, codes, IsTrue, Option, Some, None}
use Rattle.std.specs.List.{ends_with}
use Rattle.file_kinds.specs.declared.kind.FileKind.{FileKind}
use Rattle.file_kinds.specs.declared.kind.FileKind.TheVariants.{Certificate, RevocationList, Roa, Manifest, Ghostbusters, Checklist, Aspa, TrustAnchorKey, PrefixList}

-- id-ct, 1.2.840.113549.1.9.16.1, and one number below it
abbrev pub id_ct : ℕ → List ℕ
id_ct below = 0x2a ∷ 0x86 ∷ 0x48 ∷ 0x86 ∷ 0xf7 ∷ 0x0d ∷ 0x01 ∷ 0x09 ∷ 0x10 ∷ 0x01 ∷ below ∷ []

-- a row of the table: the extension, without its dot, and the eContentType, if files of the kind are signed objects
pub record Row : Type 0 where
  pub extension : List ℕ
  pub content_type : Option (List ℕ)

abbrev pub row_of : List ℕ → Option (List ℕ) → Row
row_of extension content_type = record { extension = extension; content_type = content_type }

-- The table. The extensions are those of the registry "RPKI Repository Name Schemes" (RFC 6481 section 7). The numbers are those of the
-- registry "SMI Security for S/MIME CMS Content Type".
abbrev pub row : FileKind → Row
row Certificate = row_of (codes "cer") None
row RevocationList = row_of (codes "crl") None
row Roa = row_of (codes "roa") (Some (id_ct 24))
row Manifest = row_of (codes "mft") (Some (id_ct 26))
row Ghostbusters = row_of (codes "gbr") (Some (id_ct 35))
row Checklist = row_of (codes "sig") (Some (id_ct 48))
row Aspa = row_of (codes "asa") (Some (id_ct 49))
row TrustAnchorKey = row_of (codes "tak") (Some (id_ct 50))
row PrefixList = row_of (codes "spl") (Some (id_ct 51))

-- The extension is that of the kind.
abbrev pub HasExtension : List ℕ → FileKind → Type 0
HasExtension extension kind = extension ≡ (row kind).extension

-- The name ends in a dot and the extension of the kind.
abbrev pub HasName : List ℕ → FileKind → Type 0
HasName name kind = IsTrue (ends_with ◌==◌ name (46 ∷ (row kind).extension))

-- Signed objects of the kind have this eContentType.
abbrev pub HasType : List ℕ → FileKind → Type 0
HasType content_type kind = Some content_type ≡ (row kind).content_type

-- This is a kind for which the fact holds; or it holds for none.
abbrev pub IsKindWith : (FileKind → Type 0) → Option FileKind → Type 0
IsKindWith Fact (Some kind) = Fact kind
IsKindWith Fact None = (kind : FileKind) → ¬ (Fact kind)

-- ---- laws

-- Two kinds never have one extension.
abbrev pub OneExtension : Type 0
OneExtension = (kind other : FileKind) (extension : List ℕ) → HasExtension extension kind → HasExtension extension other → kind ≡ other

-- The names of two kinds never are one.
abbrev pub OneName : Type 0
OneName = (kind other : FileKind) (name : List ℕ) → HasName name kind → HasName name other → kind ≡ other

-- Two kinds never have one eContentType.
abbrev pub OneType : Type 0
OneType = (kind other : FileKind) (content_type : List ℕ) → HasType content_type kind → HasType content_type other → kind ≡ other
