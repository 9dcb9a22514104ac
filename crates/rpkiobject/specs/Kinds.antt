-- Kinds of files that the program knows: which kind a file must hold, and the word for the kind of a content.
use Rattle.std.specs.Prelude.{◌≡◌, ℕ, Bool, true, false, if◌then◌else◌, List, codes, ⊤, Option, Some, None}
use Rattle.file_kinds.specs.declared.kind.FileKind.{FileKind}
use Rattle.file_kinds.specs.declared.kind.FileKind.TheVariants.{Certificate, RevocationList, Roa, Manifest, Ghostbusters, Checklist, Aspa, TrustAnchorKey, PrefixList}

-- The program knows the kind. A file whose name is of another kind may hold any content.
abbrev pub is_known : FileKind → Bool
is_known Certificate = false
is_known RevocationList = false
is_known Roa = true
is_known Manifest = true
is_known Ghostbusters = true
is_known Checklist = true
is_known Aspa = true
is_known TrustAnchorKey = true
is_known PrefixList = false

-- the kind, if the program knows it
abbrev pub known_of : Option FileKind → Option FileKind
known_of None = None
known_of (Some kind) = if is_known kind then Some kind else None

-- The program knows the kind, and the fact holds of it.
abbrev pub Known : (FileKind → Type 0) → FileKind → Type 0
Known Fact kind = (is_known kind ≡ true) × Fact kind

-- A content of this kind fits a file, if it or no kind is wanted there.
abbrev pub Fits : Option FileKind → Option FileKind → Type 0
Fits None kind = ⊤
Fits (Some wanted) kind = kind ≡ Some wanted

-- the word for the kind of a content
abbrev pub word_of : Option FileKind → List ℕ
word_of (Some Roa) = codes "roa"
word_of (Some Manifest) = codes "manifest"
word_of (Some Ghostbusters) = codes "ghostbusters"
word_of (Some Checklist) = codes "checklist"
word_of (Some Aspa) = codes "aspa"
word_of (Some TrustAnchorKey) = codes "trust-anchor-key"
word_of (Some Certificate) = codes "other"
word_of (Some RevocationList) = codes "other"
word_of (Some PrefixList) = codes "other"
word_of None = codes "other"
