use Rattle.std.proofs.Common.{◌≡◌, eqb, false, List, ℕ, []}
use Rattle.std.specs.List.{ends_with}
use Rattle.std.specs.Prelude.{codes}
use Rattle.file_kinds.specs.declared.kind.FileKind.{FileKind}
use Rattle.file_kinds.specs.declared.kind.FileKind.TheVariants.{Certificate, RevocationList, Roa, Manifest, Ghostbusters, Checklist, Aspa, TrustAnchorKey, PrefixList}
use Rattle.file_kinds.specs.Kinds.{HasName}
use Rattle.file_kinds.proofs.kind.FileKind.of_file.Goals as goal

-- A name that ends in none of these is of no kind.
no_kind :
    (name : List ℕ) (kind : FileKind)
    → ends_with eqb name (codes ".cer") ≡ false → ends_with eqb name (codes ".crl") ≡ false → ends_with eqb name (codes ".roa") ≡ false
    → ends_with eqb name (codes ".mft") ≡ false → ends_with eqb name (codes ".gbr") ≡ false → ends_with eqb name (codes ".sig") ≡ false
    → ends_with eqb name (codes ".asa") ≡ false → ends_with eqb name (codes ".tak") ≡ false → ends_with eqb name (codes ".spl") ≡ false
    → HasName name kind → ⊥
no_kind name Certificate a b c d e f g h i is = cc
no_kind name RevocationList a b c d e f g h i is = cc
no_kind name Roa a b c d e f g h i is = cc
no_kind name Manifest a b c d e f g h i is = cc
no_kind name Ghostbusters a b c d e f g h i is = cc
no_kind name Checklist a b c d e f g h i is = cc
no_kind name Aspa a b c d e f g h i is = cc
no_kind name TrustAnchorKey a b c d e f g h i is = cc
no_kind name PrefixList a b c d e f g h i is = cc

pub returns-else-ends_with-9 : goal.returns-else-ends_with-9
returns-else-ends_with-9 c kind =
    no_kind c.args.name.now kind (cc) (cc) (cc) (cc) (cc) (cc) (cc) (cc) (cc)
