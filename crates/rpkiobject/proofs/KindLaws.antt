-- Which kinds the program knows, of those for which a fact holds.
use Rattle.std.proofs.Common.{◌≡◌, true, List, ℕ, Option, Some, None, refl, subst}
use Rattle.file_kinds.specs.declared.kind.FileKind.{FileKind}
use Rattle.file_kinds.specs.declared.kind.FileKind.TheVariants.{Certificate, RevocationList, Roa, Manifest, Ghostbusters, Checklist, Aspa, TrustAnchorKey, PrefixList}
use Rattle.file_kinds.specs.Kinds.{HasExtension, HasName, IsKindWith, OneExtension, OneName}
use Rattle.rpkiobject.specs.Kinds.{is_known, known_of, Known}

module _ (Fact : FileKind → Type 0) (once : (kind other : FileKind) → Fact kind → Fact other → kind ≡ other) where
  -- if the fact holds of a kind that is not known, it holds of none that is
  unknown : (other kind : FileKind) → (is_known other ≡ true → ⊥) → Fact other → Known Fact kind → ⊥
  unknown other kind not_known fact k = not_known (subst (λ (it : FileKind). is_known it ≡ true) (once kind other k.1 fact) k.0)

  known_kind : (found : Option FileKind) → IsKindWith Fact found → IsKindWith (Known Fact) (known_of found)
  known_kind None h = λ kind k. h kind k.1
  known_kind (Some Certificate) h = λ kind k. unknown Certificate kind (λ e. cc) h k
  known_kind (Some RevocationList) h = λ kind k. unknown RevocationList kind (λ e. cc) h k
  known_kind (Some Roa) h = (refl, h)
  known_kind (Some Manifest) h = (refl, h)
  known_kind (Some Ghostbusters) h = (refl, h)
  known_kind (Some Checklist) h = (refl, h)
  known_kind (Some Aspa) h = (refl, h)
  known_kind (Some TrustAnchorKey) h = (refl, h)
  known_kind (Some PrefixList) h = λ kind k. unknown PrefixList kind (λ e. cc) h k

pub known_with_extension : (extension : List ℕ) (found : Option FileKind) → OneExtension → IsKindWith (HasExtension extension) found → IsKindWith (Known (HasExtension extension)) (known_of found)
known_with_extension extension found law h = known_kind (HasExtension extension) (λ kind other a b. law kind other extension a b) found h

pub known_of_file : (name : List ℕ) (found : Option FileKind) → OneName → IsKindWith (HasName name) found → IsKindWith (Known (HasName name)) (known_of found)
known_of_file name found law h = known_kind (HasName name) (λ kind other a b. law kind other name a b) found h
