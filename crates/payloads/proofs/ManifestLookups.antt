-- Names that are looked up among many.
use Rattle.std.proofs.Common.{◌≡◌, ℕ, Bool, true, false, cond, ◌||◌, bytes_eq, List, [], ◌∷◌, ◌++◌, refl, sym, ap, ◌∙◌}
use Rattle.std.specs.Borrow.{Bor}
use Rattle.std.specs.Ordering.{is_eq, nat_cmp}
use Rattle.std.specs.Cmp.Lexicographic.{slice_cmp}
use Rattle.std.specs.BTreeSet.{BTreeSet, contains}
use Rattle.std.proofs.lemmas.List.Folds.{list_any-append}
use Rattle.std.proofs.lemmas.Map.Text.{is_eq-slice_cmp}
use Rattle.payloads.specs.Manifest.{ListedFile, is_listed}
use Rattle.payloads.specs.ManifestNames.{name_cmp, AreNames}

-- the last of three tests
last_or : (a b : Bool) → (a || (b || false)) ≡ cond b true a
last_or true true = refl
last_or true false = refl
last_or false true = refl
last_or false false = refl

-- a name among one file more
pub listed_on : (name : List ℕ) (files : List ListedFile) (file : ListedFile) → is_listed name (files ++ file ∷ []) ≡ cond (bytes_eq file.name name) true (is_listed name files)
listed_on name files file =
    list_any-append (λ (f : ListedFile). bytes_eq f.name name) files (file ∷ []) ∙ last_or (is_listed name files) (bytes_eq file.name name)

-- the set has one name more
pub names_on : (old new : BTreeSet (Bor (List ℕ))) (key : List ℕ) (files : List ListedFile) (file : ListedFile)
    → ((name : Bor (List ℕ)) → contains name_cmp new name ≡ cond (is_eq (slice_cmp nat_cmp key name.now)) true (contains name_cmp old name))
    → file.name ≡ key → AreNames old files → AreNames new (files ++ file ∷ [])
names_on old new key files file updated same h name =
    updated name ∙ ap (λ (b : Bool). cond b true (contains name_cmp old name)) (is_eq-slice_cmp key name.now ∙ ap (λ (l : List ℕ). bytes_eq l name.now) (sym same))
    ∙ ap (λ (b : Bool). cond (bytes_eq file.name name.now) true b) (h name) ∙ sym (listed_on name.now files file)
