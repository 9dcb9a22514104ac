-- The names of files, looked up among many.
use Rattle.std.specs.Prelude.{◌≡◌, ℕ, List}
use Rattle.std.specs.Borrow.{Bor}
use Rattle.std.specs.Ordering.{nat_cmp}
use Rattle.std.specs.Cmp.Lexicographic.{slice_cmp}
use Rattle.std.specs.declared.cmp.Ordering.{Ordering}
use Rattle.std.specs.BTreeSet.{BTreeSet, contains}
use Rattle.payloads.specs.Manifest.{ListedFile, is_listed}

-- the order of texts
abbrev pub name_cmp : Bor (List ℕ) → Bor (List ℕ) → Ordering
name_cmp a b = slice_cmp nat_cmp a.now b.now

-- the set has the names of these files and no others
abbrev pub AreNames : BTreeSet (Bor (List ℕ)) → List ListedFile → Type 0
AreNames names files = (name : Bor (List ℕ)) → contains name_cmp names name ≡ is_listed name.now files
