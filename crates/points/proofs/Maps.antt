-- Files looked up in a map by their names.
use Rattle.std.proofs.Common.{◌≡◌, ℕ, suc, ◌+◌, ◌<◌, Bool, true, false, ◌||◌, cond, get_or, take, drop, bytes_eq, List, [], ◌∷◌, ◌++◌, length, Option, Some, None, is_some, option_map, Bor, refl, sym, ap, ◌∙◌, arith}
use Rattle.std.specs.Ordering.{nat_cmp}
use Rattle.std.specs.Cmp.Lexicographic.{slice_cmp}
use Rattle.std.specs.BTreeMap.{BTreeMap, get_by}
use Rattle.std.specs.Map.{update}
use Rattle.std.proofs.lemmas.Bool.{or_parts}
use Rattle.std.proofs.lemmas.List.{drop_more, take_more}
use Rattle.std.proofs.lemmas.Slice.Eq.{bytes_eq-Decides}
use Rattle.points.specs.declared.file.FileIn.{FileIn}
use Rattle.points.specs.Files.{is_named, file_named}
use Rattle.points.specs.Finding.{AreFiles}
use Rattle.points.specs.Offers.{OfferJudgement, FileTwice, first_that_holds, twice_tests}
use Rattle.points.proofs.Named.{differs, not_equal}

some_or : (g : FileIn) (b : Bool) (later : Option FileIn) (any : Bool) → is_some later ≡ any → is_some (cond b (Some g) later) ≡ (b || any)
some_or g true later any e = refl
some_or g false later any e = e

-- a file is found if one has the name
pub some_named : (name : List ℕ) (files : List FileIn) → is_some (file_named name files) ≡ is_named name files
some_named name [] = refl
some_named name (g ∷ files) = some_or g (bytes_eq g.name.now name) (file_named name files) (is_named name files) (some_named name files)

one_more : (name : List ℕ) (g file : FileIn) (b : Bool) (before after : Option FileIn) → after ≡ cond (bytes_eq file.name.now name) (Some file) before
    → (b ≡ true → bytes_eq file.name.now name ≡ false) → cond b (Some g) after ≡ cond (bytes_eq file.name.now name) (Some file) (cond b (Some g) before)
one_more name g file true before after e other = rw (other refl) refl
one_more name g file false before after e other = e

-- the first of this name among files and one more, which has a name of its own
pub file_named_more : (name : List ℕ) (files : List FileIn) (file : FileIn) → is_named file.name.now files ≡ false
    → file_named name (files ++ file ∷ []) ≡ cond (bytes_eq file.name.now name) (Some file) (file_named name files)
file_named_more name [] file h = refl
file_named_more name (g ∷ files) file h =
    let parts = or_parts (bytes_eq g.name.now file.name.now) (is_named file.name.now files) h in
    one_more name g file (bytes_eq g.name.now name) (file_named name files) (file_named name (files ++ file ∷ [])) (file_named_more name files file parts.1)
    (λ t. not_equal file.name.now name (λ e. differs g.name.now file.name.now parts.0 ((bytes_eq-Decides g.name.now name).0 t ∙ sym e)))

-- what the map finds by a name
abbrev look : BTreeMap (Bor (List ℕ)) (Bor FileIn) → List ℕ → Option (Bor FileIn)
look map name = get_by (λ k. slice_cmp nat_cmp name k.now) map

some_mapped : (r : Option (Bor FileIn)) → is_some (option_map (λ (f : Bor FileIn). f.now) r) ≡ is_some r
some_mapped None = refl
some_mapped (Some f) = refl

pub was_there : (map : BTreeMap (Bor (List ℕ)) (Bor FileIn)) (files : List FileIn) (name : List ℕ) (before : Option (Bor FileIn)) → AreFiles map files → before ≡ look map name → is_some before ≡ is_named name files
was_there map files name before are e =
    ap (λ (r : Option (Bor FileIn)). is_some r) e ∙ sym (some_mapped (look map name)) ∙ ap (λ (r : Option FileIn). is_some r) (are name) ∙ some_named name files

mapped_cond : (b : Bool) (f : Bor FileIn) (r : Option (Bor FileIn)) → option_map (λ (f : Bor FileIn). f.now) (cond b (Some f) r) ≡ cond b (Some f.now) (option_map (λ (f : Bor FileIn). f.now) r)
mapped_cond true f r = refl
mapped_cond false f r = refl

pub is_there : (map new : BTreeMap (Bor (List ℕ)) (Bor FileIn)) (files : List FileIn) (file : Bor FileIn) → AreFiles map files → is_named file.now.name.now files ≡ false
    → ((name : List ℕ) → look new name ≡ update bytes_eq (look map) file.now.name.now (Some file) name) → AreFiles new (files ++ file.now ∷ [])
is_there map new files file are fresh added name =
    ap (λ (r : Option (Bor FileIn)). option_map (λ (f : Bor FileIn). f.now) r) (added name)
    ∙ mapped_cond (bytes_eq file.now.name.now name) file (look map name)
    ∙ ap (λ (r : Option FileIn). cond (bytes_eq file.now.name.now name) (Some file.now) r) (are name)
    ∙ sym (file_named_more name files file.now fresh)

-- ---- the tests of one file more

module _ (files : List FileIn) (i : ℕ) (d : FileIn) (within : i < length files) where
  abbrev from_here : List (OfferJudgement × Bool)
  from_here = twice_tests i (take i files) (drop i files)

  here : first_that_holds from_here ≡ first_that_holds (twice_tests i (take i files) (get_or files i d ∷ drop (i + 1) files))
  here = ap (λ (l : List FileIn). first_that_holds (twice_tests i (take i files) l)) (drop_more files i d within)

  next : suc i ≡ i + 1
  next = omega arith

  pub told_here : is_named (get_or files i d).name.now (take i files) ≡ true → first_that_holds from_here ≡ Some (FileTwice i)
  told_here t = here ∙ ap (λ (b : Bool). cond b (Some (FileTwice i)) (first_that_holds (twice_tests (suc i) (take i files ++ get_or files i d ∷ []) (drop (i + 1) files)))) t

  pub told_later : is_named (get_or files i d).name.now (take i files) ≡ false → first_that_holds from_here ≡ first_that_holds (twice_tests (i + 1) (take (i + 1) files) (drop (i + 1) files))
  told_later t =
      here ∙ ap (λ (b : Bool). cond b (Some (FileTwice i)) (first_that_holds (twice_tests (suc i) (take i files ++ get_or files i d ∷ []) (drop (i + 1) files)))) t
      ∙ ap (λ (n : ℕ). first_that_holds (twice_tests n (take i files ++ get_or files i d ∷ []) (drop (i + 1) files))) next
      ∙ ap (λ (l : List FileIn). first_that_holds (twice_tests (i + 1) l (drop (i + 1) files))) (sym (take_more files i d within))
