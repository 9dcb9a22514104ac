-- Names that stand once
use Rattle.std.proofs.Common.{◌≡◌, ◌≢◌, ℕ, ◌&&◌, Bool, true, false, not, List, [], ◌∷◌, Option, Some, None, IsSomeAnd, All, bytes_eq, refl, sym, ap, ◌∙◌, subst, arith}
use Rattle.std.proofs.lemmas.List.Elements.{All-cons, All-nil}
use Rattle.std.proofs.lemmas.List.Kept.{AllPairs-cons}
use Rattle.std.proofs.lemmas.Slice.Eq.{bytes_eq-Decides}
use Rattle.json.specs.Json.{Json, null, boolean, number, string, array, object, Items, no_items, item, Members, no_members, member, document}
use Rattle.json.specs.Strict.{AreDistinct, HasUniqueKeys, ItemsHaveUniqueKeys, MembersHaveUniqueKeys, keys}
use Rattle.slurm.specs.SlurmFile.{NamesOnce}
use Rattle.slurm.proofs.Ascending.{some_is}
use Rattle.slurm.proofs.Chained.{both_true}

-- ---- what a strict reading says

twice : (o : Option Json) (j : Json) → o ≡ Some j → HasUniqueKeys j → IsSomeAnd o (λ k. ¬ (HasUniqueKeys k)) → ⊥
twice None j is unique h = h
twice (Some k) j is unique h = h (subst HasUniqueKeys (sym (some_is k j is)) unique)

pub names_twice : (bytes : List ℕ) → IsSomeAnd (document bytes) (λ j. ¬ (HasUniqueKeys j)) → ¬ (NamesOnce bytes)
names_twice bytes h once = twice (document bytes) once.0 once.1 once.2 h

pub no_names : (bytes : List ℕ) → document bytes ≡ None → ¬ (NamesOnce bytes)
no_names bytes h once = let no : None ≡ Some once.0 = sym h ∙ once.1 in cc

-- ---- computed, for worked rows

abbrev differs : List ℕ → List (List ℕ) → Bool
differs k [] = true
differs k (l ∷ ks) = not (bytes_eq k l) && differs k ks

abbrev distinct : List (List ℕ) → Bool
distinct [] = true
distinct (k ∷ ks) = differs k ks && distinct ks

abbrev mutual
  unique : Json → Bool
  unique null = true
  unique (boolean b) = true
  unique (number s) = true
  unique (string s) = true
  unique (array js) = unique_items js
  unique (object ms) = distinct (keys ms) && unique_members ms

  unique_items : Items → Bool
  unique_items no_items = true
  unique_items (item j js) = unique j && unique_items js

  unique_members : Members → Bool
  unique_members no_members = true
  unique_members (member k j ms) = unique j && unique_members ms

abbrev pub is_once : Option Json → Bool
is_once None = false
is_once (Some j) = unique j

apart : (k l : List ℕ) → not (bytes_eq k l) ≡ true → k ≢ l
apart k l h is = let no : false ≡ true = sym (ap not ((bytes_eq-Decides k l).1 is)) ∙ h in cc

all_apart : (k : List ℕ) (ks : List (List ℕ)) → differs k ks ≡ true → All (λ l. k ≢ l) ks
all_apart k [] h = All-nil (λ l. k ≢ l)
all_apart k (l ∷ ks) h = let both = both_true (not (bytes_eq k l)) (differs k ks) h in All-cons (λ m. k ≢ m) l ks (apart k l both.0) (all_apart k ks both.1)

are_distinct : (ks : List (List ℕ)) → distinct ks ≡ true → AreDistinct ks
are_distinct [] h = λ i j d less within. absurd (omega (arith, within))
are_distinct (k ∷ ks) h = let both = both_true (differs k ks) (distinct ks) h in AllPairs-cons (λ a b. a ≢ b) k ks (all_apart k ks both.0) (are_distinct ks both.1)

mutual
  has_unique : (j : Json) → unique j ≡ true → HasUniqueKeys j
  has_unique null h = tt
  has_unique (boolean b) h = tt
  has_unique (number s) h = tt
  has_unique (string s) h = tt
  has_unique (array js) h = items_unique js h
  has_unique (object ms) h = let both = both_true (distinct (keys ms)) (unique_members ms) h in (are_distinct (keys ms) both.0, members_unique ms both.1)

  items_unique : (js : Items) → unique_items js ≡ true → ItemsHaveUniqueKeys js
  items_unique no_items h = tt
  items_unique (item j js) h = let both = both_true (unique j) (unique_items js) h in (has_unique j both.0, items_unique js both.1)

  members_unique : (ms : Members) → unique_members ms ≡ true → MembersHaveUniqueKeys ms
  members_unique no_members h = tt
  members_unique (member k j ms) h = let both = both_true (unique j) (unique_members ms) h in (has_unique j both.0, members_unique ms both.1)

once_by : (bytes : List ℕ) (o : Option Json) → document bytes ≡ o → is_once o ≡ true → NamesOnce bytes
once_by bytes None is h = let no : false ≡ true = h in absurd (cc)
once_by bytes (Some j) is h = (j, is, has_unique j h)

pub stand_once : (bytes : List ℕ) → is_once (document bytes) ≡ true → NamesOnce bytes
stand_once bytes h = once_by bytes (document bytes) refl h

pub stand_twice : (bytes : List ℕ) (j : Json) → document bytes ≡ Some j → ¬ (HasUniqueKeys j) → ¬ (NamesOnce bytes)
stand_twice bytes j is twice once = twice (subst HasUniqueKeys (some_is once.0 j (sym once.1 ∙ is)) once.2)
