-- Whether a name is repeated is what is computed of it.
use Rattle.std.proofs.Common.{◌≡◌, ℕ, Bool, true, false, cond, ◌||◌, List, Option, Some, None, MatchBool, bytes_eq, codes, refl, sym, subst, ◌∙◌, inl, inr}
use Rattle.std.specs.Prelude.{◌⊎◌}
use Rattle.std.proofs.lemmas.Slice.Eq.{bytes_eq-Decides}
use Rattle.json.specs.Json.{Json, null, boolean, number, string, array, object, Items, no_items, item, Members, no_members, member}
use Rattle.payload_lists.proofs.Entries.{one_some}
use Rattle.exports.specs.Repeating.{entry_repeats, export_repeats, export_twice, items_repeat, member_repeats, members_repeat, metadata_repeat, roas_repeat, root_twice, stands, twice, two_twice}
use Rattle.exports.specs.Repeats.{EntryRepeats, ExportRepeats, ItemsRepeat, MembersRepeat, MetadataRepeat, Repeats, RoasRepeat, RootRepeats, Stands, StandsTwice, tree}

abbrev pub Says : Bool → Type 0 → Type 0
Says b P = MatchBool b P (¬ P)

one_of : (P Q : Type 0) (a b : Bool) → Says a P → Says b Q → Says (a || b) (P ⊎ Q)
one_of P Q true b p q = inl p
one_of P Q false true p q = inr q
one_of P Q false false p q = neither
  where
    neither : ¬ (P ⊎ Q)
    neither (inl h) = p h
    neither (inr h) = q h

names_equal : (k l : List ℕ) → Says (bytes_eq k l) (k ≡ l)
names_equal k l = by (bytes_eq k l) (bytes_eq-Decides k l).0 (bytes_eq-Decides k l).1
  where
    by : (b : Bool) → (b ≡ true → k ≡ l) → (k ≡ l → b ≡ true) → Says b (k ≡ l)
    by true so only = so refl
    by false so only = λ same. let no : false ≡ true = only same in cc

pub names_differ : (k l : List ℕ) → (k ≡ l → ⊥) → bytes_eq k l ≡ false
names_differ k l other = by (bytes_eq k l) (names_equal k l)
  where
    by : (b : Bool) → Says b (k ≡ l) → b ≡ false
    by true same = absurd (other same)
    by false same = refl

-- ---- a name

stands_says : (name : List ℕ) (ms : Members) → Says (stands name ms) (Stands name ms)
stands_says name no_members = λ h. h
stands_says name (member k j ms) = one_of (name ≡ k) (Stands name ms) (bytes_eq name k) (stands name ms) (names_equal name k) (stands_says name ms)

stands_if : (name : List ℕ) (ms : Members) → StandsTwice name ms → Stands name ms
stands_if name no_members h = h
stands_if name (member k j ms) (inl h) = inl h.0
stands_if name (member k j ms) (inr h) = inr (stands_if name ms h)

twice_says : (name : List ℕ) (ms : Members) → Says (twice name ms) (StandsTwice name ms)
twice_says name no_members = λ h. h
twice_says name (member k j ms) = by (bytes_eq name k) (stands name ms) (twice name ms) (names_equal name k) (stands_says name ms) (twice_says name ms)
  where
    here : (b : Bool) → name ≡ k → Says b (Stands name ms) → Says b (((name ≡ k) × Stands name ms) ⊎ StandsTwice name ms)
    here true same more = inl (same, more)
    here false same more = none
      where
        none : ¬ (((name ≡ k) × Stands name ms) ⊎ StandsTwice name ms)
        none (inl h) = more h.1
        none (inr h) = more (stands_if name ms h)

    later : (b : Bool) → ¬ (name ≡ k) → Says b (StandsTwice name ms) → Says b (((name ≡ k) × Stands name ms) ⊎ StandsTwice name ms)
    later true other more = inr more
    later false other more = none
      where
        none : ¬ (((name ≡ k) × Stands name ms) ⊎ StandsTwice name ms)
        none (inl h) = other h.0
        none (inr h) = more h

    by : (e s t : Bool) → Says e (name ≡ k) → Says s (Stands name ms) → Says t (StandsTwice name ms) → Says (cond e s t) (((name ≡ k) × Stands name ms) ⊎ StandsTwice name ms)
    by true s t same once more = here s same once
    by false s t other once more = later t other more

-- ---- objects

never : ¬ ⊥
never h = h

metadata_says : (j : Json) → Says (metadata_repeat j) (MetadataRepeat j)
metadata_says null = never
metadata_says (boolean b) = never
metadata_says (number s) = never
metadata_says (string s) = never
metadata_says (array js) = never
metadata_says (object ms) = one_of (StandsTwice (codes "generated") ms) (StandsTwice (codes "buildtime") ms) (twice (codes "generated") ms) (twice (codes "buildtime") ms) (twice_says (codes "generated") ms) (twice_says (codes "buildtime") ms)

entry_says : (j : Json) → Says (entry_repeats j) (EntryRepeats j)
entry_says null = never
entry_says (boolean b) = never
entry_says (number s) = never
entry_says (string s) = never
entry_says (array js) = never
entry_says (object ms) =
    in_four (StandsTwice (codes "asn") ms) (StandsTwice (codes "prefix") ms) (StandsTwice (codes "maxLength") ms) (StandsTwice (codes "expires") ms) (twice (codes "asn") ms) (twice (codes "prefix") ms) (twice (codes "maxLength") ms) (twice (codes "expires") ms) (twice_says (codes "asn") ms) (twice_says (codes "prefix") ms) (twice_says (codes "maxLength") ms) (twice_says (codes "expires") ms)
  where
    in_four : (P Q R S : Type 0) (a b c d : Bool) → Says a P → Says b Q → Says c R → Says d S → Says ((a || b) || (c || d)) (P ⊎ Q ⊎ R ⊎ S)
    in_four P Q R S true b c d p q r s = inl p
    in_four P Q R S false true c d p q r s = inr (inl q)
    in_four P Q R S false false c d p q r s = one_of P (Q ⊎ R ⊎ S) false (c || d) p (one_of Q (R ⊎ S) false (c || d) q (one_of R S c d r s))

items_say : (js : Items) → Says (items_repeat js) (ItemsRepeat js)
items_say no_items = never
items_say (item j js) = one_of (EntryRepeats j) (ItemsRepeat js) (entry_repeats j) (items_repeat js) (entry_says j) (items_say js)

roas_says : (j : Json) → Says (roas_repeat j) (RoasRepeat j)
roas_says null = never
roas_says (boolean b) = never
roas_says (number s) = never
roas_says (string s) = never
roas_says (array js) = items_say js
roas_says (object ms) = never

-- the value of a member
held_says : (k : List ℕ) (j : Json) → Says (member_repeats k j) (((k ≡ codes "roas") × RoasRepeat j) ⊎ ((k ≡ codes "metadata") × MetadataRepeat j))
held_says k j = by (bytes_eq k (codes "roas")) (bytes_eq k (codes "metadata")) (roas_repeat j) (metadata_repeat j) (names_equal k (codes "roas")) (names_equal k (codes "metadata")) (roas_says j) (metadata_says j)
  where
    apart : {P : Type 0} → k ≡ codes "roas" → k ≡ codes "metadata" → P
    apart a b = let no : codes "roas" ≡ codes "metadata" = sym a ∙ b in absurd (cc)

    by : (e f r m : Bool) → Says e (k ≡ codes "roas") → Says f (k ≡ codes "metadata") → Says r (RoasRepeat j) → Says m (MetadataRepeat j)
        → Says (cond e r (cond f m false)) (((k ≡ codes "roas") × RoasRepeat j) ⊎ ((k ≡ codes "metadata") × MetadataRepeat j))
    by true f true m is_roas is_metadata roas metadata = inl (is_roas, roas)
    by true f false m is_roas is_metadata roas metadata = none
      where
        none : ¬ (((k ≡ codes "roas") × RoasRepeat j) ⊎ ((k ≡ codes "metadata") × MetadataRepeat j))
        none (inl h) = roas h.1
        none (inr h) = apart is_roas h.0
    by false true r true is_roas is_metadata roas metadata = inr (is_metadata, metadata)
    by false true r false is_roas is_metadata roas metadata = none
      where
        none : ¬ (((k ≡ codes "roas") × RoasRepeat j) ⊎ ((k ≡ codes "metadata") × MetadataRepeat j))
        none (inl h) = is_roas h.0
        none (inr h) = metadata h.1
    by false false r m is_roas is_metadata roas metadata = none
      where
        none : ¬ (((k ≡ codes "roas") × RoasRepeat j) ⊎ ((k ≡ codes "metadata") × MetadataRepeat j))
        none (inl h) = is_roas h.0
        none (inr h) = is_metadata h.0

regrouped : (P Q R : Type 0) (b : Bool) → Says b ((P ⊎ Q) ⊎ R) → Says b (P ⊎ Q ⊎ R)
regrouped P Q R true (inl (inl h)) = inl h
regrouped P Q R true (inl (inr h)) = inr (inl h)
regrouped P Q R true (inr h) = inr (inr h)
regrouped P Q R false none = other
  where
    other : ¬ (P ⊎ Q ⊎ R)
    other (inl h) = none (inl (inl h))
    other (inr (inl h)) = none (inl (inr h))
    other (inr (inr h)) = none (inr h)

members_say : (ms : Members) → Says (members_repeat ms) (MembersRepeat ms)
members_say no_members = never
members_say (member k j ms) =
    regrouped ((k ≡ codes "roas") × RoasRepeat j) ((k ≡ codes "metadata") × MetadataRepeat j) (MembersRepeat ms) (member_repeats k j || members_repeat ms)
    (one_of (((k ≡ codes "roas") × RoasRepeat j) ⊎ ((k ≡ codes "metadata") × MetadataRepeat j)) (MembersRepeat ms) (member_repeats k j) (members_repeat ms) (held_says k j) (members_say ms))

two_say : (k l : List ℕ) (ms : Members) → Says (two_twice k l ms) (StandsTwice k ms ⊎ StandsTwice l ms)
two_say k l ms = one_of (StandsTwice k ms) (StandsTwice l ms) (twice k ms) (twice l ms) (twice_says k ms) (twice_says l ms)

-- the arrays that are counted
arrays_say : (ms : Members) → Says (twice (codes "aspas") ms || two_twice (codes "bgpsec_keys") (codes "routerKeys") ms) (StandsTwice (codes "aspas") ms ⊎ StandsTwice (codes "bgpsec_keys") ms ⊎ StandsTwice (codes "routerKeys") ms)
arrays_say ms =
    one_of (StandsTwice (codes "aspas") ms) (StandsTwice (codes "bgpsec_keys") ms ⊎ StandsTwice (codes "routerKeys") ms) (twice (codes "aspas") ms) (two_twice (codes "bgpsec_keys") (codes "routerKeys") ms)
    (twice_says (codes "aspas") ms) (two_say (codes "bgpsec_keys") (codes "routerKeys") ms)

root_says : (ms : Members) → Says (root_twice ms) (RootRepeats ms)
root_says ms =
    regrouped (StandsTwice (codes "roas") ms) (StandsTwice (codes "metadata") ms) (StandsTwice (codes "aspas") ms ⊎ StandsTwice (codes "bgpsec_keys") ms ⊎ StandsTwice (codes "routerKeys") ms) (root_twice ms)
    (one_of (StandsTwice (codes "roas") ms ⊎ StandsTwice (codes "metadata") ms) (StandsTwice (codes "aspas") ms ⊎ StandsTwice (codes "bgpsec_keys") ms ⊎ StandsTwice (codes "routerKeys") ms) (two_twice (codes "roas") (codes "metadata") ms)
    (twice (codes "aspas") ms || two_twice (codes "bgpsec_keys") (codes "routerKeys") ms) (two_say (codes "roas") (codes "metadata") ms) (arrays_say ms))

export_says : (ms : Members) → Says (export_twice ms) (ExportRepeats (object ms))
export_says ms = one_of (RootRepeats ms) (MembersRepeat ms) (root_twice ms) (members_repeat ms) (root_says ms) (members_say ms)

-- ---- texts

says_of : (text : List ℕ) (j : Json) (b : Bool) → tree text ≡ Some j → Says b (ExportRepeats j) → Says b (Repeats text)
says_of text j true is h = (j, is, h)
says_of text j false is h = λ r. h (subst ExportRepeats (one_some r.0 j (tree text) r.1 is) r.2)

export_repeats_say : (j : Json) → Says (export_repeats j) (ExportRepeats j)
export_repeats_say null = never
export_repeats_say (boolean b) = never
export_repeats_say (number s) = never
export_repeats_say (string s) = never
export_repeats_say (array js) = never
export_repeats_say (object ms) = export_says ms

-- Whether names are repeated in a text is computed of its tree.
pub of_tree : (text : List ℕ) (j : Json) (b : Bool) → tree text ≡ Some j → b ≡ export_repeats j → Says b (Repeats text)
of_tree text j b is same = subst (λ x. Says x (Repeats text)) (sym same) (says_of text j (export_repeats j) is (export_repeats_say j))

-- computed, for worked rows
abbrev pub repeated : Option Json → Bool
repeated None = false
repeated (Some j) = export_repeats j

repeated_says : (text : List ℕ) (o : Option Json) → tree text ≡ o → Says (repeated o) (Repeats text)
repeated_says text None is = λ r. let no : None ≡ Some r.0 = sym is ∙ r.1 in cc
repeated_says text (Some j) is = of_tree text j (export_repeats j) is refl

pub stand_once : (text : List ℕ) → repeated (tree text) ≡ false → ¬ (Repeats text)
stand_once text is = subst (λ b. Says b (Repeats text)) is (repeated_says text (tree text) refl)

pub stand_twice : (text : List ℕ) → repeated (tree text) ≡ true → Repeats text
stand_twice text is = subst (λ b. Says b (Repeats text)) is (repeated_says text (tree text) refl)
