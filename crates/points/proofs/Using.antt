-- The payloads that points have in use are those that are listed of them.
use Rattle.std.proofs.Common.{◌≡◌, ℕ, Bool, true, false, cond, List, [], ◌∷◌, map, flat_map, Option, Some, refl, sym, ap, subst, ◌∙◌, inl, inr, arith}
use Rattle.std.specs.List.{Contains, IsDistinct, AllByRecursion}
use Rattle.std.specs.Ordering.{nat_cmp, eq_by_cmp}
use Rattle.std.specs.Cmp.{eq_by_cmp_equiv}
use Rattle.std.specs.Cmp.Lexicographic.{slice_cmp, nat_list_cmp_total}
use Rattle.std.specs.BTreeMap.{BTreeMap, IsOrdered, keys, values}
use Rattle.std.specs.Map.{lookup, keys_of}
use Rattle.std.specs.FinMap as finite
use Rattle.std.specs.FinMap.Entries.{find}
use Rattle.std.specs.String.{string_bytes, string_cmp}
use Rattle.std.specs.declared.string.String.{String}
use Rattle.std.proofs.lemmas.List.Elements.{Contains-append_left, Contains-append_right, Contains-append_cases}
use Rattle.std.proofs.lemmas.Map.Keys.{IsDistinct-from_sorted}
use Rattle.std.proofs.lemmas.Map.Lookups.{exact_bytes}
use Rattle.std.proofs.lemmas.Map.Views.{Contains-from_lookup, lookup-from_Contains, tells_apart}
use Rattle.der_lite.specs.Moments.{CivilMoment, moment_before}
use Rattle.prefixes.specs.Payload.{Payload}
use Rattle.payloads.specs.RoaValues.{payloads_of}
use Rattle.points.specs.Accepted.{Accepted}
use Rattle.points.specs.InUse.{accepted_at, points_of, Payloads, held_payloads, used_payloads}
use Rattle.points.proofs.Named.{contains_cases, contains_first, contains_later}

-- ---- elements of lists made of lists

not_in_none : {X : Type 0} (x : X) → Contains [] x → ⊥
not_in_none x c = absurd (omega (arith, c.1))

pub contains_map : {X Y : Type 0} (f : X → Y) (xs : List X) (x : X) → Contains xs x → Contains (map f xs) (f x)
contains_map f [] x c = absurd (not_in_none x c)
contains_map f (a ∷ xs) x c = elim (contains_cases x a xs c) [
  | inl here ↦ contains_first (f x) (f a) (map f xs) (ap f here)
  | inr later ↦ contains_later (f x) (f a) (map f xs) (contains_map f xs x later)
]

pub contains_mapped : {X Y : Type 0} (f : X → Y) (xs : List X) (y : Y) → Contains (map f xs) y → (x : X) × Contains xs x × (f x ≡ y)
contains_mapped f [] y c = absurd (not_in_none y c)
contains_mapped f (a ∷ xs) y c = elim (contains_cases y (f a) (map f xs) c) [
  | inl here ↦ (a, contains_first a a xs refl, here)
  | inr later ↦ let r = contains_mapped f xs y later in (r.0, contains_later r.0 a xs r.1, r.2)
]

pub contains_flat : {X Y : Type 0} (f : X → List Y) (xs : List X) (x : X) (y : Y) → Contains xs x → Contains (f x) y → Contains (flat_map f xs) y
contains_flat f [] x y c d = absurd (not_in_none x c)
contains_flat {X} {Y} f (a ∷ xs) x y c d = elim (contains_cases x a xs c) [
  | inl here ↦ Contains-append_left (f a) (flat_map f xs) y (subst (λ (b : X). Contains (f b) y) (sym here) d)
  | inr later ↦ Contains-append_right (f a) (flat_map f xs) y (contains_flat f xs x y later d)
]

pub contains_flattened : {X Y : Type 0} (f : X → List Y) (xs : List X) (y : Y) → Contains (flat_map f xs) y → (x : X) × Contains xs x × Contains (f x) y
contains_flattened f [] y c = absurd (not_in_none y c)
contains_flattened f (a ∷ xs) y c = elim (Contains-append_cases (f a) (flat_map f xs) y c) [
  | inl here ↦ (a, contains_first a a xs refl, here)
  | inr later ↦ let r = contains_flattened f xs y later in (r.0, contains_later r.0 a xs r.1, r.2)
]

-- ---- points and what their names find

module _ {Y : Type 0} where
  all_other : (name : List ℕ) (es : List (String Y × Accepted)) → AllByRecursion (λ (k : String Y). eq_by_cmp (slice_cmp nat_cmp) name (string_bytes k) ≡ false) (keys_of es)
      → AllByRecursion (λ (k : List ℕ). eq_by_cmp (slice_cmp nat_cmp) name k ≡ false) (keys_of (map {B = List ℕ × Accepted} (λ (e : String Y × Accepted). (string_bytes e.0, e.1)) es))
  all_other name [] h = tt
  all_other name (e ∷ es) h = (h.0, all_other name es h.1)

  distinct : (es : List (String Y × Accepted)) → IsDistinct (eq_by_cmp string_cmp) (keys_of es)
      → IsDistinct (eq_by_cmp (slice_cmp nat_cmp)) (keys_of (map {B = List ℕ × Accepted} (λ (e : String Y × Accepted). (string_bytes e.0, e.1)) es))
  unfolding IsDistinct
  distinct [] h = tt
  distinct (e ∷ es) h = (all_other (string_bytes e.0) es h.0, distinct es h.1)

find_lookup : (name : List ℕ) (es : List (List ℕ × Accepted)) → find (slice_cmp nat_cmp) name es ≡ lookup (eq_by_cmp (slice_cmp nat_cmp) name) es
find_lookup name [] = refl
find_lookup name (e ∷ es) = ap (λ (later : Option Accepted). cond (eq_by_cmp (slice_cmp nat_cmp) name e.0) (Some e.1) later) (find_lookup name es)

module _ {Y : Type 0} (m : BTreeMap (String Y) Accepted) (ordered : IsOrdered string_cmp m) where
  abbrev named : List (List ℕ × Accepted)
  named = map {B = List ℕ × Accepted} (λ (e : String Y × Accepted). (string_bytes e.0, e.1)) m.entries

  at_is : (name : List ℕ) → accepted_at (points_of m.entries) name ≡ lookup (eq_by_cmp (slice_cmp nat_cmp) name) named
  at_is name = finite.get-from_entries nat_list_cmp_total named name ∙ find_lookup name named

  -- each value is found by a name
  pub has_name : (last : Accepted) → Contains (values m) last → (name : List ℕ) × (accepted_at (points_of m.entries) name ≡ Some last)
  has_name last c =
      let r = contains_mapped (λ (e : String Y × Accepted). e.1) m.entries last c in
      let name = string_bytes r.0.0 in
      let among : Contains named (name, r.0.1) = contains_map {Y = List ℕ × Accepted} (λ (e : String Y × Accepted). (string_bytes e.0, e.1)) m.entries r.0 r.1 in
      let apart = distinct m.entries (IsDistinct-from_sorted string_cmp (keys m) ordered) in
      (name, at_is name ∙ lookup-from_Contains (eq_by_cmp_equiv nat_list_cmp_total) name r.0.1 named apart among ∙ ap (λ (a : Accepted). Some a) r.2)

  -- what a name finds is a value
  pub is_value : (name : List ℕ) (last : Accepted) → accepted_at (points_of m.entries) name ≡ Some last → Contains (values m) last
  is_value name last e =
      let c = Contains-from_lookup (tells_apart exact_bytes) name last named (sym (at_is name) ∙ e) in
      let r = contains_mapped {Y = List ℕ × Accepted} (λ (e : String Y × Accepted). (string_bytes e.0, e.1)) m.entries (name, last) c in
      subst (λ (a : Accepted). Contains (values m) a) (ap (λ (p : List ℕ × Accepted). p.1) r.2) (contains_map (λ (e : String Y × Accepted). e.1) m.entries r.0 r.1)

  used_if : (now : CivilMoment) (last : Accepted) (b : Bool) (v : Payload) → moment_before last.manifest.next_update now ≡ b → Contains (cond b [] (held_payloads last)) v → (moment_before last.manifest.next_update now ≡ false) × Contains (held_payloads last) v
  used_if now last true v e c = absurd (not_in_none v c)
  used_if now last false v e c = (e, c)

  -- what is listed is in use
  pub listed_used : (now : CivilMoment) (v : Payload) → Contains (flat_map (used_payloads now) (values m)) v → Payloads (points_of m.entries) now v
  listed_used now v c =
      let r = contains_flattened (used_payloads now) (values m) v c in
      let n = has_name r.0 r.1 in
      let u = used_if now r.0 (moment_before r.0.manifest.next_update now) v refl r.2 in
      let h = contains_flattened payloads_of r.0.roas v u.1 in
      record { name = n.0; last = r.0; accepted = n.1; current = u.0; roa = h.0; held = h.1; told = h.2 }

  -- what is in use is listed
  pub used_listed : (now : CivilMoment) (v : Payload) → Payloads (points_of m.entries) now v → Contains (flat_map (used_payloads now) (values m)) v
  used_listed now v p =
      let held : Contains (held_payloads p.last) v = contains_flat payloads_of p.last.roas p.roa v p.held p.told in
      let used : Contains (used_payloads now p.last) v = subst (λ (b : Bool). Contains (cond b [] (held_payloads p.last)) v) (sym p.current) held in
      contains_flat (used_payloads now) (values m) p.last v (is_value p.name p.last p.accepted) used
