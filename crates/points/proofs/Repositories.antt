-- Points looked up by their names, and the payloads that they have in use.
use Rattle.std.proofs.Common.{◌≡◌, ◌≢◌, ◌↔◌, ℕ, Bool, true, false, cond, bytes_eq, List, [], ◌∷◌, map, Option, Some, Result, Ok, Err, OnOk, is_err, refl, sym, ap, ◌∙◌}
use Rattle.std.specs.List.{Contains, list_any, dedup}
use Rattle.std.specs.List.Sorted.{IsPermutation}
use Rattle.std.specs.FinMap as finite
use Rattle.std.specs.FinMap.Entries.{find}
use Rattle.std.specs.Ordering.{nat_cmp, is_eq, eq_by_cmp}
use Rattle.std.specs.Cmp.{IsEquivalence, eq_by_cmp_equiv}
use Rattle.std.specs.Cmp.Lexicographic.{slice_cmp, nat_list_cmp_total}
use Rattle.std.specs.BTreeMap.{BTreeMap, get_by_text, is_at, UpdatesBy}
use Rattle.std.specs.Map.{lookup}
use Rattle.std.specs.String.{string_bytes, string_cmp}
use Rattle.std.specs.declared.string.String.{String}
use Rattle.std.proofs.lemmas.Map.Text.{btree_map_updates_text}
use Rattle.std.proofs.lemmas.Map.Views.{list_any-from_Contains, Contains-from_any, tells_apart}
use Rattle.std.proofs.lemmas.List.Sorted.{list_any-IsPermutation}
use Rattle.std.proofs.lemmas.List.Kept.{Contains-dedup, Contains-from_dedup}
use Rattle.std.proofs.lemmas.Slice.Eq.{bytes_eq-Decides}
use Rattle.prefixes.specs.Payload.{Payload, vrp_cmp}
use Rattle.prefixes.specs.Orders.{vrp_total, vrp_exact}
use Rattle.points.specs.Accepted.{Accepted}
use Rattle.points.specs.InUse.{Points, accepted_at, points_of}
use Rattle.points.proofs.Named.{not_equal}

pub on_ok : {T E : Type 0} (r : Result T E) (P : Type 0) → is_err r ≡ false → OnOk r P → P
on_ok (Ok x) P e h = h
on_ok (Err x) P e h = absurd cc

-- ---- a point by its name

find_is : {Y : Type 0} (name : List ℕ) (entries : List (String Y × Accepted))
    → find (slice_cmp nat_cmp) name (map {B = List ℕ × Accepted} (λ (e : String Y × Accepted). (string_bytes e.0, e.1)) entries) ≡ lookup (is_at (λ (k : String Y). slice_cmp nat_cmp name (string_bytes k))) entries
find_is name [] = refl
find_is name (e ∷ entries) = ap (λ (later : Option Accepted). cond (is_eq (slice_cmp nat_cmp name (string_bytes e.0))) (Some e.1) later) (find_is name entries)

-- what a point accepted is what the map has by its name
pub accepted_is : {Y : Type 0} (m : BTreeMap (String Y) Accepted) (name : List ℕ) → accepted_at (points_of m.entries) name ≡ get_by_text m name
accepted_is {Y} m name =
    finite.get-from_entries nat_list_cmp_total (map {B = List ℕ × Accepted} (λ (e : String Y × Accepted). (string_bytes e.0, e.1)) m.entries) name ∙ find_is name m.entries

-- the same of a map whose points these are
pub was_at : {Y : Type 0} (m : BTreeMap (String Y) Accepted) (points : Points) (name : List ℕ) (before : Option Accepted) → before ≡ get_by_text m name → points_of m.entries ≡ points → before ≡ accepted_at points name
was_at m points name before found view = found ∙ sym (accepted_is m name) ∙ ap (λ (s : Points). accepted_at s name) view

module _ {Y : Type 0} (m n : BTreeMap (String Y) Accepted) (name : List ℕ) (last : Accepted) (updates : UpdatesBy string_cmp (λ (k : String Y). slice_cmp nat_cmp name (string_bytes k)) m n (Some last)) where
  at_any : (other : List ℕ) → accepted_at (points_of n.entries) other ≡ cond (bytes_eq name other) (Some last) (get_by_text m other)
  at_any other = accepted_is n other ∙ btree_map_updates_text name m n (Some last) updates other

  pub at_name : accepted_at (points_of n.entries) name ≡ Some last
  at_name = at_any name ∙ ap (λ (b : Bool). cond b (Some last) (get_by_text m name)) ((bytes_eq-Decides name name).1 refl)

  pub at_other : (other : List ℕ) → other ≢ name → accepted_at (points_of n.entries) other ≡ accepted_at (points_of m.entries) other
  at_other other differs =
      at_any other ∙ ap (λ (b : Bool). cond b (Some last) (get_by_text m other)) (not_equal name other (λ e. differs (sym e))) ∙ sym (accepted_is m other)

-- ---- payloads in order, each once

same_vrp : Payload → Payload → Bool
same_vrp = eq_by_cmp vrp_cmp

equiv : IsEquivalence same_vrp
unfolding same_vrp
equiv = eq_by_cmp_equiv vrp_total

exact : (x y : Payload) → same_vrp x y ≡ true → x ≡ y
unfolding same_vrp
exact = tells_apart vrp_exact

moved : (vs ws : List Payload) (v : Payload) → IsPermutation vs ws → Contains vs v ↔ Contains ws v
moved vs ws v p =
    let same : list_any (same_vrp v) vs ≡ list_any (same_vrp v) ws = list_any-IsPermutation (same_vrp v) vs ws p in (
      (λ c. Contains-from_any exact v ws (sym same ∙ list_any-from_Contains equiv v vs c)),
      (λ c. Contains-from_any exact v vs (same ∙ list_any-from_Contains equiv v ws c)),
    )

pub same_members : (E : Payload → Payload → Bool) → ((x y : Payload) → E x y ≡ eq_by_cmp vrp_cmp x y) → (vs ws : List Payload) (v : Payload) → IsPermutation vs ws → Contains (dedup E ws) v ↔ Contains vs v
unfolding same_vrp
same_members E ties vs ws v p =
    let alike : E ≡ same_vrp = λ i x y. ties x y i in
    let back = moved vs ws v p in
    rw alike ((λ c. back.1 (Contains-from_dedup same_vrp ws v c)), (λ c. Contains-dedup equiv exact ws v (back.0 c)))
