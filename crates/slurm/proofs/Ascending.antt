-- The members of each object ascend in a value that was read.
use Rattle.std.proofs.Common.{◌≡◌, ℕ, List, Option, Some, None, option_map, option_and_then, IfSome, Ordering, Less, Equal, Greater, nat_cmp, refl, ap, ◌∙◌, subst}
use Rattle.std.specs.Prelude.{⊤}
use Rattle.std.specs.List.{AllByRecursion}
use Rattle.std.specs.Cmp.Lexicographic.{slice_cmp}
use Rattle.std.specs.Ordering.{match_ordering, ordering_reverse}
use Rattle.std.proofs.lemmas.Cmp.{nat_list_cmp_total}
use Rattle.json.specs.Json as json
use Rattle.json.specs.Lex.{tokens}
use Rattle.serde_json.specs.Data.{Data, null, boolean, number, string, array, object, Items, no_items, item, Members, no_members, member, put}
use Rattle.serde_json.specs.Find.{get, get_member, as_array}
use Rattle.serde_json.specs.Read.{max_depth, number_of, of_json, of_items, of_members, read}
use Rattle.slurm.specs.Entries.{listed}

-- Each name is behind this one.
abbrev pub AreBehind : List ℕ → Members → Type 0
AreBehind k no_members = ⊤
AreBehind k (member l d ms) = (slice_cmp nat_cmp k l ≡ Less) × AreBehind k ms

abbrev mutual
  pub Ascends : Data → Type 0
  Ascends null = ⊤
  Ascends (boolean b) = ⊤
  Ascends (number n) = ⊤
  Ascends (string s) = ⊤
  Ascends (array ds) = ItemsAscend ds
  Ascends (object ms) = MembersAscend ms

  pub ItemsAscend : Items → Type 0
  ItemsAscend no_items = ⊤
  ItemsAscend (item d ds) = Ascends d × ItemsAscend ds

  pub MembersAscend : Members → Type 0
  MembersAscend no_members = ⊤
  MembersAscend (member k d ms) = AreBehind k ms × Ascends d × MembersAscend ms

-- ---- one member more

behind_further : (j k : List ℕ) (ms : Members) → slice_cmp nat_cmp j k ≡ Less → AreBehind k ms → AreBehind j ms
behind_further j k no_members h behind = tt
behind_further j k (member l d ms) h behind = (nat_list_cmp_total.trans j k l h behind.0, behind_further j k ms h behind.1)

put_behind_at : (o : Ordering) (j k l : List ℕ) (d e : Data) (ms : Members) → slice_cmp nat_cmp j k ≡ Less → slice_cmp nat_cmp j l ≡ Less → AreBehind j ms → AreBehind j (put k d ms)
    → AreBehind j (match_ordering o (member k d (member l e ms)) (member l d ms) (member l e (put k d ms)))
put_behind_at Less j k l d e ms new old rest more = (new, (old, rest))
put_behind_at Equal j k l d e ms new old rest more = (old, rest)
put_behind_at Greater j k l d e ms new old rest more = (old, more)

put_behind : (j k : List ℕ) (d : Data) (ms : Members) → slice_cmp nat_cmp j k ≡ Less → AreBehind j ms → AreBehind j (put k d ms)
put_behind j k d no_members h rest = (h, tt)
put_behind j k d (member l e ms) h rest = put_behind_at (slice_cmp nat_cmp k l) j k l d e ms h rest.0 rest.1 (put_behind j k d ms h rest.1)

put_ascends_at : (o : Ordering) (k l : List ℕ) (d e : Data) (ms : Members) → slice_cmp nat_cmp k l ≡ o → Ascends d → MembersAscend (member l e ms) → MembersAscend (put k d ms)
    → MembersAscend (match_ordering o (member k d (member l e ms)) (member l d ms) (member l e (put k d ms)))
put_ascends_at Less k l d e ms is one all more = ((is, behind_further k l ms is all.0), one, all)
put_ascends_at Equal k l d e ms is one all more = (all.0, one, all.2)
put_ascends_at Greater k l d e ms is one all more = (put_behind l k d ms (nat_list_cmp_total.antisymm l k ∙ ap ordering_reverse is) all.0, all.1, more)

put_ascends : (k : List ℕ) (d : Data) (ms : Members) → Ascends d → MembersAscend ms → MembersAscend (put k d ms)
put_ascends k d no_members one all = (tt, one, tt)
put_ascends k d (member l e ms) one all = put_ascends_at (slice_cmp nat_cmp k l) k l d e ms refl one all (put_ascends k d ms one all.2)

-- ---- a value that is read

module _ {A B : Type 0} (P : A → Type 0) (Q : B → Type 0) where
  some_map : (f : A → B) → ((x : A) → P x → Q (f x)) → (o : Option A) → IfSome o P → IfSome (option_map f o) Q
  some_map f on None h = tt
  some_map f on (Some x) h = on x h

  some_then : (f : A → Option B) → ((x : A) → P x → IfSome (f x) Q) → (o : Option A) → IfSome o P → IfSome (option_and_then f o) Q
  some_then f on None h = tt
  some_then f on (Some x) h = on x h

any_some : {A : Type 0} (o : Option A) → IfSome o (λ x. ⊤)
any_some None = tt
any_some (Some x) = tt

abbrev Any : {A : Type 0} → A → Type 0
Any x = ⊤

mutual
  json_ascends : (j : json.Json) → IfSome (of_json j) Ascends
  json_ascends json.null = tt
  json_ascends (json.boolean b) = tt
  json_ascends (json.number s) = some_map Any Ascends number (λ n h. tt) (number_of s) (any_some (number_of s))
  json_ascends (json.string s) = tt
  json_ascends (json.array js) = some_map ItemsAscend Ascends array (λ ds h. h) (of_items js) (items_ascend js)
  json_ascends (json.object ms) = some_map MembersAscend Ascends object (λ ns h. h) (of_members ms no_members) (members_ascend ms no_members tt)

  items_ascend : (js : json.Items) → IfSome (of_items js) ItemsAscend
  items_ascend json.no_items = tt
  items_ascend (json.item j js) =
      some_then Ascends ItemsAscend (λ d. option_map (item d) (of_items js)) (λ d h. some_map ItemsAscend ItemsAscend (item d) (λ ds k. (h, k)) (of_items js) (items_ascend js)) (of_json j) (json_ascends j)

  members_ascend : (ms : json.Members) (found : Members) → MembersAscend found → IfSome (of_members ms found) MembersAscend
  members_ascend json.no_members found h = h
  members_ascend (json.member k j ms) found h =
      some_then Ascends MembersAscend (λ d. of_members ms (put k d found)) (λ d one. members_ascend ms (put k d found) (put_ascends k d found one h)) (of_json j) (json_ascends j)

abbrev tree_of : List ℕ → Option json.Json
tree_of bytes = option_and_then (λ p. json.if_last p.0 p.1) (json.value max_depth (tokens bytes))

pub read_ascends : (bytes : List ℕ) (d : Data) → read bytes ≡ Some d → Ascends d
read_ascends bytes d e = subst (λ o. IfSome o Ascends) e (some_then Any Ascends of_json (λ j h. json_ascends j) (tree_of bytes) (any_some (tree_of bytes)))

-- ---- what is found in it

pub some_is : {A : Type 0} (x y : A) → Some x ≡ Some y → x ≡ y
some_is x y h = cc

found_ascends : (o : Ordering) (e d : Data) (rest : Option Data) → Ascends e → (rest ≡ Some d → Ascends d) → match_ordering o rest (Some e) rest ≡ Some d → Ascends d
found_ascends Less e d rest one more is = more is
found_ascends Equal e d rest one more is = subst Ascends (some_is e d is) one
found_ascends Greater e d rest one more is = more is

member_ascends : (k : List ℕ) (ms : Members) (d : Data) → MembersAscend ms → get_member k ms ≡ Some d → Ascends d
member_ascends k no_members d all is = absurd (cc)
member_ascends k (member l e ms) d all is = found_ascends (slice_cmp nat_cmp k l) e d (get_member k ms) all.1 (member_ascends k ms d all.2) is

pub get_ascends : (k : List ℕ) (d e : Data) → Ascends d → get k d ≡ Some e → Ascends e
get_ascends k (object ms) e all is = member_ascends k ms e all is
get_ascends k d e all is = absurd (cc)

items_listed : (ds : Items) → ItemsAscend ds → AllByRecursion Ascends (listed ds)
items_listed no_items h = tt
items_listed (item d ds) h = (h.0, items_listed ds h.1)

array_found : (o : Option Data) (ds : Items) → ((e : Data) → o ≡ Some e → Ascends e) → option_and_then as_array o ≡ Some ds → ItemsAscend ds
array_found None ds each is = absurd (cc)
array_found (Some (array es)) ds each is = subst ItemsAscend (some_is es ds is) (each (array es) refl)
array_found (Some e) ds each is = absurd (cc)

pub array_ascends : (k : List ℕ) (d : Data) (ds : Items) → Ascends d → option_and_then as_array (get k d) ≡ Some ds → AllByRecursion Ascends (listed ds)
array_ascends k d ds all is = items_listed ds (array_found (get k d) ds (λ e h. get_ascends k d e all h) is)
