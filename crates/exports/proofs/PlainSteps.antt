-- Members and items, one after the other, to the end of their object or array.
use Rattle.std.proofs.Common.{◌≡◌, ℕ, zero, suc, ◌-◌, ◌<◌, ◌≤◌, List, [], ◌∷◌, ◌++◌, length, Option, Some, None, refl, sym, ap, ◌∙◌, arith, Bool, option_map}
use Rattle.std.specs.Prelude.{option_and_then}
use Rattle.json.specs.Token.{Token}
use Rattle.json.specs.Json as json
use Rattle.json.specs.Json.{after_end_array, items, members, parse_map, read_key, value}
use Rattle.json.proofs.Grammar.{after_end_array-shorter, items_end, items_fail, items_more, members_end, members_fail, members_more, members_no_key, read_key-shorter, value_is}
use Rattle.serde_json.specs.Data.{Data, Items, no_items, item, Members, no_members, array, object, put}
use Rattle.serde_json.specs.Read.{of_items, of_json, of_members, converted}
use Rattle.payload_lists.proofs.PlainLoop.{twice}
use Rattle.payload_lists.proofs.PlainTurns.{converted-object}
use Rattle.exports.specs.PlainForm.{ReadsItems, ReadsMembers, ReadsNoItems, ReadsNoMembers, ReadsNone, ReadsSome, before}

converted-array : (o : Option (json.Items × List Token)) → converted of_json (parse_map json.array o) ≡ parse_map array (converted of_items o)
converted-array None = refl
converted-array (Some p) = twice array p.1 (of_items p.0)

-- What is added in front of what is read, in two steps
in_two : {A B C : Type 0} (f : B → C) (g : A → B) (r : Option (A × List Token)) → parse_map f (parse_map g r) ≡ parse_map (λ x. f (g x)) r
in_two f g None = refl
in_two f g (Some p) = refl

as_it_is : {A : Type 0} (r : Option (A × List Token)) → r ≡ parse_map (λ x. x) r
as_it_is None = refl
as_it_is (Some p) = refl

-- Nothing is made of what was read, under f.
none_made : {A B C : Type 0} (f : A → C) (made : C → Option B) (r : Option (A × List Token)) → ((a : A) → made (f a) ≡ None) → converted made (parse_map f r) ≡ None
none_made f made None h = refl
none_made f made (Some p) h = ap (option_map (λ b. (b, p.1))) (h p.0)

-- A value is none, or nothing is made of it.
abbrev pub Unread : Option (json.Json × List Token) → Type 0
Unread None = Unit {0}
Unread (Some p) = of_json p.0 ≡ None

pub unread : (o : Option (json.Json × List Token)) → converted of_json o ≡ None → Unread o
unread None h = tt
unread (Some p) h = none_of (of_json p.0) h
  where
    none_of : (x : Option Data) → option_map {U = Data × List Token} (λ b. (b, p.1)) x ≡ None → x ≡ None
    none_of None h = refl
    none_of (Some d) h = absurd (cc)

-- What is read of an object, and of an array, are its members and items.
object_value : (k : ℕ) (ts : List Token) → value (suc k) (Token.begin_object ∷ ts) ≡ parse_map json.object (members (value k) (length ts) ts)
unfolding value
object_value k ts = refl

array_value : (k : ℕ) (ts : List Token) → value (suc k) (Token.begin_array ∷ ts) ≡ parse_map json.array (items (value k) (length ts) ts)
unfolding value
array_value k ts = refl

-- ---- members

-- From these tokens on such members were read, and these tokens are left. The members so far are a function of those to come: both
-- together.
abbrev pub Begun : ℕ → ((json.Members → json.Members) → Members → Type 0) → List Token → List Token → Type 0
Begun k Are start now =
    (length now ≤ length start)
    × ((n : ℕ) × (length now ≤ n) × (so_far : json.Members → json.Members) × (ms : Members) × Are so_far ms
    × (members (value k) (length start) start ≡ parse_map so_far (members (value k) n now))
    × ((rest : json.Members) → of_members (so_far rest) no_members ≡ of_members rest ms))

pub begun : (k : ℕ) (Are : (json.Members → json.Members) → Members → Type 0) (start : List Token) → Are (λ rest. rest) no_members → Begun k Are start start
begun k Are start are = (omega arith, (length start, omega arith, (λ rest. rest), no_members, are, as_it_is _, λ rest. refl))

pub one_more : (k : ℕ) (Are More : (json.Members → json.Members) → Members → Type 0) (Is : json.Json → Data → Type 0) (start now s new : List Token) (name : List ℕ) → Begun k Are start now → read_key now ≡ Some (Some name, s)
    → ReadsSome k Is s new → ((so_far : json.Members → json.Members) (ms : Members) (j : json.Json) (d : Data) → Are so_far ms → Is j d → More (λ rest. so_far (json.member name j rest)) (put name d ms)) → Begun k More start new
one_more k Are More Is start now s new name so_far key read more =
    let less = read_key-shorter now (Some name) s key in
    let b = so_far.1 in
    let v = read.1 in (
      omega (arith, so_far.0, less, read.0),
      (
        b.0 - 1,
        omega (arith, b.1, less, read.0),
        (λ rest. b.2 (json.member name v.0 rest)),
        put name v.1 b.3,
        more b.2 b.3 v.0 v.1 b.4 v.2,
        b.5 ∙ ap (parse_map b.2) (members_more (value k) b.0 name now s new v.0 (omega (arith, b.1, less)) key v.3) ∙ in_two b.2 (json.member name v.0) _,
        λ rest. b.6 (json.member name v.0 rest) ∙ ap (option_and_then (λ d. of_members rest (put name d b.3))) v.4,
      ),
    )

pub ends : (k : ℕ) (Are : (json.Members → json.Members) → Members → Type 0) (Last : json.Members → Members → Type 0) (start now rest : List Token) → Begun k Are start now → read_key now ≡ Some (None, rest)
    → ((so_far : json.Members → json.Members) (ms : Members) → Are so_far ms → Last (so_far json.no_members) ms) → ReadsMembers k Last start rest
ends k Are Last start now rest so_far end last =
    let less = read_key-shorter now None rest end in
    let b = so_far.1 in (
      omega (arith, so_far.0, less),
      (b.2 json.no_members, b.3, last b.2 b.3 b.4, b.5 ∙ ap (parse_map b.2) (members_end (value k) b.0 now rest b.1 end), b.6 json.no_members),
    )

-- Without a name, or without a value behind it, the members are not to be read.
pub no_name : (k : ℕ) (Are : (json.Members → json.Members) → Members → Type 0) (start now : List Token) → Begun k Are start now → read_key now ≡ None → ReadsNoMembers k start
no_name k Are start now so_far none =
    let b = so_far.1 in ap (converted (λ x. of_members x no_members)) (b.5 ∙ ap (parse_map b.2) (members_no_key (value k) b.0 now none))

pub no_value : (k : ℕ) (Are : (json.Members → json.Members) → Members → Type 0) (start now s : List Token) (name : List ℕ) → Begun k Are start now → read_key now ≡ Some (Some name, s) → ReadsNone k s → ReadsNoMembers k start
no_value k Are start now s name so_far key none = by (value k s) refl (unread (value k s) none)
  where
    b : (n : ℕ) × (length now ≤ n) × (f : json.Members → json.Members) × (ms : Members) × Are f ms × (members (value k) (length start) start ≡ parse_map f (members (value k) n now)) × ((rest : json.Members) → of_members (f rest) no_members ≡ of_members rest ms)
    b = so_far.1

    by : (o : Option (json.Json × List Token)) → value k s ≡ o → Unread o → ReadsNoMembers k start
    by None is h = ap (converted (λ x. of_members x no_members)) (b.5 ∙ ap (parse_map b.2) (members_fail (value k) b.0 name now s key is))
    by (Some p) is h =
        let less = read_key-shorter now (Some name) s key in
        let more = b.5 ∙ ap (parse_map b.2) (members_more (value k) b.0 name now s p.1 p.0 (omega (arith, b.1, less)) key is) ∙ in_two b.2 (json.member name p.0) _ in
        ap (converted (λ x. of_members x no_members)) more
        ∙ none_made (λ rest. b.2 (json.member name p.0 rest)) (λ x. of_members x no_members) (members (value k) (b.0 - 1) p.1) (λ rest. b.6 (json.member name p.0 rest) ∙ ap (option_and_then (λ d. of_members rest (put name d b.3))) h)

pub object_read : (k : ℕ) (Are : json.Members → Members → Type 0) (Is : json.Json → Data → Type 0) (old ts new : List Token) → old ≡ Token.begin_object ∷ ts → ReadsMembers k Are ts new
    → ((js : json.Members) (ms : Members) → Are js ms → Is (json.object js) (object ms)) → ReadsSome (suc k) Is old new
object_read k Are Is old ts new first read is =
    let long : length old ≡ suc (length ts) = ap length first in
    let m = read.1 in (
      omega (arith, long, read.0),
      (json.object m.0, object m.1, is m.0 m.1 m.2, ap (value (suc k)) first ∙ object_value k ts ∙ ap (parse_map json.object) m.3, ap (option_map object) m.4),
    )

pub no_object : (k : ℕ) (old ts : List Token) → old ≡ Token.begin_object ∷ ts → ReadsNoMembers k ts → ReadsNone (suc k) old
no_object k old ts first none =
    ap (converted of_json) (ap (value (suc k)) first ∙ object_value k ts) ∙ converted-object (members (value k) (length ts) ts) ∙ ap (parse_map object) none

-- ---- items

-- From these tokens on such items were read, and these tokens are left. The items so far are a function of those to come: both together.
abbrev pub BegunItems : ℕ → ((json.Items → json.Items) → List Data → Type 0) → List Token → List Token → Type 0
BegunItems k Are start now =
    (length now ≤ length start)
    × ((n : ℕ) × (length now ≤ n) × (so_far : json.Items → json.Items) × (ds : List Data) × Are so_far ds
    × (items (value k) (length start) start ≡ parse_map so_far (items (value k) n now))
    × ((rest : json.Items) → of_items (so_far rest) ≡ option_map (before ds) (of_items rest)))

push : (ds : List Data) (d : Data) (rest : Items) → before ds (item d rest) ≡ before (ds ++ d ∷ []) rest
push [] d rest = refl
push (e ∷ ds) d rest = ap (item e) (push ds d rest)

pushed : (ds : List Data) (d : Data) (r : Option Items) → option_map (before ds) (option_map (item d) r) ≡ option_map (before (ds ++ d ∷ [])) r
pushed ds d None = refl
pushed ds d (Some rest) = ap Some (push ds d rest)

none_pushed : (r : Option Items) → r ≡ option_map (before []) r
none_pushed None = refl
none_pushed (Some rest) = refl

pub begun_items : (k : ℕ) (Are : (json.Items → json.Items) → List Data → Type 0) (start : List Token) → Are (λ rest. rest) [] → BegunItems k Are start start
begun_items k Are start are = (omega arith, (length start, omega arith, (λ rest. rest), [], are, as_it_is _, λ rest. none_pushed (of_items rest)))

pub one_more_item : (k : ℕ) (Are More : (json.Items → json.Items) → List Data → Type 0) (Is : json.Json → Data → Type 0) (start now new : List Token) → BegunItems k Are start now → after_end_array now ≡ None → ReadsSome k Is now new
    → ((so_far : json.Items → json.Items) (ds : List Data) (j : json.Json) (d : Data) → Are so_far ds → Is j d → More (λ rest. so_far (json.item j rest)) (ds ++ d ∷ [])) → BegunItems k More start new
one_more_item k Are More Is start now new so_far going read more =
    let b = so_far.1 in
    let v = read.1 in (
      omega (arith, so_far.0, read.0),
      (
        b.0 - 1,
        omega (arith, b.1, read.0),
        (λ rest. b.2 (json.item v.0 rest)),
        b.3 ++ v.1 ∷ [],
        more b.2 b.3 v.0 v.1 b.4 v.2,
        b.5 ∙ ap (parse_map b.2) (items_more (value k) b.0 now new v.0 (omega (arith, b.1, read.0)) going v.3) ∙ in_two b.2 (json.item v.0) _,
        λ rest. b.6 (json.item v.0 rest) ∙ ap (λ o. option_map (before b.3) (option_and_then (λ d. option_map (item d) (of_items rest)) o)) v.4 ∙ pushed b.3 v.1 (of_items rest),
      ),
    )

pub ends_items : (k : ℕ) (Are : (json.Items → json.Items) → List Data → Type 0) (Last : json.Items → List Data → Type 0) (start now rest : List Token) → BegunItems k Are start now → after_end_array now ≡ Some rest
    → ((so_far : json.Items → json.Items) (ds : List Data) → Are so_far ds → Last (so_far json.no_items) ds) → ReadsItems k Last start rest
ends_items k Are Last start now rest so_far end last =
    let less = after_end_array-shorter now rest end in
    let b = so_far.1 in (
      omega (arith, so_far.0, less),
      (b.2 json.no_items, b.3, last b.2 b.3 b.4, b.5 ∙ ap (parse_map b.2) (items_end (value k) b.0 now rest b.1 end), b.6 json.no_items),
    )

-- Without a value the items are not to be read.
pub no_item : (k : ℕ) (Are : (json.Items → json.Items) → List Data → Type 0) (start now : List Token) → BegunItems k Are start now → after_end_array now ≡ None → ReadsNone k now → ReadsNoItems k start
no_item k Are start now so_far going none = by (value k now) refl (unread (value k now) none)
  where
    b : (n : ℕ) × (length now ≤ n) × (f : json.Items → json.Items) × (ds : List Data) × Are f ds × (items (value k) (length start) start ≡ parse_map f (items (value k) n now)) × ((rest : json.Items) → of_items (f rest) ≡ option_map (before ds) (of_items rest))
    b = so_far.1

    some : (ts : List Token) (p : json.Json × List Token) → value k ts ≡ Some p → 0 < length ts
    some [] p is = let no : None ≡ Some p = sym (value_is k []) ∙ is in absurd (cc)
    some (t ∷ ts) p is = omega arith

    by : (o : Option (json.Json × List Token)) → value k now ≡ o → Unread o → ReadsNoItems k start
    by None is h = ap (converted of_items) (b.5 ∙ ap (parse_map b.2) (items_fail (value k) b.0 now going is))
    by (Some p) is h =
        let long = some now p is in
        let more = b.5 ∙ ap (parse_map b.2) (items_more (value k) b.0 now p.1 p.0 (omega (arith, b.1, long)) going is) ∙ in_two b.2 (json.item p.0) _ in
        ap (converted of_items) more
        ∙ none_made (λ rest. b.2 (json.item p.0 rest)) of_items (items (value k) (b.0 - 1) p.1)
        (λ rest. b.6 (json.item p.0 rest) ∙ ap (λ o. option_map (before b.3) (option_and_then (λ d. option_map (item d) (of_items rest)) o)) h)

pub array_read : (k : ℕ) (Are : json.Items → List Data → Type 0) (Is : json.Json → Data → Type 0) (old ts new : List Token) → old ≡ Token.begin_array ∷ ts → ReadsItems k Are ts new
    → ((js : json.Items) (ds : List Data) → Are js ds → Is (json.array js) (array (before ds no_items))) → ReadsSome (suc k) Is old new
array_read k Are Is old ts new first read is =
    let long : length old ≡ suc (length ts) = ap length first in
    let m = read.1 in (
      omega (arith, long, read.0),
      (
        json.array m.0,
        array (before m.1 no_items),
        is m.0 m.1 m.2,
        ap (value (suc k)) first ∙ array_value k ts ∙ ap (parse_map json.array) m.3,
        ap (option_map array) m.4,
      ),
    )

pub no_array : (k : ℕ) (old ts : List Token) → old ≡ Token.begin_array ∷ ts → ReadsNoItems k ts → ReadsNone (suc k) old
no_array k old ts first none =
    ap (converted of_json) (ap (value (suc k)) first ∙ array_value k ts) ∙ converted-array (items (value k) (length ts) ts) ∙ ap (parse_map array) none

-- ---- values

-- What holds of a value may be another thing that follows.
pub other : (k : ℕ) (Is More : json.Json → Data → Type 0) (old new : List Token) → ((j : json.Json) (d : Data) → of_json j ≡ Some d → value k old ≡ Some (j, new) → Is j d → More j d) → ReadsSome k Is old new → ReadsSome k More old new
other k Is More old new more read = let v = read.1 in (read.0, (v.0, v.1, more v.0 v.1 v.4 v.3 v.2, v.3, v.4))

pub scalar_read : (k : ℕ) (Is : json.Json → Data → Type 0) (old new : List Token) (t : Token) (j : json.Json) (d : Data) → old ≡ t ∷ new → value k (t ∷ new) ≡ Some (j, new) → of_json j ≡ Some d → Is j d → ReadsSome k Is old new
scalar_read k Is old new t j d first read made is =
    let long : length old ≡ suc (length new) = ap length first in (omega (arith, long), (j, d, is, ap (value k) first ∙ read, made))

pub null_read : (new : List Token) (depth : ℕ) → value depth (Token.null ∷ new) ≡ Some (json.null, new)
null_read new depth = value_is depth (Token.null ∷ new)

pub boolean_read : (b : Bool) (new : List Token) (depth : ℕ) → value depth (Token.boolean b ∷ new) ≡ Some (json.boolean b, new)
boolean_read b new depth = value_is depth (Token.boolean b ∷ new)

-- At the end, at what is no first token of a value, and nested too deep no value is read.
pub none_at_end : (k : ℕ) (old : List Token) → old ≡ [] → ReadsNone k old
none_at_end k old is = ap (converted of_json) (ap (value k) is ∙ value_is k [])

pub none_at : (k : ℕ) (old : List Token) → value k old ≡ None → ReadsNone k old
none_at k old is = ap (converted of_json) is

pub too_deep : (k : ℕ) (ts : List Token) → k ≡ 0 → ReadsNone k (Token.begin_object ∷ ts) × ReadsNone k (Token.begin_array ∷ ts)
unfolding value
too_deep zero ts is = (refl, refl)
too_deep (suc k) ts is = absurd (omega (arith, is))
