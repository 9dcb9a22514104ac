-- The entries of a payload list.
use Rattle.std.proofs.Common.{◌≡◌, ◌≢◌, ℕ, ◌<◌, ◌+◌, suc, drop, get_or, drop-cons, ◌≤◌, ◌++◌, IfSome, append_assoc, append-nil, List, [], ◌∷◌, Option, Some, None, Result, Ok, Err, length, refl, sym, ap, ◌∙◌, subst, arith, rules, add-one, codes, String}
use Rattle.std.proofs.lemmas.List.{length-map}
use Rattle.std.specs.declared.alloc.Global.{Global}
use Rattle.serde_json.specs.Data.{Data, Items, no_items, item, Members}
use Rattle.serde_json.specs.Find.{as_array, as_object}
use Rattle.serde_json.specs.Read as json
use Rattle.serde_json.specs.View.{view, items_view, members_of, members_view}
use Rattle.serde_json.specs.declared.value.Value.{Value}
use Rattle.prefixes.specs.Payload.{Payload, block_of, width_of}
use Rattle.prefixes.specs.Text.{PrefixText}
use Rattle.prefixes.specs.declared.fault.PrefixFault.{PrefixFault}
use Rattle.prefixes.specs.declared.prefix.IpPrefix.{IpPrefix}
use Rattle.payload_lists.specs.PayloadList.{AreEntries, IsEntry, IsPayloadList, ListsSet, member_count, text_at, whole_at}
use Rattle.payload_lists.specs.EntrySteps.{MakesPayload}
use Rattle.vrps.specs.VrpSet.{VrpSet, set_of, size}

count_of : (ms : List (String Global × Data)) → member_count (members_of ms) ≡ length ms
count_of [] = refl
count_of (m ∷ ms) = rw (count_of ms) search rules

pub count_view : (ms : List (String Global × Value)) → member_count (members_view ms) ≡ length ms
count_view ms = count_of _ ∙ length-map ms _

pub same_member_count : (ms ns : Members) (d : Data) (n : ℕ) → Some ms ≡ as_object d → as_object d ≡ Some ns → member_count ms ≡ n → member_count ns ≡ n
same_member_count ms ns d n e h count = let same : ms ≡ ns = some_same ms ns (e ∙ h) in subst (λ x. member_count x ≡ n) same count
  where
    some_same : (a b : Members) → Some a ≡ Some b → a ≡ b
    some_same a b e = cc

-- an object of three members, with the values of the keys
pub is_entry : (d : Data) (ms : Members) (asn max_len : ℕ) (text : List ℕ) (v : Payload) → Some ms ≡ as_object d → member_count ms ≡ 3
    → Some asn ≡ whole_at (codes "asn") d → Some max_len ≡ whole_at (codes "maxLength") d → Some text ≡ text_at (codes "prefix") d
    → MakesPayload asn max_len text v → IsEntry d v
is_entry d ms asn max_len text v object three has_asn has_max has_text made = record {
  members = ms;
  is_object = sym object;
  three = three;
  asn = sym has_asn ∙ ap Some made.asn_is;
  max_len = sym has_max ∙ ap Some made.max_len_is;
  text = text;
  has_text = sym has_text;
  prefix = made.prefix;
  payload = made.payload;
}

-- The number of members of an object is one number.
pub not_three : (v : Payload) (d : Data) (ms : Members) (n : ℕ) → Some ms ≡ as_object d → member_count ms ≡ n → n ≢ 3 → ¬ (IsEntry d v)
not_three v d ms n e count other h = other (sym (same_member_count ms h.members d n e h.is_object count) ∙ h.three)

-- a prefix, as it is read
abbrev pub read : IpPrefix → Result IpPrefix PrefixFault
read p = Ok p

-- The prefix that is read is the one of a payload of this text.
abbrev pub IsOnly : List ℕ → IpPrefix → Type 0
IsOnly text p = (q : IpPrefix) → PrefixText q text → read p ≡ read q

same_prefix : (p q : IpPrefix) → read p ≡ read q → q ≡ p
same_prefix p q e = cc

-- numbers that make no payload with this prefix
pub makes_none : (text : List ℕ) (p : IpPrefix) (asn max_len : ℕ) → IsOnly text p → ((((block_of p).len ≤ max_len) × (max_len ≤ width_of p)) → ⊥) → (v : Payload) → ¬ (MakesPayload asn max_len text v)
makes_none text p asn max_len only none v h =
    let same : v.prefix ≡ p = same_prefix p v.prefix (only v.prefix h.prefix) in
    let low : (block_of p).len ≤ v.max_len = subst (λ q. (block_of q).len ≤ v.max_len) same h.payload.not_shorter in
    let high : v.max_len ≤ width_of p = subst (λ q. v.max_len ≤ width_of q) same h.payload.in_family in
    none (omega (arith, low, h.max_len_is), omega (arith, high, h.max_len_is))

pub if_some : {A : Type 0} {P Q : A → Type 0} (o : Option A) → ((x : A) → P x → Q x) → IfSome o P → IfSome o Q
if_some None f h = h
if_some (Some x) f h = f x h

-- The entries so far are these payloads, and others are left.
pub record SoFar (whole left : Items) (done : List Payload) : Type 0 where
  pub on : (vs : List Payload) → AreEntries left vs → AreEntries whole (done ++ vs)
  pub rest : (vs : List Payload) → AreEntries whole vs → (ws : List Payload) × AreEntries left ws × (vs ≡ done ++ ws)

pub begin : (whole : Items) → SoFar whole whole []
begin whole = record { on = λ vs h. h; rest = λ vs h. (vs, h, refl) }

head_of : (d : Data) (left : Items) (ws : List Payload) → AreEntries (item d left) ws → (v : Payload) × IsEntry d v
head_of d left [] h = absurd h
head_of d left (w ∷ ws) h = (w, h.0)

next_of : (left : Items) (d : Data) (done : List Payload) (v : Payload) (vs ws : List Payload) → ((w : Payload) → IsEntry d w → w ≡ v) → AreEntries (item d left) ws → vs ≡ done ++ ws
    → (rest : List Payload) × AreEntries left rest × (vs ≡ (done ++ v ∷ []) ++ rest)
next_of left d done v vs [] one h is = absurd h
next_of left d done v vs (w ∷ ws) one h is = (ws, h.1, is ∙ ap (λ x. done ++ x ∷ ws) (one w h.0) ∙ sym (append_assoc done (v ∷ []) ws))

pub step : (whole left : Items) (d : Data) (done : List Payload) (v : Payload) → SoFar whole (item d left) done → IsEntry d v → ((w : Payload) → IsEntry d w → w ≡ v) → SoFar whole left (done ++ v ∷ [])
step whole left d done v s e one = record {
  on = λ vs h. subst (λ xs. AreEntries whole xs) (sym (append_assoc done (v ∷ []) vs)) (s.on (v ∷ vs) (e, h));
  rest = λ vs h. let more = s.rest vs h in next_of left d done v vs more.0 one more.1 more.2;
}

pub finish : (whole : Items) (done : List Payload) → SoFar whole no_items done → AreEntries whole done
finish whole done s = subst (λ xs. AreEntries whole xs) (append-nil done) (s.on [] tt)

-- These are all, and no others are.
only_empty : (ws : List Payload) → AreEntries no_items ws → ws ≡ []
only_empty [] h = refl
only_empty (w ∷ ws) h = absurd h

pub finish_one : (whole : Items) (done : List Payload) → SoFar whole no_items done → (vs : List Payload) → AreEntries whole vs → vs ≡ done
finish_one whole done s vs h = let more = s.rest vs h in more.2 ∙ ap (λ ws. done ++ ws) (only_empty more.0 more.1) ∙ append-nil done

pub stop : (whole left : Items) (d : Data) (done : List Payload) → SoFar whole (item d left) done → ((v : Payload) → ¬ (IsEntry d v)) → (vs : List Payload) → ¬ (AreEntries whole vs)
stop whole left d done s none vs h = let more = s.rest vs h in let first = head_of d left more.0 more.1 in none first.0 first.1

-- the items from a place on
pub next_item : (list : List Value) (i : ℕ) (x : Value) → i < length list → x ≡ get_or list i x → items_view (drop i list) ≡ item (view x) (items_view (drop (i + 1) list))
next_item list i x h e =
    let cut : drop i list ≡ x ∷ drop (i + 1) list = rw (add-one, drop-cons list i x) (ap (λ y. y ∷ drop (suc i) list) (sym e)) in ap (λ l. items_view l) cut

pub one_some : {A : Type 0} (a b : A) (o : Option A) → o ≡ Some a → o ≡ Some b → a ≡ b
one_some a b o e f = let same : Some a ≡ Some b = sym e ∙ f in cc

pub lists : (items : Items) (records : List Payload) (s : VrpSet) → AreEntries items records → s ≡ set_of records → size s ≤ 16777215 → ListsSet items s
lists items records s entries is few = record { records = records; entries = entries; set_is = is; within_limit = few }

-- An array of the entries of too many different records is no list.
pub too_many : (items : Items) (records : List Payload) (s : VrpSet) → ((vs : List Payload) → AreEntries items vs → vs ≡ records) → 16777215 < size (set_of records) → ¬ (ListsSet items s)
too_many items records s one many h =
    let same : h.records ≡ records = one h.records h.entries in
    let sizes : size s ≡ size (set_of records) = ap (λ x. size x) (h.set_is ∙ ap (λ vs. set_of vs) same) in
    absurd (omega (arith, sizes, many, h.within_limit))

-- what a payload list lists, as its bytes are read
pub same_list : (bytes : List ℕ) (s : VrpSet) (value : Data) (items : Items) → IsPayloadList bytes s → json.read bytes ≡ Some value → Some items ≡ as_array value → ListsSet items s
same_list bytes s value items h reads array =
    let values : h.value ≡ value = one_some h.value value (json.read bytes) h.reads reads in
    let arrays : h.items ≡ items = one_some h.items items (as_array value) (ap (λ d. as_array d) (sym values) ∙ h.is_array) (sym array) in
    subst (λ ds. ListsSet ds s) arrays h.lists

-- the error that `?` hands on
error_is : {T E : Type 0} (x t : E) → ◌≡◌ {A = Result T E} (Err x) (Err t) → x ≡ t
error_is x t h = cc

pub same_error : {T S E : Type 0} (r : Result T E) (q : Result S E) (x y t : E) → r ≡ Err x → x ≡ y → q ≡ Err y → r ≡ Err t → q ≡ Err t
same_error {T = T} r q x y t a b d e = d ∙ ap Err (sym b ∙ error_is {T = T} x t (sym a ∙ e))
