-- Entries one after the other, to the end of their array.
use Rattle.std.proofs.Common.{◌≡◌, ℕ, suc, ◌-◌, ◌<◌, ◌≤◌, List, [], ◌∷◌, ◌++◌, length, Option, Some, None, option_map, refl, sym, ap, ◌∙◌, subst, arith}
use Rattle.std.specs.Prelude.{⊤, option_and_then}
use Rattle.json.specs.Token.{Token}
use Rattle.json.specs.Json as json
use Rattle.json.specs.Lex.{tokens}
use Rattle.json.specs.Json.{parse_map, after_end_array, items, value}
use Rattle.json.proofs.Grammar.{items_more, items_end, value-begin_array}
use Rattle.serde_json.specs.Data.{Data, Items, no_items, item, array}
use Rattle.serde_json.specs.Read.{of_json, of_items, converted, read}
use Rattle.prefixes.specs.Payload.{Payload}
use Rattle.payload_lists.specs.PayloadList.{AreEntries, IsEntry}
use Rattle.payload_lists.specs.PlainForm.{ReadsSome, ReadsEntry, ReadsNoEntry, ReadsItems, RefusesItems}

abbrev pick : {A : Type 0} → A → Option A → A
pick d None = d
pick d (Some a) = a

found : {A B : Type 0} (a : A) (r s : List Token) (x : Option B) (b : B) → option_map {U = B × List Token} (λ y. (y, r)) x ≡ Some (b, s) → (r ≡ s) × (x ≡ Some b)
found a r s None b e = absurd (cc)
found a r s (Some y) b e = let same = ap (pick (y, r)) e in (ap (λ p. p.1) same, ap (λ p. Some p.0) same)

pub converted_some : {A B : Type 0} (f : A → Option B) (o : Option (A × List Token)) (b : B) (r : List Token) → converted f o ≡ Some (b, r) → (a : A) × (o ≡ Some (a, r)) × (f a ≡ Some b)
converted_some f None b r e = absurd (cc)
converted_some f (Some p) b r e = let both = found p.0 p.1 r (f p.0) b e in (p.0, ap (λ s. Some (p.0, s)) both.0, both.1)

pub twice : {A B : Type 0} (g : A → B) (r : List Token) (x : Option A) → option_map (λ b. (b, r)) (option_map g x) ≡ parse_map g (option_map (λ a. (a, r)) x)
twice g r None = refl
twice g r (Some a) = refl

pub with_item : (j : json.Json) (d : Data) → of_json j ≡ Some d → (o : Option (json.Items × List Token)) → converted of_items (parse_map (json.item j) o) ≡ parse_map (item d) (converted of_items o)
with_item j d e None = refl
with_item j d e (Some p) = rw e (twice (item d) p.1 (of_items p.0))

-- ---- the items so far, and those to come

abbrev pub before : List Data → Items → Items
before [] rest = rest
before (d ∷ ds) rest = item d (before ds rest)

abbrev pub AreBefore : List Data → List Payload → Type 0
AreBefore [] [] = ⊤
AreBefore (d ∷ ds) (v ∷ vs) = IsEntry d v × AreBefore ds vs
AreBefore [] (v ∷ vs) = ⊥
AreBefore (d ∷ ds) [] = ⊥

push : (ds : List Data) (d : Data) (rest : Items) → before ds (item d rest) ≡ before (ds ++ d ∷ []) rest
push [] d rest = refl
push (e ∷ ds) d rest = ap (item e) (push ds d rest)

one_more : (ds : List Data) (d : Data) (r : Option (Items × List Token)) → parse_map (before ds) (parse_map (item d) r) ≡ parse_map (before (ds ++ d ∷ [])) r
one_more ds d None = refl
one_more ds d (Some p) = ap (λ x. Some (x, p.1)) (push ds d p.0)

none_more : (r : Option (Items × List Token)) → r ≡ parse_map (before []) r
none_more None = refl
none_more (Some p) = refl

are_more : (ds : List Data) (vs : List Payload) (d : Data) (v : Payload) → AreBefore ds vs → IsEntry d v → AreBefore (ds ++ d ∷ []) (vs ++ v ∷ [])
are_more [] [] d v h e = (e, tt)
are_more (x ∷ ds) (y ∷ vs) d v h e = (h.0, are_more ds vs d v h.1 e)
are_more [] (y ∷ vs) d v h e = absurd h
are_more (x ∷ ds) [] d v h e = absurd h

are_all : (ds : List Data) (vs : List Payload) → AreBefore ds vs → AreEntries (before ds no_items) vs
are_all [] [] h = tt
are_all (x ∷ ds) (y ∷ vs) h = (h.0, are_all ds vs h.1)
are_all [] (y ∷ vs) h = absurd h
are_all (x ∷ ds) [] h = absurd h

-- ---- turns

-- From these tokens on the entries of these payloads were read, and these tokens are left.
abbrev pub Begun : List Token → List Token → List Payload → Type 0
Begun start now vs =
    (depth : ℕ) → (n : ℕ) × (length now ≤ n) × (ds : List Data) × AreBefore ds vs
    × (converted of_items (items (value (suc depth)) (length start) start) ≡ parse_map (before ds) (converted of_items (items (value (suc depth)) n now)))

pub begun : (start : List Token) → Begun start start []
begun start depth = (length start, omega arith, [], tt, none_more _)

-- What is read next is one item more.
next_is : (Is : Data → Type 0) (start now new : List Token) (vs : List Payload) → Begun start now vs → after_end_array now ≡ None → ReadsSome Is now new → (depth : ℕ)
    → (n : ℕ) × (length new ≤ n) × (ds : List Data) × (d : Data) × AreBefore ds vs × Is d
    × (converted of_items (items (value (suc depth)) (length start) start) ≡ parse_map (before (ds ++ d ∷ [])) (converted of_items (items (value (suc depth)) n new)))
next_is Is start now new vs h going read depth =
    let so_far = h depth in
    let d = read.1 (suc depth) (omega arith) in
    let j = converted_some of_json (value (suc depth) now) d.0 new d.2 in
    let some : 0 < so_far.0 = omega (arith, so_far.1, read.0) in (
      so_far.0 - 1,
      omega (arith, so_far.1, read.0),
      so_far.2,
      d.0,
      so_far.3,
      d.1,
      so_far.4
          ∙ ap (λ o. parse_map (before so_far.2) (converted of_items o)) (items_more (value (suc depth)) so_far.0 now new j.0 some going j.1)
          ∙ ap (parse_map (before so_far.2)) (with_item j.0 d.0 j.2 (items (value (suc depth)) (so_far.0 - 1) new))
          ∙ one_more so_far.2 d.0 (converted of_items (items (value (suc depth)) (so_far.0 - 1) new)),
    )

pub begun_more : (start now new : List Token) (vs : List Payload) (v : Payload) → Begun start now vs → after_end_array now ≡ None → ReadsEntry now new v → Begun start new (vs ++ v ∷ [])
begun_more start now new vs v h going read depth =
    let next = next_is (λ d. IsEntry d v) start now new vs h going read depth in
    (next.0, next.1, next.2 ++ next.3 ∷ [], are_more next.2 vs next.3 v next.4 next.5, next.6)

not_among : (ds : List Data) (d : Data) (rest : Items) → ((v : Payload) → ¬ (IsEntry d v)) → (vs : List Payload) → ¬ (AreEntries (before (ds ++ d ∷ []) rest) vs)
not_among [] d rest none [] h = absurd h
not_among [] d rest none (v ∷ vs) h = none v h.0
not_among (x ∷ ds) d rest none [] h = absurd h
not_among (x ∷ ds) d rest none (v ∷ vs) h = not_among ds d rest none vs h.1

mapped : {A B : Type 0} (f : A → B) (o : Option (A × List Token)) (b : B) (r : List Token) → parse_map f o ≡ Some (b, r) → (a : A) × (f a ≡ b)
mapped f None b r e = absurd (cc)
mapped f (Some p) b r e = let same = ap (pick (f p.0, r)) e in (p.0, ap (λ q. q.0) same)

-- A value that is no entry makes the array no list, whatever follows it.
pub begun_refused : (start now new : List Token) (vs : List Payload) → Begun start now vs → after_end_array now ≡ None → ReadsNoEntry now new → RefusesItems start
begun_refused start now new vs h going read depth ds rest whole ws are =
    let next = next_is (λ d. (v : Payload) → ¬ (IsEntry d v)) start now new vs h going read depth in
    let left = mapped (before (next.2 ++ next.3 ∷ [])) (converted of_items (items (value (suc depth)) next.0 new)) ds rest (sym next.6 ∙ whole) in
    not_among next.2 next.3 left.0 next.5 ws (subst (λ xs. AreEntries xs ws) (sym left.1) are)

pub begun_ends : (start now rest : List Token) (vs : List Payload) → Begun start now vs → after_end_array now ≡ Some rest → ReadsItems start rest vs
begun_ends start now rest vs h ends depth =
    let so_far = h depth in (
      before so_far.2 no_items,
      are_all so_far.2 vs so_far.3,
      so_far.4 ∙ ap (λ o. parse_map (before so_far.2) (converted of_items o)) (items_end (value (suc depth)) so_far.0 now rest so_far.1 ends),
    )

-- ---- the whole text

pub list_is : (text : List ℕ) (reader items_of rest : List Token) (vs : List Payload) → reader ≡ tokens text → reader ≡ Token.begin_array ∷ items_of → ReadsItems items_of rest vs → rest ≡ []
    → (ds : Items) × (read text ≡ Some (array ds)) × AreEntries ds vs
list_is text reader items_of rest vs whole first h over =
    let r = h 125 in
    let js = converted_some of_items (items (value 126) (length items_of) items_of) r.0 rest r.2 in
    let parsed : value 127 (tokens text) ≡ Some (json.array js.0, rest) =
    ap (value 127) (sym whole ∙ first) ∙ value-begin_array 127 items_of (omega arith) ∙ ap (parse_map json.array) js.1 in (
      r.0,
      ap (λ o. option_and_then of_json (option_and_then (λ p. json.if_last p.0 p.1) o)) parsed
          ∙ ap (λ ts. option_and_then of_json (json.if_last (json.array js.0) ts)) over ∙ ap (option_map array) js.2,
      r.1,
    )

last_is : (o : Option (json.Json × List Token)) (j : json.Json) → option_and_then (λ p. json.if_last p.0 p.1) o ≡ Some j → o ≡ Some (j, [])
last_is None j e = absurd (cc)
last_is (Some p) j e = by p.0 p.1 e
  where
    by : (k : json.Json) (r : List Token) → json.if_last k r ≡ Some j → ◌≡◌ {A = Option (json.Json × List Token)} (Some (k, r)) (Some (j, []))
    by k [] e = ap (λ o. Some (pick k o, [])) e
    by k (t ∷ ts) e = absurd (cc)

some_of : {A B : Type 0} (f : A → Option B) (o : Option A) (b : B) → option_and_then f o ≡ Some b → (a : A) × (o ≡ Some a) × (f a ≡ Some b)
some_of f None b e = absurd (cc)
some_of f (Some a) b e = (a, refl, e)

-- the items of a converted array
array_of : (o : Option (json.Items × List Token)) (j : json.Json) (ds : Items) → parse_map json.array o ≡ Some (j, []) → of_json j ≡ Some (array ds) → converted of_items o ≡ Some (ds, [])
array_of None j ds e made = absurd (cc)
array_of (Some p) j ds e made =
    let pair = ap (pick (json.array p.0, p.1)) e in
    let same : json.array p.0 ≡ j = ap (λ q. q.0) pair in
    let over : p.1 ≡ [] = ap (λ q. q.1) pair in
    by (of_items p.0) refl (ap of_json same ∙ made) over
  where
    by : (x : Option Items) → of_items p.0 ≡ x → option_map array x ≡ Some (array ds) → p.1 ≡ [] → option_map {U = Items × List Token} (λ b. (b, p.1)) (of_items p.0) ≡ Some (ds, [])
    by None is e over = absurd (cc)
    by (Some xs) is e over =
        let same : xs ≡ ds = cc in
        let all : ◌≡◌ {A = Option (Items × List Token)} (Some (xs, p.1)) (Some (ds, [])) = λ i. Some (same i, over i) in
        ap (option_map {U = Items × List Token} (λ b. (b, p.1))) is ∙ all

pub refused_is : (text : List ℕ) (reader items_of : List Token) → reader ≡ tokens text → reader ≡ Token.begin_array ∷ items_of → RefusesItems items_of
    → (ds : Items) → read text ≡ Some (array ds) → (vs : List Payload) → ¬ (AreEntries ds vs)
refused_is text reader items_of whole first h ds is vs are =
    let j = some_of of_json (option_and_then (λ p. json.if_last p.0 p.1) (value 127 (tokens text))) (array ds) is in
    let parsed = sym (ap (value 127) (sym whole ∙ first) ∙ value-begin_array 127 items_of (omega arith)) ∙ last_is (value 127 (tokens text)) j.0 j.1 in
    h 125 ds [] (array_of (items (value 126) (length items_of) items_of) j.0 ds parsed j.2) vs are
