-- No value has two spellings: one lemma for each combinator.
use Rattle.std.proofs.Common.{◌≡◌, ℕ, zero, suc, Bool, List, [], ◌∷◌, ◌++◌, length, Some, None, sym, ap, subst, ◌∙◌, arith}
use Rattle.der_lite.specs.Der.{IsBytes, tlv, length_bytes}
use Rattle.der_lite.specs.Grammar.{Element, Members, Content, KeepsRules, element, primitive, constructed, last, member, optional, EachSpells, each}

-- no value has two spellings
abbrev pub Once : {V : Type 0} → (V → List ℕ → Type 0) → Type 0
Once {V} Spells = (v : V) (a b : List ℕ) → IsBytes a → IsBytes b → Spells v a → Spells v b → a ≡ b

-- the front of bytes is bytes
pub front_bytes : (front rest : List ℕ) → IsBytes (front ++ rest) → IsBytes front
front_bytes [] rest h i = omega arith
front_bytes (x ∷ xs) rest h zero = h zero
front_bytes (x ∷ xs) rest h (suc i) = front_bytes xs rest (λ j. h (suc j)) i

-- what is behind it is bytes
rest_bytes : (front rest : List ℕ) → IsBytes (front ++ rest) → IsBytes rest
rest_bytes [] rest h = h
rest_bytes (x ∷ xs) rest h = rest_bytes xs rest (λ j. h (suc j))

-- the same list is bytes too
along : (a b : List ℕ) → a ≡ b → IsBytes a → IsBytes b
along a b e h = subst IsBytes e h

-- an element, if its content has one spelling
pub once_element : {V : Type 0} (tag : ℕ) (head : List ℕ → List (ℕ × Bool)) (c : Content V) → Once c.Spells → Once (element tag head c).Spells
once_element tag head c once v a b ba bb s t =
    let ia = rest_bytes (tag ∷ length_bytes (length s.0)) s.0 (along a (tlv tag s.0) s.1.spelled ba) in
    let ib = rest_bytes (tag ∷ length_bytes (length t.0)) t.0 (along b (tlv tag t.0) t.1.spelled bb) in
    s.1.spelled ∙ ap (λ (l : List ℕ). tlv tag l) (once v s.0 t.0 ia ib s.2 t.2) ∙ sym t.1.spelled

-- a content that spells a value by itself, if it has one spelling
pub once_primitive : {V : Type 0} (Spells : V → List ℕ → Type 0) (rules : List ℕ → List (ℕ × Bool))
    → ((v : V) (a b : List ℕ) → IsBytes a → IsBytes b → KeepsRules (rules a) → KeepsRules (rules b) → Spells v a → Spells v b → a ≡ b) → Once (primitive Spells rules).Spells
once_primitive Spells rules once v a b ba bb s t = once v a b ba bb s.1 t.1 s.0 t.0

-- a content of members, if they have one spelling
pub once_constructed : {V : Type 0} (before : List ℕ → List (ℕ × Bool)) (m : Members V) (whole : V → List (ℕ × Bool)) → Once m.Spells → Once (constructed before m whole).Spells
once_constructed before m whole once v a b ba bb s t = once v a b ba bb s.1 t.1

-- one member and the end
pub once_last : {V : Type 0} (e : Element V) → Once e.Spells → Once (last e).Spells
once_last e once = once

-- two lists are one if their parts are
both_parts : (a b f g r q : List ℕ) → a ≡ f ++ r → b ≡ g ++ q → f ≡ g → r ≡ q → a ≡ b
both_parts a b f g r q ha hb hf hr = ha ∙ ap (λ (l : List ℕ). l ++ r) hf ∙ ap (λ (l : List ℕ). g ++ l) hr ∙ sym hb

-- a member and others
pub once_member : {A B : Type 0} (e : Element A) (others : A → Members B) → Once e.Spells → ((x : A) → Once (others x).Spells) → Once (member e others).Spells
once_member e others once more v a b ba bb s t =
    let ha = along a (s.0 ++ s.1) s.2.parts ba in
    let hb = along b (t.0 ++ t.1) t.2.parts bb in
    both_parts a b s.0 t.0 s.1 t.1 s.2.parts t.2.parts
    (once v.0 s.0 t.0 (front_bytes s.0 s.1 ha) (front_bytes t.0 t.1 hb) s.3 t.3)
    (more v.0 v.1 s.1 t.1 (rest_bytes s.0 s.1 ha) (rest_bytes t.0 t.1 hb) s.4 t.4)

-- an optional member
pub once_optional : {A : Type 0} (e : Element A) → Once e.Spells → Once (optional e).Spells
once_optional e once None a b ba bb s t = s ∙ sym t
once_optional e once (Some x) a b ba bb s t = once x a b ba bb s t

-- members to the end, behind those before
once_each_from : {A : Type 0} (e : List A → Element A) → ((before : List A) → Once (e before).Spells) → (vs before : List A) (a b : List ℕ) → IsBytes a → IsBytes b → EachSpells e before vs a → EachSpells e before vs b → a ≡ b
once_each_from e once [] before a b ba bb s t = s ∙ sym t
once_each_from e once (v ∷ vs) before a b ba bb s t =
    let ha = along a (s.0 ++ s.1) s.2.parts ba in
    let hb = along b (t.0 ++ t.1) t.2.parts bb in
    both_parts a b s.0 t.0 s.1 t.1 s.2.parts t.2.parts
    (once before v s.0 t.0 (front_bytes s.0 s.1 ha) (front_bytes t.0 t.1 hb) s.3 t.3)
    (once_each_from e once vs (before ++ v ∷ []) s.1 t.1 (rest_bytes s.0 s.1 ha) (rest_bytes t.0 t.1 hb) s.4 t.4)

-- members to the end
pub once_each : {A : Type 0} (e : List A → Element A) → ((before : List A) → Once (e before).Spells) → Once (each e).Spells
once_each e once v a b ba bb s t = once_each_from e once v [] a b ba bb s t
