-- Grammars of elements: how each value is spelled, and the first fault of bytes that spell none.
use Rattle.std.specs.Prelude.{◌≡◌, ◌≢◌, ℕ, ◌+◌, ◌⊎◌, Bool, List, [], ◌∷◌, ◌++◌, length, Option, Some, None}
use Rattle.der_lite.specs.Place.{Place, Fault, first_of}
use Rattle.der_lite.specs.Der.{Tlv, length_bytes, head_rules}

-- one element, with more behind it in the enclosing one
pub record Element (V : Type 0) : Type 1 where
  pub Spells : V → List ℕ → Type 0
  pub FaultAt : Place → Fault → Type 0

-- all of an enclosing element, to its end
pub record Members (V : Type 0) : Type 1 where
  pub Spells : V → List ℕ → Type 0
  pub FaultAt : Place → Fault → Type 0

-- the content of the element at an offset
pub record Content (V : Type 0) : Type 1 where
  pub Spells : V → List ℕ → Type 0
  pub FaultAt : ℕ → Place → Fault → Type 0

-- the first of the rules that fails is this fault, and it is here
pub record Breaks (rules : List (ℕ × Bool)) (offset : ℕ) (fault : Fault) : Type 0 where
  pub first : first_of rules ≡ Some fault.number
  pub here : fault.offset ≡ offset

-- none of the rules fails
abbrev pub KeepsRules : List (ℕ × Bool) → Type 0
KeepsRules rules = first_of rules ≡ None

-- the bytes are split in two
pub record SplitsBytes (bytes front rest : List ℕ) : Type 0 where
  pub parts : bytes ≡ front ++ rest

-- Bytes that spell this value are at the front of place p, and next is the place behind them.
pub record Stands {V : Type 0} (Spells : V → List ℕ → Type 0) (p : Place) (v : V) (next : Place) : Type 0 where
  pub front : List ℕ
  pub parts : p.rest ≡ front ++ next.rest
  pub spelled : Spells v front
  pub behind : next.at ≡ p.at + length front

-- where the content of the element at an offset begins
abbrev pub inside : ℕ → List ℕ → Place
inside at content = record { at = at + 1 + length (length_bytes (length content)); rest = content }

-- An element. Its fault: the head breaks a rule; or it keeps them all, the element is here, and its content is faulty.
abbrev pub element : {V : Type 0} → ℕ → (List ℕ → List (ℕ × Bool)) → Content V → Element V
element {V} tag head content = record {
  Spells = λ v bytes. (inner : List ℕ) × Tlv tag inner bytes × content.Spells v inner;
  FaultAt = λ p fault.
      Breaks (head p.rest) p.at fault
      ⊎ ((inner : List ℕ) × (next : Place) × KeepsRules (head p.rest) × Stands (Tlv tag) p inner next × content.FaultAt p.at (inside p.at inner) fault);
}

-- a content that spells a value by itself
abbrev pub primitive : {V : Type 0} → (V → List ℕ → Type 0) → (List ℕ → List (ℕ × Bool)) → Content V
primitive {V} Spells rules = record {
  Spells = λ v inner. Spells v inner × KeepsRules (rules inner);
  FaultAt = λ at p fault. Breaks (rules p.rest) at fault;
}

-- An element of this tag, read as its content, which keeps the rules.
abbrev pub plain : ℕ → (List ℕ → List (ℕ × Bool)) → Element (List ℕ)
plain tag rules = element tag (head_rules tag) (primitive (λ content inner. content ≡ inner) rules)

-- A content of members. Its fault: a rule that is judged before them is broken; or a member is faulty; or all are spelled, and a rule over
-- them is broken.
abbrev pub constructed : {V : Type 0} → (List ℕ → List (ℕ × Bool)) → Members V → (V → List (ℕ × Bool)) → Content V
constructed {V} before members whole = record {
  Spells = λ v inner. KeepsRules (before inner) × members.Spells v inner × KeepsRules (whole v);
  FaultAt = λ at p fault.
      Breaks (before p.rest) at fault
      ⊎ (KeepsRules (before p.rest) × members.FaultAt p fault)
      ⊎ ((v : V) × KeepsRules (before p.rest) × members.Spells v p.rest × Breaks (whole v) at fault);
}

-- bytes remain where the enclosing element should end
pub record Trails (p : Place) (fault : Fault) : Type 0 where
  pub more : p.rest ≢ []
  pub is : fault ≡ record { number = 5; offset = p.at }

-- The first member is faulty; or it is here, and what is behind it is faulty.
abbrev pub FaultIn : {A : Type 0} → Element A → (A → Place → Fault → Type 0) → Place → Fault → Type 0
FaultIn {A} first Later p fault =
    first.FaultAt p fault
    ⊎ ((a : A) × (next : Place) × Stands first.Spells p a next × Later a next fault)

-- one member, and the end
abbrev pub last : {A : Type 0} → Element A → Members A
last {A} e = record {
  Spells = e.Spells;
  FaultAt = FaultIn e (λ a. Trails);
}

-- a member, and others that may depend on it
abbrev pub member : {A B : Type 0} → Element A → (A → Members B) → Members (A × B)
member {A} {B} e others = record {
  Spells = λ v bytes. (front : List ℕ) × (rest : List ℕ) × SplitsBytes bytes front rest × e.Spells v.0 front × (others v.0).Spells v.1 rest;
  FaultAt = FaultIn e (λ a. (others a).FaultAt);
}

-- nothing spells that there is no value
abbrev pub OptionSpells : {A : Type 0} → (A → List ℕ → Type 0) → Option A → List ℕ → Type 0
OptionSpells Spells None bytes = bytes ≡ []
OptionSpells Spells (Some a) bytes = Spells a bytes

-- a member if bytes remain, and the end
abbrev pub optional : {A : Type 0} → Element A → Members (Option A)
optional {A} e = record {
  Spells = OptionSpells e.Spells;
  FaultAt = λ p fault. (p.rest ≢ []) × FaultIn e (λ a. Trails) p fault;
}

-- each value is spelled behind those before it
abbrev pub EachSpells : {A : Type 0} → (List A → Element A) → List A → List A → List ℕ → Type 0
EachSpells e before [] bytes = bytes ≡ []
EachSpells e before (a ∷ others) bytes = (front : List ℕ) × (rest : List ℕ) × SplitsBytes bytes front rest × (e before).Spells a front × EachSpells e (before ++ a ∷ []) others rest

-- Members to the end, each of which may depend on those before it. Their fault: some are here, bytes remain, and the next is faulty.
abbrev pub each : {A : Type 0} → (List A → Element A) → Members (List A)
each {A} e = record {
  Spells = EachSpells e [];
  FaultAt = λ p fault. (before : List A) × (next : Place) × Stands (EachSpells e []) p before next × (next.rest ≢ []) × (e before).FaultAt next fault;
}
