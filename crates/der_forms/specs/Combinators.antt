-- Grammars of elements that CMS and X.509 need besides those of `der_lite`.
use Rattle.std.specs.Prelude.{◌≡◌, ◌≢◌, ℕ, ◌⊎◌, Bool, true, false, not, ◌==◌, bytes_eq, List, [], ◌∷◌, ◌++◌, length, Option, Some, None}
use Rattle.der_lite.specs.Place.{Fault}
use Rattle.der_lite.specs.Der.{IsBytes, head_rules}
use Rattle.der_lite.specs.Grammar.{Element, Members, Content, element, primitive, member, constructed}

-- nothing is judged
abbrev pub no_rules : {A : Type 0} → A → List (ℕ × Bool)
no_rules _ = []

-- the bytes begin with this tag
abbrev pub begins : ℕ → List ℕ → Bool
begins tag [] = false
begins tag (first ∷ more) = first == tag

-- a fault, by its number and its offset
abbrev pub fault_at : ℕ → ℕ → Fault
fault_at number offset = record { number = number; offset = offset }

-- An element of this tag is here: otherwise this is the fault.
abbrev pub needed : ℕ → ℕ → List ℕ → List (ℕ × Bool)
needed number tag bytes = (number, not (begins tag bytes)) ∷ []

-- No element of this tag is here: otherwise this is the fault.
abbrev pub barred : ℕ → ℕ → List ℕ → List (ℕ × Bool)
barred number tag bytes = (number, begins tag bytes) ∷ []

-- An element before whose head these rules are judged.
abbrev pub element_behind : {V : Type 0} → (List ℕ → List (ℕ × Bool)) → ℕ → Content V → Element V
element_behind rules tag content = element tag (λ bytes. rules bytes ++ head_rules tag bytes) content

-- there is a member
abbrev pub not_empty : ℕ → List ℕ → List (ℕ × Bool)
not_empty number content = (number, length content == 0) ∷ []

-- The end of the enclosing element. Bytes that remain are a fault, whose number depends on them.
abbrev pub nothing : (List ℕ → ℕ) → Members (Unit {0})
nothing number = record {
  Spells = λ _ bytes. bytes ≡ [];
  FaultAt = λ p fault. (p.rest ≢ []) × (fault ≡ fault_at (number p.rest) p.at);
}

-- members of which only a part is kept
abbrev pub told : {A B : Type 0} → (A → B) → Members A → Members B
told {A} tell m = record {
  Spells = λ b bytes. (a : A) × m.Spells a bytes × (tell a ≡ b);
  FaultAt = m.FaultAt;
}

-- a content of which only a part is kept
abbrev pub told_content : {A B : Type 0} → (A → B) → Content A → Content B
told_content {A} tell c = record {
  Spells = λ b inner. (a : A) × c.Spells a inner × (tell a ≡ b);
  FaultAt = c.FaultAt;
}

-- what is there, or no octets
abbrev pub or_empty : Option (List ℕ) → List ℕ
or_empty (Some octets) = octets
or_empty None = []

-- the first of two
abbrev pub first_part : {A B : Type 0} → A × B → A
first_part v = v.0

-- one member, and the end, whose fault has this number
abbrev pub sole : {V : Type 0} → ℕ → Element V → Members V
sole number e = told first_part (member e (λ _. nothing (λ bytes. number)))

-- A SET or a wrapping element of exactly one member: none and more than one are one fault.
abbrev pub holding_one : {V : Type 0} → ℕ → Element V → Content V
holding_one number e = constructed (not_empty number) (sole number e) no_rules

-- all bytes to the end, whatever they are
abbrev pub anything : Members (List ℕ)
anything = record { Spells = λ v bytes. bytes ≡ v; FaultAt = λ p fault. ⊥ }

-- a content, and its octets unchanged
abbrev pub with_octets : {V : Type 0} → Content V → Content (List ℕ × V)
with_octets c = record {
  Spells = λ v inner. (inner ≡ v.0) × c.Spells v.1 inner;
  FaultAt = c.FaultAt;
}

-- an element, and its octets unchanged
abbrev pub standing : {V : Type 0} → Element V → Element (List ℕ × V)
standing e = record {
  Spells = λ v bytes. (bytes ≡ v.0) × e.Spells v.1 bytes;
  FaultAt = e.FaultAt;
}

-- one of two elements: the first if its tag is here
abbrev pub either : {V : Type 0} → ℕ → Element V → Element V → Element V
either tag first second = record {
  Spells = λ v bytes. ((begins tag bytes ≡ true) × first.Spells v bytes) ⊎ ((begins tag bytes ≡ false) × second.Spells v bytes);
  FaultAt = λ p fault. ((begins tag p.rest ≡ true) × first.FaultAt p fault) ⊎ ((begins tag p.rest ≡ false) × second.FaultAt p fault);
}

-- A content that spells a value by itself: one that spells none is this fault.
abbrev pub spelling : {V : Type 0} → ℕ → (V → List ℕ → Type 0) → Content V
spelling {V} number Spells = record {
  Spells = Spells;
  FaultAt = λ at p fault. IsBytes p.rest × ((v : V) → ¬ (Spells v p.rest)) × (fault ≡ fault_at number at);
}

-- an element with its content unchanged, or none of its tag is here
abbrev pub needed_octets : ℕ → ℕ → Element (List ℕ)
needed_octets number tag = element_behind (needed number tag) tag (primitive (λ v inner. inner ≡ v) no_rules)

-- a content that is this one
abbrev pub FixedSpells : List ℕ → Unit {0} → List ℕ → Type 0
FixedSpells wanted _ content = content ≡ wanted

-- another is a fault
abbrev pub fixed_rules : ℕ → List ℕ → List ℕ → List (ℕ × Bool)
fixed_rules number wanted content = (number, not (bytes_eq content wanted)) ∷ []

-- an element with this content, or a fault
abbrev pub fixed : ℕ → ℕ → List ℕ → Element (Unit {0})
fixed number tag wanted = element tag (head_rules tag) (primitive (FixedSpells wanted) (fixed_rules number wanted))

-- One of two forms of all that follows: the first if an element of this tag is here.
abbrev pub branch : {V : Type 0} → ℕ → Members V → Members V → Members V
branch tag first second = record {
  Spells = λ v bytes. ((begins tag bytes ≡ true) × first.Spells v bytes) ⊎ ((begins tag bytes ≡ false) × second.Spells v bytes);
  FaultAt = λ p fault. ((begins tag p.rest ≡ true) × first.FaultAt p fault) ⊎ ((begins tag p.rest ≡ false) × second.FaultAt p fault);
}

-- a member that is there, and the others
abbrev pub present : {A B : Type 0} → A × B → Option A × B
present v = (Some v.0, v.1)

-- no member, and the others
abbrev pub absent : {A B : Type 0} → B → Option A × B
absent v = (None, v)

-- A member that may be left out, known by its tag, and others.
abbrev pub maybe : {A B : Type 0} → ℕ → Element A → (Option A → Members B) → Members (Option A × B)
maybe {A} {B} tag e others = branch tag (told {A = A × B} present (member e (λ a. others (Some a)))) (told absent (others None))

-- an element of which only a part is kept
abbrev pub told_element : {A B : Type 0} → (A → B) → Element A → Element B
told_element {A} tell e = record {
  Spells = λ b bytes. (a : A) × e.Spells a bytes × (tell a ≡ b);
  FaultAt = e.FaultAt;
}
