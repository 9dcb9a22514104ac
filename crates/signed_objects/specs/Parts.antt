-- Parts of elements that BER encodes (X.690 section 8.1): how each is spelled, and its first fault.
use Rattle.std.specs.Prelude.{◌≡◌, ℕ, zero, ◌<◌, ◌⊎◌, Bool, true, false, List, [], ◌∷◌, ◌++◌, length}
use Rattle.der_lite.specs.Place.{Place, Fault}
use Rattle.der_lite.specs.Grammar.{Element, KeepsRules, Breaks, SplitsBytes, Stands}
use Rattle.der_forms.specs.Combinators.{fault_at}

-- Octets, with more after them. Their fault is one of the element at an offset.
pub record Part (V : Type 0) : Type 1 where
  pub Spells : V → List ℕ → Type 0
  pub FaultAt : ℕ → Place → Fault → Type 0

-- one octet, or the bytes end
abbrev pub octet : Part ℕ
octet = record {
  Spells = λ v bytes. bytes ≡ v ∷ [];
  FaultAt = λ at p fault. (p.rest ≡ []) × (fault ≡ fault_at 1 at);
}

-- this many octets, or the bytes end
abbrev pub octets : ℕ → Part (List ℕ)
octets count = record {
  Spells = λ v bytes. (bytes ≡ v) × (length v ≡ count);
  FaultAt = λ at p fault. (length p.rest < count) × (fault ≡ fault_at 1 at);
}

-- no octets, and this value
abbrev pub gives : {V : Type 0} → V → Part V
gives v = record {
  Spells = λ w bytes. (bytes ≡ []) × (v ≡ w);
  FaultAt = λ at p fault. ⊥;
}

-- a part before which rules are judged
abbrev pub ruled : {V : Type 0} → List (ℕ × Bool) → Part V → Part V
ruled rules part = record {
  Spells = λ v bytes. KeepsRules rules × part.Spells v bytes;
  FaultAt = λ at p fault. Breaks rules at fault ⊎ (KeepsRules rules × part.FaultAt at p fault);
}

-- a part, and one that depends on it
abbrev pub followed : {A B : Type 0} → Part A → (A → Part B) → Part B
followed {A} first others = record {
  Spells = λ b bytes. (a : A) × (front : List ℕ) × (rest : List ℕ) × SplitsBytes bytes front rest × first.Spells a front × (others a).Spells b rest;
  FaultAt = λ at p fault.
      first.FaultAt at p fault
      ⊎ ((a : A) × (next : Place) × Stands first.Spells p a next × (others a).FaultAt at next fault);
}

-- a part, and its octets unchanged
abbrev pub with_own : {V : Type 0} → Part V → Part (List ℕ × V)
with_own part = record {
  Spells = λ v bytes. (bytes ≡ v.0) × part.Spells v.1 bytes;
  FaultAt = part.FaultAt;
}

-- an element is such a part, whose fault is its own
abbrev pub whole : {V : Type 0} → Part V → Element V
whole part = record {
  Spells = part.Spells;
  FaultAt = λ p fault. part.FaultAt p.at p fault;
}

-- values one after the other
abbrev pub joined : List (List ℕ) → List ℕ
joined [] = []
joined (v ∷ others) = v ++ joined others

-- elements one after the other, each with its value
abbrev pub InTurn : Element (List ℕ) → List (List ℕ) → List ℕ → Type 0
InTurn e [] bytes = bytes ≡ []
InTurn e (v ∷ others) bytes = (front : List ℕ) × (rest : List ℕ) × SplitsBytes bytes front rest × e.Spells v front × InTurn e others rest

-- The bytes are elements, and their values make up this one.
pub record Members (e : Element (List ℕ)) (v bytes : List ℕ) : Type 0 where
  pub values : List (List ℕ)
  pub each : InTurn e values bytes
  pub is : joined values ≡ v

-- Some elements are here. The end does not follow them, and the next is faulty.
pub record FaultAmong (e : Element (List ℕ)) (is_end : List ℕ → Bool) (p : Place) (fault : Fault) : Type 0 where
  pub values : List (List ℕ)
  pub next : Place
  pub before : Stands (InTurn e) p values next
  pub more : is_end next.rest ≡ false
  pub faulty : e.FaultAt next fault

-- nothing remains
abbrev pub is_empty : List ℕ → Bool
is_empty [] = true
is_empty (first ∷ more) = false

-- X.690 section 8.1.5: the end-of-contents octets are here
abbrev pub is_closed : List ℕ → Bool
is_closed (zero ∷ zero ∷ more) = true
is_closed _ = false

-- The first octets of a place, this many, are this place of their own.
pub record Enclosed (count : ℕ) (p inner : Place) : Type 0 where
  pub rest : List ℕ
  pub parts : p.rest ≡ inner.rest ++ rest
  pub count_is : length inner.rest ≡ count
  pub here : inner.at ≡ p.at

-- elements that fill this many octets
abbrev pub filling : ℕ → Element (List ℕ) → Part (List ℕ)
filling count e = record {
  Spells = λ v bytes. (length bytes ≡ count) × Members e v bytes;
  FaultAt = λ at p fault.
      ((length p.rest < count) × (fault ≡ fault_at 1 at))
      ⊎ ((inner : Place) × Enclosed count p inner × FaultAmong e is_empty inner fault);
}

-- elements up to the end-of-contents octets
abbrev pub closed : Element (List ℕ) → Part (List ℕ)
closed e = record {
  Spells = λ v bytes. (front : List ℕ) × SplitsBytes bytes front (0 ∷ 0 ∷ []) × Members e v front;
  FaultAt = λ at p fault. FaultAmong e is_closed p fault;
}
