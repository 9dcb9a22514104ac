-- How a walk goes down from the trust anchors, depth by depth.
use Rattle.std.specs.Prelude.{◌≡◌, ◌⊎◌, ◌↔◌, ℕ, ◌+◌, List, IsTrue}
use Rattle.std.specs.List.{Contains}
use Rattle.std.specs.BTreeSet.{BTreeSet, contains}
use Rattle.std.specs.declared.cmp.Ordering.{Ordering}
use Rattle.prefixes.specs.Payload.{Payload}
use Rattle.authority_walk.specs.Hierarchy.{Hierarchy, IsWithin}

-- one of the list has this value
abbrev pub Has : {A V : Type 0} → (A → V) → List A → V → Type 0
Has {A} value xs v = (a : A) × Contains xs a × (value a ≡ v)

-- the list has exactly the values of which this holds
abbrev pub HasExactly : {A V : Type 0} → (A → V) → List A → (V → Type 0) → Type 0
HasExactly {A} {V} value xs P = (v : V) → Has value xs v ↔ P v

-- one of the set has this value
abbrev pub SetHas : {A V : Type 0} → (A → A → Ordering) → (A → V) → BTreeSet A → V → Type 0
SetHas {A} cmp value set v = (a : A) × IsTrue (contains cmp set a) × (value a ≡ v)

-- The state of a walk that has come down to a depth. It visited some authorities. Others of this depth wait. Others were issued by what it visited at this depth.
pub record IsWalk {A : Type 0} (h : Hierarchy A) (depth : ℕ) (Visited Waiting Below : A → Type 0) (Listed : Payload → Type 0) : Type 0 where
  pub visited_within : (x : A) → Visited x → IsWithin h depth x
  pub waiting_within : (x : A) → Waiting x → IsWithin h depth x
  pub below_within : (x : A) → Below x → IsWithin h (depth + 1) x
  pub complete : (x : A) → IsWithin h depth x → Visited x ⊎ Waiting x
  pub followed : (by x : A) → Visited by → h.Issues by x → Visited x ⊎ (Waiting x ⊎ Below x)
  pub listed : (vrp : Payload) → Listed vrp → (x : A) × IsWithin h depth x × h.Validates x vrp
  pub validated : (x : A) (vrp : Payload) → Visited x → h.Validates x vrp → Listed vrp

-- one more
abbrev pub With : {A : Type 0} → (A → Type 0) → A → A → Type 0
With P a x = P x ⊎ (a ≡ x)
