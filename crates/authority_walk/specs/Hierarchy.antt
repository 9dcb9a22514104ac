-- The authorities below trust anchors, and the VRPs that they validate (RFC 6480 section 2).
use Rattle.std.specs.Prelude.{◌≡◌, ℕ, zero, suc, ◌+◌, ◌≤◌, ◌↔◌, Bool, IsTrue, List}
use Rattle.std.specs.List.{Contains}
use Rattle.prefixes.specs.Payload.{Payload}

-- What the files of a repository say at a moment. `IsAnchor`: it is the authority of a trust anchor (RFC 8630). `Issues`: the first issued a
-- certificate to the second that is valid (RFC 6487 section 7.2). `Validates`: the publication point of the authority has a valid ROA of this VRP
-- (RFC 9286 section 6, RFC 9582 section 5).
pub record Hierarchy (Authority : Type 0) : Type 1 where
  pub IsAnchor : Authority → Type 0
  pub Issues : Authority → Authority → Type 0
  pub Validates : Authority → Payload → Type 0

-- An authority is at depth 0 if it is that of a trust anchor, and one deeper than an authority that issued it.
abbrev pub IsAt : {A : Type 0} → Hierarchy A → ℕ → A → Type 0
IsAt h zero x = h.IsAnchor x
IsAt {A} h (suc n) x = (by : A) × IsAt h n by × h.Issues by x

-- at this depth or a lesser one
abbrev pub IsWithin : {A : Type 0} → Hierarchy A → ℕ → A → Type 0
IsWithin h limit x = (n : ℕ) × (n ≤ limit) × IsAt h n x

abbrev pub max_depth : ℕ
max_depth = 32

-- An authority within depth 32 validates the VRP.
pub record IsValidated {A : Type 0} (h : Hierarchy A) (vrp : Payload) : Type 0 where
  pub authority : A
  pub within : IsWithin h max_depth authority
  pub validates : h.Validates authority vrp

-- An authority is at depth 33, and at no lesser one.
pub record HasDeeper {A : Type 0} (h : Hierarchy A) : Type 0 where
  pub authority : A
  pub below : IsWithin h (max_depth + 1) authority
  pub passed : ¬ (IsWithin h max_depth authority)

-- exactly the VRPs that are validated
abbrev pub Lists : {A : Type 0} → Hierarchy A → List Payload → Type 0
Lists h vrps = (vrp : Payload) → Contains vrps vrp ↔ IsValidated h vrp

-- What a validation gives.
pub record Gives {A : Type 0} (h : Hierarchy A) (vrps : List Payload) (has_deeper : Bool) : Type 0 where
  pub listed : Lists h vrps
  pub deeper : IsTrue has_deeper ↔ HasDeeper h

-- All that validations give have the same VRPs ..
abbrev pub GiveSameVrps : {A : Type 0} → Hierarchy A → Type 0
GiveSameVrps h = (xs ys : List Payload) (a b : Bool) → Gives h xs a → Gives h ys b → (vrp : Payload) → Contains xs vrp ↔ Contains ys vrp

-- .. and agree on whether there are deeper authorities.
abbrev pub GiveSameDepth : {A : Type 0} → Hierarchy A → Type 0
GiveSameDepth h = (xs ys : List Payload) (a b : Bool) → Gives h xs a → Gives h ys b → a ≡ b
