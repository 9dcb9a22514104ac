-- How far a validation has come.
use Rattle.std.specs.Prelude.{◌≡◌, ◌⊎◌, ◌<◌, ◌≤◌, ℕ, zero, suc, ◌+◌, List, [], ◌∷◌}
use Rattle.authority_walk.specs.Hierarchy.{max_depth}

-- the depth, how many authorities of this depth wait to be visited, and how many were visited at all depths so far
pub record Place : Type 0 where
  pub depth : ℕ
  pub waiting : ℕ
  pub visited : ℕ

-- A validation as contracts see it, with how many parts are at most left of the publication point of the next authority that waits.
pub record Progress (R : Type 0) : Type 0 where
  pub reader : R
  pub place : Place
  pub left : ℕ

-- how much is left of the last of these authorities
abbrev pub left_of : {A V : Type 0} → (V → ℕ) → (A → V) → List A → ℕ
left_of left value [] = 0
left_of left value (a ∷ []) = left (value a)
left_of left value (a ∷ b ∷ bs) = left_of left value (b ∷ bs)

abbrev pub first_place : ℕ → Place
first_place anchors = record { depth = 0; waiting = anchors; visited = 0 }

-- All authorities within the greatest depth were visited.
abbrev pub IsDone : Place → Type 0
IsDone p = (p.depth ≡ max_depth) × (p.waiting ≡ 0)

-- One authority fewer waits. It was visited, if it had not been visited before.
pub record Visits (old new : Place) : Type 0 where
  pub depth : new.depth ≡ old.depth
  pub waiting : new.waiting + 1 ≡ old.waiting
  pub no_fewer : old.visited ≤ new.visited
  pub one_more : new.visited ≤ old.visited + 1

-- None waits, and the walk goes one deeper.
pub record Deepens (old new : Place) : Type 0 where
  pub none : old.waiting ≡ 0
  pub depth : new.depth ≡ old.depth + 1
  pub visited : new.visited ≡ old.visited

-- A part of a publication point is read, and more of it is left.
pub record Reads {R : Type 0} (old new : Progress R) : Type 0 where
  pub place : new.place ≡ old.place
  pub left : new.left < old.left

-- One step, unless all is done.
abbrev pub Step : {R : Type 0} → Progress R → Progress R → Type 0
Step old new = (IsDone old.place × (new ≡ old)) ⊎ (Reads old new ⊎ (Visits old.place new.place ⊎ Deepens old.place new.place))

abbrev pub Steps : {R : Type 0} → ℕ → Progress R → Progress R → Type 0
Steps zero old new = new ≡ old
Steps {R} (suc n) old new = (mid : Progress R) × Steps n old mid × Step mid new

-- Fewer steps than the budget were done. The next one failed, and left the place as it was.
pub record Fails {R : Type 0} (budget : ℕ) (old new : Progress R) : Type 0 where
  pub taken : ℕ
  pub before : Progress R
  pub few : taken < budget
  pub steps : Steps taken old before
  pub place : new.place ≡ before.place
