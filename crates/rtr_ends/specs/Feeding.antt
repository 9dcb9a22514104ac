-- A machine that consumes bytes one by one, and what it consumes of a piece.
use Rattle.std.specs.Prelude.{◌≡◌, ℕ, ◌<◌, Bool, true, false, List, [], ◌∷◌, ◌++◌, length}

-- a machine after a piece, and what it left of it
pub record FedPiece (M : Type 0) : Type 0 where
  pub machine : M
  pub rest : List ℕ

-- It stops if it has bytes due or its link has ended.
module _ {M : Type 0} (stops : M → Bool) (step : M → ℕ → M) where
  -- a piece is received, byte by byte
  abbrev pub feed : M → List ℕ → FedPiece M
  feed m [] = record { machine = m; rest = [] }
  feed m (b ∷ bytes) = elim (stops m) [ true ↦ record { machine = m; rest = b ∷ bytes } | false ↦ feed (step m b) bytes ]

  -- the machine after these bytes, whether it stops or not
  abbrev pub run : M → List ℕ → M
  run m [] = m
  run m (b ∷ bytes) = run (step m b) bytes

  -- What a machine consumes of a piece: the shortest beginning of it after which the machine stops, otherwise all of it. A machine that has
  -- stopped already consumes nothing.
  pub record IsTaken (m : M) (piece taken : List ℕ) (after : FedPiece M) : Type 0 where
    pub piece_is : piece ≡ taken ++ after.rest
    pub machine_is : after.machine ≡ run m taken
    pub shortest : (front back : List ℕ) → taken ≡ front ++ back → 0 < length back → stops (run m front) ≡ false
    pub all_or : 0 < length after.rest → stops after.machine ≡ true

  abbrev pub Takes : M → List ℕ → Type 0
  Takes m piece = (taken : List ℕ) × IsTaken m piece taken (feed m piece)
