-- What a table says of authorities.
use Rattle.std.specs.Prelude.{ℕ, nat_eq, if◌then◌else◌, List, Option, Some, None}
use Rattle.std.specs.List.{Contains}
use Rattle.prefixes.specs.Payload.{Payload}
use Rattle.authority_walk.specs.Hierarchy.{Hierarchy}

pub record Table : Type 0 where
  pub anchors : List ℕ
  pub issued : List (ℕ × ℕ)
  pub vrps : List (ℕ × Payload)

abbrev pub hierarchy_of : Table → Hierarchy ℕ
hierarchy_of t = record { IsAnchor = λ a. Contains t.anchors a; Issues = λ a b. Contains t.issued (a, b); Validates = λ a vrp. Contains t.vrps (a, vrp) }

-- none before the last one if the first part of this point was read
abbrev pub parts_left : Option ℕ → ℕ → ℕ
parts_left None by = 1
parts_left (Some n) by = if nat_eq n by then 0 else 1
