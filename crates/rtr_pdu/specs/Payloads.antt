-- The parts of PDUs that are lists of bytes, as contracts see them.
use Rattle.std.specs.Prelude.{ℕ, ◌<◌, Bool, List, slice_index}

-- An Error Report (RFC 8210 section 5.11)
pub record Report : Type 0 where
  pub code : ℕ
  pub copy : List ℕ
  pub text : List ℕ

-- A Router Key (RFC 8210 section 5.10)
pub record Key : Type 0 where
  pub announce : Bool
  pub identifier : List ℕ
  pub asn : ℕ
  pub info : List ℕ

-- Each element of the list is a byte.
abbrev pub AreBytes : List ℕ → Type 0
AreBytes bytes = (i : ℕ) → slice_index bytes i < 256
