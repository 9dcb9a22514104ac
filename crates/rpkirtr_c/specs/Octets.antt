-- Octets and digests in C.
use Rattle.std.specs.Prelude.{◌≡◌, ℕ, List, ◌++◌, length, take, drop, replicate}
use Rattle.rpkirtr_c.specs.declared.octets.CDigest.{CDigest}

-- Octets fill a room, as far as it fits. The rest of the room stays.
abbrev pub IsFilled : List ℕ → List ℕ → List ℕ → Type 0
IsFilled octets old new = new ≡ take (length old) octets ++ drop (length octets) old

-- the digest of nothing
abbrev pub no_digest : CDigest
no_digest = record { octets = replicate 32 0 }
