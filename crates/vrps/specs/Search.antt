-- Steps of a search for the groups that cover a prefix.
use Rattle.std.specs.Prelude.{◌≡◌, ℕ, ◌+◌, ◌-◌, ◌*◌, ◌^◌, ◌<◌, ◌≤◌, true, false, List, length, get_or, Option, Some, None}
use Rattle.std.specs.Int.Digits.{digits_of}
use Rattle.prefixes.specs.Payload.{Payload, block_of, covers, width_of}
use Rattle.prefixes.specs.declared.prefix.IpPrefix.{IpPrefix}
use Rattle.vrps.specs.Groups.{begin, group_at, prefix_at}
use Rattle.vrps.specs.Keys.{up_to}

-- Of the groups at the first places those that are not after a prefix
pub record IsUpTo (records : List Payload) (starts : List ℕ) (places : ℕ) (key : IpPrefix) (found : ℕ) : Type 0 where
  pub fewer : found ≤ places
  pub before : (d : Payload) → 0 < found → up_to (prefix_at records starts (found - 1) d) key ≡ true
  pub after : (place : ℕ) (d : Payload) → found ≤ place → place < places → up_to (prefix_at records starts place d) key ≡ false

-- This number of readings is at most the number of binary digits of the number of places.
pub record CostsDigits (places old new : ℕ) : Type 0 where
  pub counted : old ≤ new
  pub few : 2 ^ (new - old) ≤ 2 * places + 1

-- the binary digits of a number; 0 has none
abbrev pub digit_count : ℕ → ℕ
digit_count n = length (digits_of 2 n)

-- Of the groups at the first places only those of this many lengths, from 0 on, can cover a prefix.
pub record IsLeft (records : List Payload) (starts : List ℕ) (prefix : IpPrefix) (places lengths : ℕ) : Type 0 where
  pub in_places : places ≤ length starts
  pub in_family : (block_of prefix).len ≤ width_of prefix
  pub in_lengths : lengths ≤ (block_of prefix).len + 1
  pub shorter : (k : ℕ) (d : Payload) → k < begin records starts places → covers (get_or records k d).prefix prefix ≡ true → (block_of (get_or records k d).prefix).len < lengths

-- no record from a place up to another covers the prefix
abbrev pub NoneCovers : List Payload → IpPrefix → ℕ → ℕ → Type 0
NoneCovers records prefix low high = (k : ℕ) (d : Payload) → low ≤ k → k < high → covers (get_or records k d).prefix prefix ≡ false

-- the group at the place covers the prefix, and no record from there up to a place
pub record IsNextGroup (records : List Payload) (starts : List ℕ) (prefix : IpPrefix) (places new_places : ℕ) (group : List Payload) : Type 0 where
  pub fewer : new_places < places
  pub is : group ≡ group_at records starts new_places
  pub covers_it : (k : ℕ) (d : Payload) → begin records starts new_places ≤ k → k < begin records starts (new_places + 1) → covers (get_or records k d).prefix prefix ≡ true
  pub none_after : NoneCovers records prefix (begin records starts (new_places + 1)) (begin records starts places)

abbrev pub IsNext : List Payload → List ℕ → IpPrefix → ℕ → ℕ → ℕ → ℕ → Option (List Payload) → Type 0
IsNext records starts prefix places lengths new_places new_lengths None = NoneCovers records prefix 0 (begin records starts places) × (new_lengths ≡ 0)
IsNext records starts prefix places lengths new_places new_lengths (Some group) =
    IsNextGroup records starts prefix places new_places group × IsLeft records starts prefix new_places new_lengths × (new_lengths < lengths)

-- Each length that was tried cost at most as many readings as the number of groups has binary digits.
pub record CostsLengths (groups lengths new_lengths old new : ℕ) : Type 0 where
  pub counted : old ≤ new
  pub fewer : new_lengths ≤ lengths
  pub few : new + new_lengths * digit_count groups ≤ old + lengths * digit_count groups
