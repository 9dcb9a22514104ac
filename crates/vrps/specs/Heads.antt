-- The prefixes of groups, apart from their records.
use Rattle.std.specs.Prelude.{◌≡◌, ℕ, ◌<◌, List, [], ◌++◌, length, map, get_or, ⊤}
use Rattle.prefixes.specs.Payload.{Payload}
use Rattle.prefixes.specs.declared.prefix.IpPrefix.{IpPrefix}
use Rattle.prefixes.specs.declared.prefix.IpPrefix.TheVariants.{V4, V6}
use Rattle.vrps.specs.Groups.{prefix_at}
use Rattle.vrps.specs.Keys.{head_block}
use Rattle.vrps.specs.declared.groups.Heads.{Heads}
use Rattle.vrps.specs.declared.key.Head.{Head}

abbrev pub v4_prefix : Head ℕ → IpPrefix
v4_prefix head = V4 (head_block head)

-- the prefixes, all of IPv4 before all of IPv6
abbrev pub heads_of : Heads → List IpPrefix
heads_of heads = map v4_prefix heads.v4.items ++ map V6 heads.v6.items

-- They are those of the groups at this many first places.
pub record AreHeads (records : List Payload) (starts : List ℕ) (places : ℕ) (heads : List IpPrefix) : Type 0 where
  pub counted : length heads ≡ places
  pub each : (place : ℕ) (d : Payload) (e : IpPrefix) → place < places → get_or heads place e ≡ prefix_at records starts place d

-- IPv4 comes before all of IPv6.
abbrev pub MayFollow : Heads → IpPrefix → Type 0
MayFollow heads (V4 p) = heads.v6.items ≡ []
MayFollow heads (V6 p) = ⊤
