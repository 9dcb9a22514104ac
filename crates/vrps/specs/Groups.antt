-- Groups: all payloads of one prefix.
use Rattle.std.specs.Prelude.{◌≡◌, ℕ, ◌+◌, ◌<◌, ◌≤◌, Bool, List, length, filter, map, get_or, slice_range}
use Rattle.std.specs.List.{All, dedup}
use Rattle.std.specs.Ordering.{eq_by_cmp}
use Rattle.std.specs.declared.cmp.Ordering.TheVariants.{Less}
use Rattle.prefixes.specs.Payload.{Payload, IsPayload, prefix_cmp}
use Rattle.prefixes.specs.declared.prefix.IpPrefix.{IpPrefix}
use Rattle.vrps.specs.VrpSet.{VrpSet, listing}

abbrev pub same_prefix : IpPrefix → IpPrefix → Bool
same_prefix = eq_by_cmp prefix_cmp

-- the prefixes of ascending payloads, each once
abbrev pub prefixes_of : List Payload → List IpPrefix
prefixes_of vs = dedup same_prefix (map (λ v. v.prefix) vs)

-- how many groups a set has: one for each prefix
abbrev pub group_count : VrpSet → ℕ
group_count s = length (prefixes_of (listing s))

-- A group: all payloads of one prefix
abbrev pub of_prefix : IpPrefix → List Payload → List Payload
of_prefix p vs = filter (λ v. same_prefix v.prefix p) vs

-- Sorted groups, one after the other: where that of a place begins. After the last one it is the end of the records.
abbrev pub begin : List Payload → List ℕ → ℕ → ℕ
begin records starts place = get_or starts place (length records)

abbrev pub group_at : List Payload → List ℕ → ℕ → List Payload
group_at records starts place = slice_range records (begin records starts place) (begin records starts (place + 1))

-- the prefix of the group of a place
abbrev pub prefix_at : List Payload → List ℕ → ℕ → Payload → IpPrefix
prefix_at records starts place d = (get_or records (begin records starts place) d).prefix

-- The groups are all of the records; none is empty; the records of one have one prefix, which is above those of all groups before it. All of them are payloads.
pub record AreGroups (records : List Payload) (starts : List ℕ) : Type 0 where
  pub payloads : All IsPayload records
  pub counted : length starts ≡ length (prefixes_of records)
  pub first : begin records starts 0 ≡ 0
  pub grow : (i : ℕ) → i < length starts → begin records starts i < begin records starts (i + 1)
  pub within : (i : ℕ) → begin records starts i ≤ length records
  pub one_prefix : (i k : ℕ) (d : Payload) → begin records starts i ≤ k → k < begin records starts (i + 1) → (get_or records k d).prefix ≡ (get_or records (begin records starts i) d).prefix
  pub ascend : (i k : ℕ) (d : Payload) → i < length starts → k < begin records starts i → prefix_cmp (get_or records k d).prefix (get_or records (begin records starts i) d).prefix ≡ Less
