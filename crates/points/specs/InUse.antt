-- Publication points by their names, and the payloads that are in use.
use Rattle.std.specs.Prelude.{◌≡◌, ◌↔◌, ℕ, false, if◌then◌else◌, List, [], map as map_list, flat_map, Option, Some}
use Rattle.std.specs.List.{Contains}
use Rattle.std.specs.List.Sorted.{IsStrictlySortedBy}
use Rattle.std.specs.FinMap as map
use Rattle.std.specs.FinMap.{FinMap}
use Rattle.std.specs.Ordering.{nat_cmp}
use Rattle.std.specs.Cmp.Lexicographic.{slice_cmp}
use Rattle.std.specs.String.{string_bytes}
use Rattle.std.specs.declared.string.String.{String}
use Rattle.der_lite.specs.Moments.{CivilMoment, moment_before}
use Rattle.prefixes.specs.Payload.{Payload, vrp_cmp}
use Rattle.payloads.specs.RoaValues.{RoaValue, payloads_of}
use Rattle.points.specs.Accepted.{Accepted}

-- from the names of points to what they accepted last
abbrev pub Points : Type 0
Points = FinMap (slice_cmp nat_cmp) Accepted

abbrev pub no_points : Points
no_points = map.empty

-- what the point of a name accepted last; a name that is not there has accepted nothing
abbrev pub accepted_at : Points → List ℕ → Option Accepted
accepted_at points name = map.get points name

-- the points of entries by the bytes of their names
abbrev pub points_of : {Y : Type 0} → List (String Y × Accepted) → Points
points_of entries = map.from_entries (map_list (λ entry. (string_bytes entry.0, entry.1)) entries)

-- A payload is in use: a ROA validates it that a point holds whose nextUpdate is not before now (RFC 9286 section 6.6).
pub record Payloads (points : Points) (now : CivilMoment) (vrp : Payload) : Type 0 where
  pub name : List ℕ
  pub last : Accepted
  pub accepted : accepted_at points name ≡ Some last
  pub current : moment_before last.manifest.next_update now ≡ false
  pub roa : RoaValue
  pub held : Contains last.roas roa
  pub told : Contains (payloads_of roa) vrp

-- Those that are in use and no others, strictly ascending.
pub record Lists (vrps : List Payload) (points : Points) (now : CivilMoment) : Type 0 where
  pub ascending : IsStrictlySortedBy vrp_cmp vrps
  pub those : (vrp : Payload) → Contains vrps vrp ↔ Payloads points now vrp

-- ---- as private functions list them

-- all that a point validates
abbrev pub held_payloads : Accepted → List Payload
held_payloads last = flat_map payloads_of last.roas

-- all that it has in use
abbrev pub used_payloads : CivilMoment → Accepted → List Payload
used_payloads now last = if moment_before last.manifest.next_update now then [] else held_payloads last
