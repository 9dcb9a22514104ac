-- What is published, kept and asked for, version by version (RFC 8210 sections 2, 5.1 and 8).
use Rattle.std.specs.Prelude.{◌≡◌, ◌⊎◌, ◌↔◌, ℕ, ◌+◌, ◌<◌, ◌^◌, Bool, true, false, ◌&&◌, List, [], ◌∷◌, ◌++◌, length, take, Option, Some, None, if◌then◌else◌}
use Rattle.std.specs.Ordering.{eq_by_cmp}
use Rattle.prefixes.specs.Payload.{Payload, vrp_cmp}
use Rattle.vrps.specs.declared.change.Change.{Change}
use Rattle.vrps.specs.Change.{between}
use Rattle.vrps.specs.Instance.{Instance, IsInstance, NumberedSet, versions_from, with_serial}
use Rattle.vrps.specs.Serial.{serial_at, is_before}
use Rattle.vrps.specs.VrpSet.{VrpSet, IsVrpSet, listing}

-- Two sets list the same members: equality as a test
abbrev pub same_list : List Payload → List Payload → Bool
same_list [] [] = true
same_list (v ∷ vs) (w ∷ ws) = eq_by_cmp vrp_cmp v w && same_list vs ws
same_list vs ws = false

abbrev pub is_same : VrpSet → VrpSet → Bool
is_same s t = same_list (listing s) (listing t)

abbrev pub SameExactly : Type 0
SameExactly = (s t : VrpSet) → (is_same s t ≡ true) ↔ (s ≡ t)

-- whether the newest of these sets is this one
abbrev pub is_current : List VrpSet → VrpSet → Bool
is_current [] set = false
is_current (now ∷ older) set = is_same now set

-- An instance after a set is published. A set that equals the newest one adds nothing.
abbrev pub published : VrpSet → Instance → Instance
published set i = if is_current i.sets set then i else record i { sets = set ∷ i.sets }

-- What a cache knows of a version that is asked for by its serial (RFC 8210 sections 8.2 to 8.4). Nothing is published, or the version is
-- not kept, or there is the change from it to the current version.
pub data Since : Type 0 where
  NoData : Since
  Unknown : Since
  Known : Change → Since

abbrev pub step_from : NumberedSet → Option NumberedSet → Since
step_from now None = Unknown
step_from now (Some before) = Known (between before.set now.set)

-- Kept are the current version and the keep versions before it; of two with one serial the newer counts.
abbrev pub since : ℕ → ℕ → List NumberedSet → Since
since keep serial [] = NoData
since keep serial (now ∷ older) = step_from now (with_serial serial (now ∷ take keep older))

-- An instance stays one when a set is published.
abbrev pub PublishedIsInstance : Type 0
PublishedIsInstance = (set : VrpSet) (i : Instance) → IsVrpSet set → IsInstance i → IsInstance (published set i)

-- While fewer than 2^31 versions are newer, the serial of a version names it,
abbrev pub NamesItself : Type 0
NamesItself =
    (start : ℕ) (newer : List VrpSet) (set : VrpSet) (older : List VrpSet) → length newer < 2 ^ 31 →
    with_serial (serial_at start (length older)) (versions_from start (newer ++ set ∷ older))
    ≡ Some (record { serial = serial_at start (length older); set = set })

-- what is kept under it is it or nothing,
abbrev pub KeptIsItself : Type 0
KeptIsItself =
    (start kept : ℕ) (newer : List VrpSet) (set : VrpSet) (older : List VrpSet) → length newer < 2 ^ 31 →
    let found = with_serial (serial_at start (length older)) (take kept (versions_from start (newer ++ set ∷ older))) in
    (found ≡ None) ⊎ (found ≡ Some (record { serial = serial_at start (length older); set = set }))

-- and it is before the newest version, if there is a newer one.
abbrev pub IsBeforeNewer : Type 0
IsBeforeNewer = (start position steps : ℕ) → 0 < steps → steps < 2 ^ 31 → is_before (serial_at start position) (serial_at start (position + steps)) ≡ true
