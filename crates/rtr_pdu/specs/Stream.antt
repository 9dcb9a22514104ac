-- A stream of bytes as PDUs (RFC 6810 section 5, RFC 8210 sections 5 and 12).
use Rattle.std.specs.Prelude.{◌≡◌, ◌⊎◌, ℕ, ◌+◌, ◌-◌, ◌/◌, ◌%◌, ◌^◌, ◌<◌, ◌≤◌, Bool, true, false, not, ◌&&◌, ◌==◌, nat_lt, nat_le, List, [], ◌∷◌, ◌++◌, length, take, drop, slice_index, Option, Some, None, if◌then◌else◌, MatchOption}
use Rattle.std.specs.Str.{IsUtf8}
use Rattle.byteorder.specs.Endian.{big_number}
use Rattle.rtr_pdu.specs.Version.{version_number}
use Rattle.rtr_pdu.specs.declared.version.Version.{Version}
use Rattle.rtr_pdu.specs.declared.version.Version.TheVariants.{V1}
use Rattle.rtr_pdu.specs.declared.unit.Unit.{Unit}
use Rattle.rtr_pdu.specs.declared.unit.Unit.TheVariants.{SerialNotify}
use Rattle.rtr_pdu.specs.declared.unit.UnitFault.{UnitFault}
use Rattle.rtr_pdu.specs.declared.unit.UnitFault.TheVariants as faults
use Rattle.rtr_pdu.specs.declared.kind.Kind.{Kind}
use Rattle.rtr_pdu.specs.declared.kind.Kind.TheVariants as kinds
use Rattle.rtr_pdu.specs.Kind.{type_number, fixed_len, is_type, has_length}
use Rattle.rtr_pdu.specs.Payloads.{AreBytes}
use Rattle.rtr_pdu.specs.Unit.{MAX_UNIT_LEN, IsUnit, Reads, fits, unit_bytes}

-- The fields of a header: version, type, and the length of the whole PDU
abbrev pub version_of : List ℕ → ℕ
version_of bytes = slice_index bytes 0

abbrev pub type_of : List ℕ → ℕ
type_of bytes = slice_index bytes 1

abbrev pub length_of : List ℕ → ℕ
length_of bytes = big_number 4 (drop 4 bytes)

-- The header shows this type.
abbrev pub IsKind : Kind → List ℕ → Type 0
IsKind kind bytes = type_of bytes ≡ type_number kind

-- `IsKind` as a test
abbrev pub is_kind : Kind → List ℕ → Bool
is_kind kind bytes = type_of bytes == type_number kind

-- The first fault of a header with these bytes of version, type and length, if PDUs of this version are expected
abbrev pub fault_of : Version → ℕ → ℕ → ℕ → Option UnitFault
fault_of version shown type len =
    if not (shown == version_number version) then Some faults.Version
    else if not (is_type version type) then Some faults.«Type»
    else if not (has_length version type len) then Some faults.Length
    else if nat_lt MAX_UNIT_LEN len then Some faults.TooLong
    else None

-- A header that is still to come has no fault.
abbrev pub header_fault : Version → List ℕ → Option UnitFault
header_fault version bytes = if nat_lt (length bytes) 8 then None else fault_of version (version_of bytes) (type_of bytes) (length_of bytes)

-- A PDU has not come whole, and its header, as far as it has come, has no fault.
abbrev pub IsPartial : Version → List ℕ → Type 0
IsPartial version bytes = (header_fault version bytes ≡ None) × ((length bytes < 8) ⊎ (length bytes < length_of bytes))

-- A PDU has come whole, behind a header without a fault.
abbrev pub IsWhole : Version → List ℕ → Type 0
IsWhole version bytes = (header_fault version bytes ≡ None) × (8 ≤ length bytes) × (length_of bytes ≤ length bytes)

-- The bytes of a prefix PDU hold a payload: its maximum is from its length to the width, and no host bit is set.
abbrev pub IsRecord : ℕ → List ℕ → Type 0
IsRecord width bytes =
    (slice_index bytes 9 ≤ slice_index bytes 10) × (slice_index bytes 10 ≤ width)
    × (big_number (width / 8) (drop 12 bytes) % 2 ^ (width - slice_index bytes 9) ≡ 0)

-- The two lengths in an Error Report and 16 add up to its length, and its text is UTF-8.
abbrev pub IsReport : Version → List ℕ → Type 0
IsReport version bytes =
    let copy = big_number 4 (drop 8 bytes) in
    let text = big_number 4 (drop (12 + copy) bytes) in
    (fixed_len version kinds.ErrorReport + copy + text ≡ length_of bytes) × IsUtf8 (take text (drop (16 + copy) bytes))

-- This fault, and none before it, shows at the front of the bytes. That the input ends is no fault of bytes.
abbrev pub Shows : Version → List ℕ → UnitFault → Type 0
Shows version bytes faults.Record =
    IsWhole version bytes × ((IsKind kinds.Ipv4Prefix bytes × ¬ (IsRecord 32 bytes)) ⊎ (IsKind kinds.Ipv6Prefix bytes × ¬ (IsRecord 128 bytes)))
Shows version bytes faults.ErrorReport = IsWhole version bytes × IsKind kinds.ErrorReport bytes × ¬ (IsReport version bytes)
Shows version bytes faults.Truncated = ⊥
Shows version bytes fault = header_fault version bytes ≡ Some fault

-- The fault if the input ends behind what follows the last PDU: the one that shows, or that a PDU is cut off
abbrev pub end_fault : List ℕ → Option UnitFault → Option UnitFault
end_fault rest (Some fault) = Some fault
end_fault [] None = None
end_fault (b ∷ rest) None = Some faults.Truncated

-- A router that has not agreed on a version yet (any) reads a Serial Notify, known by its type and its length, whatever its
-- version (RFC 8210 section 7). So it reads the bytes with the expected version in such a header.
abbrev pub is_notify_header : List ℕ → Bool
is_notify_header bytes = nat_le 8 (length bytes) && (is_kind kinds.SerialNotify bytes && length_of bytes == fixed_len V1 kinds.SerialNotify)

unfoldable pub as_read : Version → Bool → List ℕ → List ℕ
as_read version any bytes = if any && is_notify_header bytes then version_number version ∷ drop 1 bytes else bytes

-- There is no agreement while Serial Notifies alone are read.
abbrev pub is_notify : Unit → Bool
is_notify (SerialNotify session serial) = true
is_notify _ = false

abbrev pub any_after : Bool → List Unit → Bool
any_after any [] = any
any_after any (u ∷ units) = any_after (any && is_notify u) units

-- These PDUs are read from these bytes, one after the other, to the last byte.
abbrev pub AreRead : Version → Bool → List Unit → List ℕ → Type 0
AreRead version any [] bytes = bytes ≡ []
AreRead version any (u ∷ units) bytes =
    (front : List ℕ) × (back : List ℕ) × (bytes ≡ front ++ back)
    × Reads version u (as_read version any front) × AreRead version (any && is_notify u) units back

-- The stream begins with these PDUs. What follows is the beginning of a PDU in which no fault shows yet, or shows this fault.
pub record Splits (version : Version) (any : Bool) (stream : List ℕ) (units : List Unit) (rest : List ℕ) (fault : Option UnitFault) : Type 0 where
  pub front : List ℕ
  pub whole : stream ≡ front ++ rest
  pub read : AreRead version any units front
  pub after : let seen = as_read version (any_after any units) rest in MatchOption fault (IsPartial version seen) (Shows version seen)

-- Two splits of one stream are the same.
pub record SameSplit (units others : List Unit) (rest left : List ℕ) (fault other : Option UnitFault) : Type 0 where
  pub units_are : units ≡ others
  pub rests_are : rest ≡ left
  pub faults_are : fault ≡ other

-- A stream is split into PDUs in one way, at the cache and at a router (any).
abbrev pub OneSplit : Type 0
OneSplit =
    (version : Version) (any : Bool) (stream : List ℕ) (units others : List Unit) (rest left : List ℕ) (fault other : Option UnitFault) →
    Splits version any stream units rest fault → Splits version any stream others left other →
    SameSplit units others rest left fault other

-- Each list of bytes has a split.
abbrev pub EachSplits : Type 0
EachSplits =
    (version : Version) (any : Bool) (stream : List ℕ) → AreBytes stream →
    (units : List Unit) × (rest : List ℕ) × (fault : Option UnitFault) × Splits version any stream units rest fault

-- No shorter beginning of these bytes ends a PDU or shows a fault.
abbrev pub IsShortest : Version → Bool → List ℕ → Type 0
IsShortest version any bytes =
    (front : List ℕ) (back : List ℕ) → bytes ≡ front ++ back → 0 < length back → IsPartial version (as_read version any front)

-- What is encoded is read again.
abbrev pub WrittenIsRead : Type 0
WrittenIsRead = (version : Version) (u : Unit) → IsUnit u → fits version u ≡ true → Reads version u (unit_bytes version u)

-- No PDU's bytes begin another's: if two are at the front of the same bytes, they are the same, and so is what follows.
abbrev pub NoBeginning : Type 0
NoBeginning =
    (version : Version) (u v : Unit) (front other back rest : List ℕ) → Reads version u front → Reads version v other → front ++ back ≡ other ++ rest →
    (u ≡ v) × (back ≡ rest)
