-- What bytes are, byte by byte: the beginning of a PDU, a PDU, or a fault (RFC 6810 section 5, RFC 8210 sections 5 and 12).
use Rattle.std.specs.Prelude.{◌≡◌, ◌↔◌, ℕ, ◌+◌, ◌-◌, ◌/◌, ◌%◌, ◌^◌, Bool, not, ◌&&◌, ◌==◌, nat_lt, nat_le, List, length, take, drop, slice_index, Option, Some, None, if◌then◌else◌}
use Rattle.std.specs.Str.{is_utf8}
use Rattle.byteorder.specs.Endian.{big_number}
use Rattle.rtr_pdu.specs.declared.version.Version.{Version}
use Rattle.rtr_pdu.specs.declared.version.Version.TheVariants.{V0, V1}
use Rattle.rtr_pdu.specs.declared.unit.Unit.{Unit}
use Rattle.rtr_pdu.specs.declared.unit.Unit.TheVariants.{SerialNotify, SerialQuery, ResetQuery, CacheResponse, Prefix, EndOfData, EndOfData0, CacheReset, RouterKey, ErrorReport}
use Rattle.rtr_pdu.specs.declared.unit.UnitFault.{UnitFault}
use Rattle.rtr_pdu.specs.declared.unit.UnitFault.TheVariants as faults
use Rattle.rtr_pdu.specs.declared.kind.Kind.TheVariants as kinds
use Rattle.rtr_pdu.specs.Kind.{fixed_len}
use Rattle.rtr_pdu.specs.Payloads.{AreBytes}
use Rattle.rtr_pdu.specs.Reading.{number_at, is_odd, v4_in, v6_in}
use Rattle.rtr_pdu.specs.Stream.{as_read, length_of, is_kind, header_fault, IsPartial, Shows}
use Rattle.rtr_pdu.specs.Unit.{Reads}

-- The End of Data in bytes: in version 0 it carries no intervals.
abbrev pub end_of_data_in : Version → List ℕ → Unit
end_of_data_in V0 bytes = EndOfData0 (number_at 2 2 bytes) (number_at 4 8 bytes)
end_of_data_in V1 bytes = EndOfData (number_at 2 2 bytes) (number_at 4 8 bytes) (number_at 4 12 bytes) (number_at 4 16 bytes) (number_at 4 20 bytes)

-- What bytes are read as, by their type: a front of them, if they begin with a PDU
abbrev pub unit_in : Version → List ℕ → Unit
unit_in version bytes =
    if is_kind kinds.SerialNotify bytes then SerialNotify (number_at 2 2 bytes) (number_at 4 8 bytes)
    else if is_kind kinds.SerialQuery bytes then SerialQuery (number_at 2 2 bytes) (number_at 4 8 bytes)
    else if is_kind kinds.ResetQuery bytes then ResetQuery
    else if is_kind kinds.CacheResponse bytes then CacheResponse (number_at 2 2 bytes)
    else if is_kind kinds.Ipv4Prefix bytes then Prefix (is_odd (slice_index bytes 8)) (v4_in bytes)
    else if is_kind kinds.Ipv6Prefix bytes then Prefix (is_odd (slice_index bytes 8)) (v6_in bytes)
    else if is_kind kinds.EndOfData bytes then end_of_data_in version bytes
    else if is_kind kinds.CacheReset bytes then CacheReset
    else if is_kind kinds.RouterKey bytes then RouterKey (record {
      announce = is_odd (slice_index bytes 2);
      identifier = take 20 (drop 8 bytes);
      asn = number_at 4 28 bytes;
      info = take (length_of bytes - fixed_len version kinds.RouterKey) (drop 32 bytes);
    })
    else ErrorReport (record {
      code = number_at 2 2 bytes;
      copy = take (number_at 4 8 bytes) (drop 12 bytes);
      text = take (number_at 4 (12 + number_at 4 8 bytes) bytes) (drop (16 + number_at 4 8 bytes) bytes);
    })

-- `IsRecord` as a test
abbrev pub has_record : ℕ → List ℕ → Bool
has_record width bytes =
    nat_le (slice_index bytes 9) (slice_index bytes 10)
    && (nat_le (slice_index bytes 10) width && big_number (width / 8) (drop 12 bytes) % 2 ^ (width - slice_index bytes 9) == 0)

-- `IsReport` as a test
abbrev pub has_report : Version → List ℕ → Bool
has_report version bytes =
    let copy = number_at 4 8 bytes in
    let text = number_at 4 (12 + copy) bytes in
    fixed_len version kinds.ErrorReport + copy + text == length_of bytes && is_utf8 (take text (drop (16 + copy) bytes))

-- The fault of a whole PDU, behind a header without a fault
abbrev pub body_fault : Version → List ℕ → Option UnitFault
body_fault version bytes =
    if is_kind kinds.Ipv4Prefix bytes && not (has_record 32 bytes) then Some faults.Record
    else if is_kind kinds.Ipv6Prefix bytes && not (has_record 128 bytes) then Some faults.Record
    else if is_kind kinds.ErrorReport bytes && not (has_report version bytes) then Some faults.ErrorReport
    else None

-- What bytes of a stream are, from the beginning of a PDU: a beginning in which no fault shows yet, a whole one at the front, or a fault.
pub data Judgement : Type 0 where
  Begins : Judgement
  Whole : Unit → Judgement
  Faulty : UnitFault → Judgement

abbrev pub by_body : Version → List ℕ → Option UnitFault → Judgement
by_body version bytes None = Whole (unit_in version bytes)
by_body version bytes (Some fault) = Faulty fault

abbrev pub by_header : Version → List ℕ → Option UnitFault → Judgement
by_header version bytes (Some fault) = Faulty fault
by_header version bytes None =
    if nat_lt (length bytes) 8 then Begins
    else if nat_lt (length bytes) (length_of bytes) then Begins
    else by_body version bytes (body_fault version bytes)

-- What bytes are if PDUs of this version are expected, at a cache and at a router (any)
unfoldable pub judge : Version → Bool → List ℕ → Judgement
judge version any bytes = let seen = as_read version any bytes in by_header version seen (header_fault version seen)

-- They are judged the beginning of a PDU if and only if they are one.
abbrev pub BeginsExactly : Type 0
BeginsExactly = (version : Version) (any : Bool) (bytes : List ℕ) → (judge version any bytes ≡ Begins) ↔ IsPartial version (as_read version any bytes)

-- They are judged to show a fault if and only if it shows.
abbrev pub FaultyExactly : Type 0
FaultyExactly =
    (version : Version) (any : Bool) (bytes : List ℕ) (fault : UnitFault) →
    (judge version any bytes ≡ Faulty fault) ↔ Shows version (as_read version any bytes) fault

-- Bytes of the length that their header gives are judged a PDU if and only if they are it.
abbrev pub WholeExactly : Type 0
WholeExactly =
    (version : Version) (any : Bool) (bytes : List ℕ) (u : Unit) → AreBytes bytes →
    length bytes ≡ length_of (as_read version any bytes) →
    (judge version any bytes ≡ Whole u) ↔ Reads version u (as_read version any bytes)
