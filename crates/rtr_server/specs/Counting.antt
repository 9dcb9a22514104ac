-- How many PDUs of each type went one way, as their headers say (RFC 6810 section 5, RFC 8210 section 5).
use Rattle.std.specs.Prelude.{ℕ, ◌+◌, ◌-◌, ◌^◌, min, max, ◌&&◌, ◌||◌, nat_le, nat_lt, Bool, true, List, [], ◌∷◌, ◌++◌, length, take, drop, replicate, slice_get, slice_index, slice_set, Option, Some, None, if◌then◌else◌, ◌≡◌, suc, ◌==◌, false}
use Rattle.vrps.specs.declared.serial.Serial.{Serial}
use Rattle.prefixes.specs.declared.prefix.IpPrefix.{IpPrefix}
use Rattle.prefixes.specs.declared.prefix.IpPrefix.TheVariants.{V4, V6}
use Rattle.rtr_pdu.specs.declared.unit.Unit.{Unit}
use Rattle.rtr_pdu.specs.declared.unit.Unit.TheVariants.{SerialNotify, SerialQuery, ResetQuery, CacheResponse, Prefix, EndOfData, EndOfData0, CacheReset, RouterKey, ErrorReport}
use Rattle.rtr_pdu.specs.declared.version.Version.{Version}
use Rattle.rtr_pdu.specs.Kind.{type_number}
use Rattle.rtr_pdu.specs.Payloads.{AreBytes}
use Rattle.rtr_pdu.specs.Reading.{number_at}
use Rattle.rtr_pdu.specs.Stream.{AreRead, IsPartial, Splits, is_kind, length_of, type_of}
use Rattle.rtr_pdu.specs.declared.kind.Kind.{Kind}
use Rattle.rtr_pdu.specs.declared.kind.Kind.TheVariants as kinds
use Rattle.rtr_server.specs.Reports.{Said, said_in}
use Rattle.rtr_server.specs.declared.tally.PdusByKind.{PdusByKind}

-- The first byte that came: one that came before, or the first of these. It is the version in the first header.
abbrev pub first_byte : Option ℕ → List ℕ → Option ℕ
first_byte None bytes = slice_get bytes 0
first_byte (Some first) bytes = Some first

-- a count of 64 bits
abbrev pub capped : ℕ → ℕ
capped n = min n (2 ^ 64 - 1)

-- how many PDUs of a type
abbrev pub count_of : PdusByKind → Kind → ℕ
count_of pdus kind = slice_index pdus.counts (type_number kind)

-- A query is among these PDUs: a Serial Query (RFC 8210 section 5.3) or a Reset Query (section 5.4).
abbrev pub has_query : PdusByKind → Bool
has_query pdus = nat_lt 0 (count_of pdus kinds.SerialQuery) || nat_lt 0 (count_of pdus kinds.ResetQuery)

-- This many more of the type with this number. Numbers above ten are no type, and are not counted.
abbrev pub and_pdus : ℕ → ℕ → PdusByKind → PdusByKind
and_pdus count type pdus = record { counts = slice_set pdus.counts type (capped (slice_index pdus.counts type + count)) }

-- one more
abbrev pub and_pdu : ℕ → PdusByKind → PdusByKind
and_pdu type pdus = and_pdus 1 type pdus

-- What was counted of bytes: their PDUs by type, the serial that the last End of Data carries, and what the last Error Report says. Of the
-- last PDU, which has not come whole: how many bytes came, and the first twelve. If it is an Error Report, the tail has those behind the
-- PDU that it encapsulates, at most 204: the length of the text, and the beginning of the text.
pub record Counted : Type 0 where
  pub pdus : PdusByKind
  pub serial : Option Serial
  pub report : Option Said
  pub front : List ℕ
  pub tail : List ℕ
  pub came : ℕ

-- There is no beginning of a PDU that is not whole.
pub record IsBetween (c : Counted) : Type 0 where
  pub no_front : c.front ≡ []
  pub no_tail : c.tail ≡ []
  pub none_came : c.came ≡ 0

abbrev pub none_counted : Counted
none_counted = record { pdus = record { counts = replicate 11 0 }; serial = None; report = None; front = []; tail = []; came = 0 }

-- How many bytes a PDU has whose first bytes are these: as many as its header says, and a header has eight.
abbrev pub told_len : List ℕ → ℕ
told_len front = max (length_of front) 8

-- An End of Data carries the serial of its version right behind its header (RFC 6810 section 5.8, RFC 8210 section 5.8).
abbrev pub serial_after : List ℕ → ℕ → Option Serial → Option Serial
serial_after front len last = if is_kind kinds.EndOfData front && nat_le 12 len then Some (record { 0 = number_at 4 8 front }) else last

-- The place of the tail in an Error Report of these first bytes: behind the header, the length of the encapsulated PDU, and that PDU (RFC 8210
-- section 5.11)
abbrev pub tail_at : List ℕ → ℕ
tail_at front = 12 + number_at 4 8 front

-- The beginning of the text of a whole Error Report of this many bytes, with these first bytes and this tail. It is empty if the lengths do
-- not add up.
abbrev pub text_in : List ℕ → List ℕ → ℕ → List ℕ
text_in front tail len = if tail_at front + 4 + number_at 4 0 tail == len then drop 4 tail else []

-- What the last Error Report says, after a PDU of this many bytes, with these first bytes and this tail
abbrev pub report_after : List ℕ → List ℕ → ℕ → Option Said → Option Said
report_after front tail len last = if is_kind kinds.ErrorReport front then Some (record { code = number_at 2 2 front; text = text_in front tail len }) else last

-- A PDU of these first bytes and this tail has come whole, and has this many bytes.
abbrev pub and_whole : List ℕ → List ℕ → ℕ → Counted → Counted
and_whole front tail len c = record { pdus = and_pdu (type_of front) c.pdus; serial = serial_after front len c.serial; report = report_after front tail len c.report; front = []; tail = []; came = 0 }

-- This many PDUs of another type than End of Data and Error Report have come whole.
abbrev pub and_many : ℕ → ℕ → Counted → Counted
and_many count type c = record { pdus = and_pdus count type c.pdus; serial = c.serial; report = c.report; front = []; tail = []; came = 0 }

-- The tail of a PDU of these first bytes after the next byte, with which this many came
abbrev pub and_tail : List ℕ → ℕ → List ℕ → ℕ → List ℕ
and_tail front came tail b = if nat_lt (tail_at front) came then take 204 (tail ++ b ∷ []) else tail

-- the next byte of the last PDU came
abbrev pub grown : Counted → ℕ → Counted
grown c b =
    let front = take 12 (c.front ++ b ∷ []) in
    let came = capped (c.came + 1) in
    record c { front = front; tail = and_tail front came c.tail b; came = came }

-- whether it has come whole
abbrev pub is_whole : Counted → Bool
is_whole c = nat_le 8 c.came && nat_le (told_len c.front) c.came

-- the next byte
abbrev pub and_byte : Counted → ℕ → Counted
and_byte c b = let now = grown c b in if is_whole now then and_whole now.front now.tail now.came c else now

abbrev pub counted_on : Counted → List ℕ → Counted
counted_on c [] = c
counted_on c (b ∷ bytes) = counted_on (and_byte c b) bytes

-- What is counted of bytes
abbrev pub counted : List ℕ → Counted
counted bytes = counted_on none_counted bytes

abbrev pub kind_of_prefix : IpPrefix → Kind
kind_of_prefix (V4 p) = kinds.Ipv4Prefix
kind_of_prefix (V6 p) = kinds.Ipv6Prefix

-- The type of a PDU
abbrev pub kind_of : Unit → Kind
kind_of (SerialNotify session serial) = kinds.SerialNotify
kind_of (SerialQuery session serial) = kinds.SerialQuery
kind_of ResetQuery = kinds.ResetQuery
kind_of (CacheResponse session) = kinds.CacheResponse
kind_of (Prefix announce v) = kind_of_prefix v.prefix
kind_of (EndOfData session serial refresh retry expire) = kinds.EndOfData
kind_of (EndOfData0 session serial) = kinds.EndOfData
kind_of CacheReset = kinds.CacheReset
kind_of (RouterKey k) = kinds.RouterKey
kind_of (ErrorReport r) = kinds.ErrorReport

-- how many of these PDUs are of a type
abbrev pub units_of : Kind → List Unit → ℕ
units_of kind [] = 0
units_of kind (u ∷ units) = if type_number (kind_of u) == type_number kind then suc (units_of kind units) else units_of kind units

-- The serial that an End of Data carries; other PDUs carry none.
abbrev pub end_serial : Unit → Option Serial → Option Serial
end_serial (EndOfData session serial refresh retry expire) last = Some (record { 0 = serial })
end_serial (EndOfData0 session serial) last = Some (record { 0 = serial })
end_serial u last = last

-- the serial that the last End of Data among these PDUs carries, if there is one
abbrev pub last_serial : Option Serial → List Unit → Option Serial
last_serial last [] = last
last_serial last (u ∷ units) = last_serial (end_serial u last) units

-- What an Error Report says; other PDUs say nothing.
abbrev pub report_of : Unit → Option Said → Option Said
report_of (ErrorReport r) last = Some (record { code = r.code; text = take 200 r.text })
report_of u last = last

-- what the last Error Report among these PDUs says, if there is one
abbrev pub last_report : Option Said → List Unit → Option Said
last_report last [] = last
last_report last (u ∷ units) = last_report (report_of u last) units

-- What is counted of bytes that are read as these PDUs, with the beginning of one more. That is how many of each type there are, the serial
-- of the last End of Data, and what the last Error Report says.
abbrev pub CountsUnits : Type 0
CountsUnits =
    (version : Version) (units : List Unit) (front rest : List ℕ) → AreRead version false units front → IsPartial version rest →
    ((kind : Kind) → count_of (counted (front ++ rest)).pdus kind ≡ capped (units_of kind units)) × ((counted (front ++ rest)).serial ≡ last_serial None units) × ((counted (front ++ rest)).report ≡ last_report None units)

-- What is counted of bytes that are split into these PDUs, at a cache or at a router (any), if no fault shows. The beginning of one more
-- counts for nothing.
abbrev pub CountsSplits : Type 0
CountsSplits =
    (version : Version) (any : Bool) (stream : List ℕ) (units : List Unit) (rest : List ℕ) → Splits version any stream units rest None →
    (kind : Kind) → count_of (counted stream).pdus kind ≡ capped (units_of kind units)

-- After the bytes of a whole Error Report, behind whole PDUs, it is the last, also if a fault is in it.
abbrev pub CountsReports : Type 0
CountsReports =
    (bytes pdu : List ℕ) → AreBytes pdu → IsBetween (counted bytes) → is_kind kinds.ErrorReport pdu ≡ true → told_len pdu ≡ length pdu → (counted (bytes ++ pdu)).report ≡ Some (said_in pdu)

abbrev pub is_query : Unit → Bool
is_query (SerialQuery session serial) = true
is_query ResetQuery = true
is_query u = false

-- whether a query is among these PDUs
abbrev pub asks : List Unit → Bool
asks [] = false
asks (u ∷ units) = is_query u || asks units

-- In bytes that are read as these PDUs, with the beginning of one more, a query is counted if and only if one is among the PDUs. A header
-- or another part of a query counts for nothing.
abbrev pub CountsQueries : Type 0
CountsQueries =
    (version : Version) (units : List Unit) (front rest : List ℕ) → AreRead version false units front → IsPartial version rest → has_query (counted (front ++ rest)).pdus ≡ asks units
