-- What a PDU's bytes are (RFC 6810 section 5, RFC 8210 section 5). Numbers are big-endian. If the standard says "zero", the field is zero
-- when sent and ignored when received.
use Rattle.std.specs.Prelude.{◌≡◌, ℕ, ◌+◌, ◌-◌, ◌*◌, ◌<◌, ◌≤◌, ◌^◌, Bool, true, not, List, ◌∷◌, ◌++◌, length, if◌then◌else◌, ⊤}
use Rattle.std.specs.Str.{IsUtf8}
use Rattle.byteorder.specs.Endian.{big_bytes}
use Rattle.prefixes.specs.Payload.{IsPayload}
use Rattle.prefixes.specs.declared.prefix.IpPrefix.{IpPrefix}
use Rattle.prefixes.specs.declared.prefix.IpPrefix.TheVariants.{V4, V6}
use Rattle.rtr_pdu.specs.Version.{version_number, is_v0}
use Rattle.rtr_pdu.specs.declared.version.Version.{Version}
use Rattle.rtr_pdu.specs.declared.version.Version.TheVariants.{V1}
use Rattle.rtr_pdu.specs.Kind.{type_number, fixed_len}
use Rattle.rtr_pdu.specs.Payloads.{AreBytes}
use Rattle.rtr_pdu.specs.declared.kind.Kind.{Kind}
use Rattle.rtr_pdu.specs.declared.kind.Kind.TheVariants as kinds
use Rattle.rtr_pdu.specs.declared.unit.Unit.{Unit}
use Rattle.rtr_pdu.specs.declared.unit.Unit.TheVariants.{SerialNotify, SerialQuery, ResetQuery, CacheResponse, Prefix, EndOfData, EndOfData0, CacheReset, RouterKey, ErrorReport}

-- The most bytes that a PDU has
abbrev pub MAX_UNIT_LEN : ℕ
MAX_UNIT_LEN = 4096

-- The most bytes of copy and text of an Error Report together
abbrev pub REPORT_ROOM : ℕ
REPORT_ROOM = MAX_UNIT_LEN - fixed_len V1 kinds.ErrorReport

-- The most bytes of the key of a Router Key
abbrev pub KEY_ROOM : ℕ
KEY_ROOM = MAX_UNIT_LEN - fixed_len V1 kinds.RouterKey

-- The lowest flag bit: 1 for an announcement, 0 for a withdrawal
abbrev pub flag : Bool → ℕ
flag announce = if announce then 1 else 0

-- What the bits hold that are zero when sent: the two bytes of the header, the other seven flag bits, and the byte after
-- the maximum length or the flags.
pub record Ignored : Type 0 where
  pub header : ℕ
  pub flags : ℕ
  pub byte : ℕ

pub record AreBits (z : Ignored) : Type 0 where
  pub header : z.header < 2 ^ 16
  pub flags : z.flags < 2 ^ 7
  pub byte : z.byte < 2 ^ 8

abbrev pub zeros : Ignored
zeros = record { header = 0; flags = 0; byte = 0 }

-- The header: version, type, two bytes by type, and the length of the whole PDU
abbrev pub header : Version → ℕ → ℕ → ℕ → List ℕ
header version kind field len = version_number version ∷ kind ∷ big_bytes 2 field ++ big_bytes 4 len

-- The same of a PDU whose type has one length
abbrev pub fixed_header : Version → Kind → ℕ → List ℕ
fixed_header version kind field = header version (type_number kind) field (fixed_len version kind)

-- An IPv4 or IPv6 Prefix (RFC 8210 sections 5.6 and 5.7): flags, length, maximum, zero, address, AS
abbrev pub prefix_bytes : Version → Bool → IpPrefix → ℕ → ℕ → Ignored → List ℕ
prefix_bytes version announce (V4 p) max_len asn z =
    fixed_header version kinds.Ipv4Prefix z.header ++ (flag announce + 2 * z.flags) ∷ p.len ∷ max_len ∷ z.byte ∷ big_bytes 4 p.addr ++ big_bytes 4 asn
prefix_bytes version announce (V6 p) max_len asn z =
    fixed_header version kinds.Ipv6Prefix z.header ++ (flag announce + 2 * z.flags) ∷ p.len ∷ max_len ∷ z.byte ∷ big_bytes 16 p.addr ++ big_bytes 4 asn

-- The PDUs that there are in a version. Version 1 has an End of Data with intervals and a Router Key, version 0 an End of Data without
-- intervals, and both have all others.
abbrev pub fits : Version → Unit → Bool
fits version (EndOfData session serial refresh retry expire) = not (is_v0 version)
fits version (EndOfData0 session serial) = is_v0 version
fits version (RouterKey k) = not (is_v0 version)
fits version u = true

-- The bytes of a PDU of this protocol version, with what is ignored (RFC 6810 sections 5.2 to 5.10, RFC 8210 sections 5.2 to 5.11)
abbrev pub spelled : Version → Unit → Ignored → List ℕ
spelled version (SerialNotify session serial) z = fixed_header version kinds.SerialNotify session ++ big_bytes 4 serial
spelled version (SerialQuery session serial) z = fixed_header version kinds.SerialQuery session ++ big_bytes 4 serial
spelled version ResetQuery z = fixed_header version kinds.ResetQuery z.header
spelled version (CacheResponse session) z = fixed_header version kinds.CacheResponse session
spelled version (Prefix announce v) z = prefix_bytes version announce v.prefix v.max_len v.asn z
spelled version (EndOfData session serial refresh retry expire) z =
    fixed_header version kinds.EndOfData session ++ big_bytes 4 serial ++ big_bytes 4 refresh ++ big_bytes 4 retry ++ big_bytes 4 expire
spelled version (EndOfData0 session serial) z = fixed_header version kinds.EndOfData session ++ big_bytes 4 serial
spelled version CacheReset z = fixed_header version kinds.CacheReset z.header
spelled version (RouterKey k) z =
    version_number version ∷ type_number kinds.RouterKey ∷ (flag k.announce + 2 * z.flags) ∷ z.byte ∷ big_bytes 4 (fixed_len version kinds.RouterKey + length k.info) ++ k.identifier ++ big_bytes 4 k.asn
    ++ k.info
spelled version (ErrorReport r) z =
    header version (type_number kinds.ErrorReport) r.code (fixed_len version kinds.ErrorReport + length r.copy + length r.text) ++ big_bytes 4 (length r.copy)
    ++ r.copy ++ big_bytes 4 (length r.text) ++ r.text

-- The numbers fit their fields, a record is a payload, and the whole is no longer than the longest PDU.
abbrev pub IsUnit : Unit → Type 0
IsUnit (SerialNotify session serial) = (session < 2 ^ 16) × (serial < 2 ^ 32)
IsUnit (SerialQuery session serial) = (session < 2 ^ 16) × (serial < 2 ^ 32)
IsUnit ResetQuery = ⊤
IsUnit (CacheResponse session) = session < 2 ^ 16
IsUnit (Prefix announce v) = IsPayload v
IsUnit (EndOfData session serial refresh retry expire) =
    (session < 2 ^ 16) × (serial < 2 ^ 32) × (refresh < 2 ^ 32) × (retry < 2 ^ 32) × (expire < 2 ^ 32)
IsUnit (EndOfData0 session serial) = (session < 2 ^ 16) × (serial < 2 ^ 32)
IsUnit CacheReset = ⊤
IsUnit (RouterKey k) =
    (length k.identifier ≡ 20) × (k.asn < 2 ^ 32) × (length k.info ≤ KEY_ROOM) × AreBytes k.identifier × AreBytes k.info
IsUnit (ErrorReport r) = (r.code < 2 ^ 16) × (length r.copy + length r.text ≤ REPORT_ROOM) × IsUtf8 r.text × AreBytes r.copy

-- These bytes are read as this PDU of this version, whatever is in the places of zeros that are sent.
pub record Reads (version : Version) (u : Unit) (bytes : List ℕ) : Type 0 where
  pub of_version : fits version u ≡ true
  pub fits : IsUnit u
  pub ignored : Ignored
  pub bits : AreBits ignored
  pub bytes_are : bytes ≡ spelled version u ignored

-- A PDU that there is in a version, and can be sent in it
abbrev pub IsUnitOf : Version → Unit → Type 0
IsUnitOf version u = IsUnit u × (fits version u ≡ true)

-- The bytes that are sent for a PDU
abbrev pub unit_bytes : Version → Unit → List ℕ
unit_bytes version u = spelled version u zeros
