-- What records and routes are in C.
use Rattle.std.specs.Prelude.{◌≡◌, ◌⊎◌, ℕ, ◌<◌, ◌≤◌, ℤ, pos, ◌==◌, min, List, ◌++◌, length, map, take, drop, replicate, slice_get, Option, Some, None, if◌then◌else◌}
use Rattle.byteorder.specs.Endian.{big_bytes}
use Rattle.prefixes.specs.Address.{IsPrefix}
use Rattle.prefixes.specs.Payload.{Payload, IsPayload, block_of, width_of}
use Rattle.prefixes.specs.declared.prefix.IpPrefix.{IpPrefix}
use Rattle.prefixes.specs.declared.prefix.IpPrefix.TheVariants.{V4, V6}
use Rattle.prefixes.specs.declared.route.Route.{Route}
use Rattle.vrps.specs.declared.origin.OriginState.{OriginState}
use Rattle.vrps.specs.declared.origin.OriginState.TheVariants.{Valid, Invalid, NotFound}
use Rattle.rpkirtr_c.specs.Answers.{number}
use Rattle.rpkirtr_c.specs.declared.call_status.CallStatus.TheVariants.{Done, OutOfRange}
use Rattle.rpkirtr_c.specs.declared.values.CRecord.{CRecord}
use Rattle.rpkirtr_c.specs.declared.values.CRoute.{CRoute}

-- the number of a family
abbrev pub family_number : IpPrefix → ℕ
family_number (V4 p) = 4
family_number (V6 p) = 6

-- An address in network order: that of IPv4 in the first four bytes, and the rest zero
unfoldable pub v4_bytes : ℕ → List ℕ
v4_bytes addr = big_bytes 4 addr ++ replicate 12 0

unfoldable pub v6_bytes : ℕ → List ℕ
v6_bytes addr = big_bytes 16 addr

abbrev pub address_bytes : IpPrefix → List ℕ
address_bytes (V4 p) = v4_bytes p.addr
address_bytes (V6 p) = v6_bytes p.addr

-- These are of a prefix that is one: family, address and length.
pub record SpellsPrefix (family : ℕ) (addr : List ℕ) (len : ℕ) (p : IpPrefix) : Type 0 where
  pub valid : IsPrefix (width_of p) (block_of p)
  pub family_is : family ≡ family_number p
  pub addr_is : addr ≡ address_bytes p
  pub len_is : len ≡ (block_of p).len

-- The origin of a route: none if there is none, and the number else
abbrev pub origin_of : ℕ → ℕ → Option ℕ
origin_of has origin = if has == 0 then None else Some origin

-- This is a route in C.
pub record SpellsRoute (q : CRoute) (r : Route) : Type 0 where
  pub padding : q.zero_ ≡ 0
  pub prefix : SpellsPrefix q.family q.addr q.len r.prefix
  pub origin : r.origin ≡ origin_of q.has_origin q.origin

-- The record of a payload
abbrev pub record_of : Payload → CRecord
record_of v = record {
  addr = address_bytes v.prefix;
  asn = v.asn;
  family = family_number v.prefix;
  len = (block_of v.prefix).len;
  max_len = v.max_len;
  zero_ = 0;
}

-- The record of a payload that is one
abbrev pub SpellsRecord : CRecord → Payload → Type 0
SpellsRecord q v = IsPayload v × (q ≡ record_of v)

-- the record of nothing
abbrev pub no_record : CRecord
no_record = record { addr = replicate 16 0; asn = 0; family = 0; len = 0; max_len = 0; zero_ = 0 }

-- Records of a list are copied into a room, as many as fit. The rest of the room stays.
abbrev pub IsCopied : List Payload → List CRecord → List CRecord → ℕ → Type 0
IsCopied list old new count = (count ≡ min (length old) (length list)) × (new ≡ map record_of (take count list) ++ drop count old)

-- The record at an index is written. At or past the end there is none, and the answer says so.
abbrev pub IsRecordAt : List Payload → ℕ → ℤ → CRecord → Type 0
IsRecordAt list index answer told =
    ((index < length list) × (answer ≡ number Done) × (v : Payload) × IsPayload v × (slice_get list index ≡ Some v) × (told ≡ record_of v))
    ⊎ ((length list ≤ index) × (answer ≡ number OutOfRange) × (told ≡ no_record))

-- the number of a state
abbrev pub state_number : OriginState → ℤ
state_number NotFound = pos 0
state_number Valid = pos 1
state_number Invalid = pos 2
