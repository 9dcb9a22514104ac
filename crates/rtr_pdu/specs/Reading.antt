-- What the bytes of a whole PDU say.
use Rattle.std.specs.Prelude.{◌≡◌, ℕ, ◌+◌, ◌-◌, ◌%◌, ◌≤◌, Bool, true, ◌==◌, List, ◌++◌, length, take, drop, slice_index}
use Rattle.byteorder.specs.Endian.{big_number}
use Rattle.prefixes.specs.Payload.{Payload}
use Rattle.prefixes.specs.declared.prefix.IpPrefix.TheVariants.{V4, V6}
use Rattle.rtr_pdu.specs.declared.version.Version.{Version}
use Rattle.rtr_pdu.specs.declared.kind.Kind.TheVariants as kinds
use Rattle.rtr_pdu.specs.Kind.{type_number, fixed_len, is_type}
use Rattle.rtr_pdu.specs.Payloads.{Report, Key}
use Rattle.rtr_pdu.specs.Unit.{MAX_UNIT_LEN}
use Rattle.rtr_pdu.specs.Stream.{as_read, type_of, length_of, IsWhole}

-- the number of n bytes at place i
abbrev pub number_at : ℕ → ℕ → List ℕ → ℕ
number_at n i bytes = big_number n (drop i bytes)

-- whether the lowest bit is set, as of flags
abbrev pub is_odd : ℕ → Bool
is_odd n = n % 2 == 1

-- The payload in an IPv4 Prefix
abbrev pub v4_in : List ℕ → Payload
v4_in bytes = record {
  prefix = V4 (record { addr = number_at 4 12 bytes; len = slice_index bytes 9 });
  max_len = slice_index bytes 10;
  asn = number_at 4 16 bytes;
}

-- The payload in an IPv6 Prefix
abbrev pub v6_in : List ℕ → Payload
v6_in bytes = record {
  prefix = V6 (record { addr = number_at 16 12 bytes; len = slice_index bytes 9 });
  max_len = slice_index bytes 10;
  asn = number_at 4 28 bytes;
}

-- The key in a Router Key
abbrev pub key_in : List ℕ → Key
key_in bytes = record {
  announce = is_odd (slice_index bytes 2);
  identifier = take 20 (drop 8 bytes);
  asn = number_at 4 28 bytes;
  info = drop 32 bytes;
}

-- The report in an Error Report, whose text goes to its end
abbrev pub report_in : List ℕ → Report
report_in bytes = record {
  code = number_at 2 2 bytes;
  copy = take (number_at 4 8 bytes) (drop 12 bytes);
  text = drop (16 + number_at 4 8 bytes) bytes;
}

-- The lengths of the types, within that of the longest PDU
pub record IsSized (version : Version) (type len : ℕ) : Type 0 where
  pub eight : 8 ≤ len
  pub most : len ≤ MAX_UNIT_LEN
  pub known : is_type version type ≡ true
  pub at_notify : type ≡ type_number kinds.SerialNotify → len ≡ fixed_len version kinds.SerialNotify
  pub at_query : type ≡ type_number kinds.SerialQuery → len ≡ fixed_len version kinds.SerialQuery
  pub at_reset_query : type ≡ type_number kinds.ResetQuery → len ≡ fixed_len version kinds.ResetQuery
  pub at_response : type ≡ type_number kinds.CacheResponse → len ≡ fixed_len version kinds.CacheResponse
  pub at_v4 : type ≡ type_number kinds.Ipv4Prefix → len ≡ fixed_len version kinds.Ipv4Prefix
  pub at_v6 : type ≡ type_number kinds.Ipv6Prefix → len ≡ fixed_len version kinds.Ipv6Prefix
  pub at_end_of_data : type ≡ type_number kinds.EndOfData → len ≡ fixed_len version kinds.EndOfData
  pub at_cache_reset : type ≡ type_number kinds.CacheReset → len ≡ fixed_len version kinds.CacheReset
  pub at_key : type ≡ type_number kinds.RouterKey → fixed_len version kinds.RouterKey ≤ len
  pub at_report : type ≡ type_number kinds.ErrorReport → fixed_len version kinds.ErrorReport ≤ len

-- A PDU has come whole, and no more than it.
pub record IsBody (version : Version) (any : Bool) (bytes : List ℕ) : Type 0 where
  pub whole : IsWhole version (as_read version any bytes)
  pub exact : length bytes ≡ length_of (as_read version any bytes)
  pub sized : IsSized version (type_of bytes) (length bytes)

-- What was held, filled up from a piece to a size
abbrev pub filled : ℕ → List ℕ → List ℕ → List ℕ
filled size held piece = held ++ take (size - length held) piece

-- What is left of the piece then
abbrev pub unfilled : ℕ → List ℕ → List ℕ → List ℕ
unfilled size held piece = drop (size - length held) piece
