-- Entries of a ROA: their order and what each validates.
use Rattle.std.specs.Prelude.{ℕ, Bool, false, not, nat_lt, ◌||◌, ◌==◌, Option, Some, None, unwrap_or}
use Rattle.std.specs.Ordering.{nat_cmp, ordering_then, is_lt}
use Rattle.std.specs.declared.cmp.Ordering.{Ordering}
use Rattle.prefixes.specs.Address.{IsPrefix}
use Rattle.prefixes.specs.Payload.{Payload, block_of, width_of, prefix_cmp}
use Rattle.payloads.specs.declared.roa_entry.RoaEntry.{RoaEntry}

-- the maximum length, or the length of the prefix if it is absent
abbrev pub greatest_length : RoaEntry → ℕ
greatest_length entry = unwrap_or entry.max_len (block_of entry.prefix).len

-- by family, address, length, maximum length
abbrev pub entry_cmp : RoaEntry → RoaEntry → Ordering
entry_cmp e f = ordering_then (prefix_cmp e.prefix f.prefix) (nat_cmp (greatest_length e) (greatest_length f))

-- the entry is not above the one before it
abbrev pub is_not_above : Option RoaEntry → RoaEntry → Bool
is_not_above None entry = false
is_not_above (Some before) entry = not (is_lt (entry_cmp before entry))

-- the maximum length is below the length of the prefix, or over the width of its family
abbrev pub is_bad_maximum : RoaEntry → Bool
is_bad_maximum entry = nat_lt (greatest_length entry) (block_of entry.prefix).len || nat_lt (width_of entry.prefix) (greatest_length entry)

-- what the entry validates: prefixes of the AS up to the maximum length
abbrev pub payload_of : ℕ → RoaEntry → Payload
payload_of asn entry = record { prefix = entry.prefix; max_len = greatest_length entry; asn = asn }

-- the maximum is there and is this length
abbrev pub is_prefix_length : Option ℕ → ℕ → Bool
is_prefix_length None len = false
is_prefix_length (Some maximum) len = maximum == len

-- the maximum length is there and is the length of the prefix, which is meant without it too
abbrev pub is_superfluous : RoaEntry → Bool
is_superfluous entry = is_prefix_length entry.max_len (block_of entry.prefix).len

-- the prefix is one: its length and address are the family's, and no host bit is set
abbrev pub HasPrefix : RoaEntry → Type 0
HasPrefix entry = IsPrefix (width_of entry.prefix) (block_of entry.prefix)
