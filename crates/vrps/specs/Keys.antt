-- Prefixes as a search compares them.
use Rattle.std.specs.Prelude.{ℕ, ◌-◌, ◌*◌, ◌^◌, Bool, false, ◌==◌}
use Rattle.std.specs.Ordering.{is_le}
use Rattle.prefixes.specs.Address.{Block, first_bits}
use Rattle.prefixes.specs.Payload.{prefix_cmp}
use Rattle.prefixes.specs.declared.prefix.IpPrefix.{IpPrefix}
use Rattle.prefixes.specs.declared.prefix.IpPrefix.TheVariants.{V4, V6}
use Rattle.vrps.specs.declared.key.Head.{Head}
use Rattle.vrps.specs.declared.key.Key.{Key}
use Rattle.vrps.specs.declared.key.Key.TheVariants as keys

abbrev pub head_block : Head ℕ → Block
head_block head = record { addr = head.addr; len = head.len }

-- the prefix that a key encodes
abbrev pub key_prefix : Key → IpPrefix
key_prefix (keys.V4 head) = V4 (head_block head)
key_prefix (keys.V6 head) = V6 (head_block head)

-- the first bits of a prefix, as a prefix
abbrev pub cut_block : ℕ → Block → ℕ → Block
cut_block width p len = record { addr = first_bits width p.addr len * 2 ^ (width - len); len = len }

abbrev pub cut : IpPrefix → ℕ → IpPrefix
cut (V4 p) len = V4 (cut_block 32 p len)
cut (V6 p) len = V6 (cut_block 128 p len)

-- Both are of one family, and this many first bits agree.
abbrev pub agree : IpPrefix → IpPrefix → ℕ → Bool
agree (V4 p) (V4 q) len = first_bits 32 p.addr len == first_bits 32 q.addr len
agree (V6 p) (V6 q) len = first_bits 128 p.addr len == first_bits 128 q.addr len
agree (V4 p) (V6 q) len = false
agree (V6 p) (V4 q) len = false

-- p is not after q
abbrev pub up_to : IpPrefix → IpPrefix → Bool
up_to p q = is_le (prefix_cmp p q)
