-- Texts that say no IPv6 prefix in either notation, worked out.
use Rattle.std.proofs.Common.{◌≡◌, ℕ, ◌<◌, ◌^◌, List, [], ◌++◌, length, Option, Some, None, refl, ap, arith, codes, rules}
use Rattle.std.proofs.NetLemmas.Ipv6.{EndsGroups-nil, read_ipv6_complete}
use Rattle.std.specs.Net.Reader.{read_ipv4, read_ipv6, read_number, read_octet, read_segment, read_segments}
use Rattle.prefixes.specs.Address.{Block}
use Rattle.prefixes.specs.Text.{groups}
use Rattle.prefixes.proofs.Spelling.{Cut}
use Rattle.prefix_texts.specs.MixedText.{SaysV6}
use Rattle.prefix_texts.proofs.Groups.{IsEither, either_colon_hex}
use Rattle.prefix_texts.proofs.Sayings.{no_address}

-- how many bytes are left of a text where std has read an address
abbrev left_of : Option (List ℕ × List ℕ) → ℕ
left_of None = 1
left_of (Some p) = length p.1

no_either : (text : List ℕ) → ¬ (left_of (read_ipv6 (text ++ [])) ≡ 0) → (n : ℕ) → n < 2 ^ 128 → ¬ (IsEither n text)
no_either text some n small h = some (ap left_of (read_ipv6_complete text (groups n) [] (either_colon_hex n text h) EndsGroups-nil))

-- `::` stands for one group at least, and eight are there already.
abbrev no_room : List ℕ
no_room = codes "1:2:3:4:5:6::10.0.0.0"

some_left : ¬ (left_of (read_ipv6 (no_room ++ [])) ≡ 0)
unfolding read_ipv6 read_segments read_segment read_ipv4 read_octet read_number
some_left h = absurd (omega (arith, h))

room_cut : Cut (codes "1:2:3:4:5:6::10.0.0.0/128") no_room (codes "128")
room_cut = record { bare = search rules; joins = refl }

without_room : (p : Block) → ¬ (SaysV6 p (codes "1:2:3:4:5:6::10.0.0.0/128"))
without_room = no_address (codes "1:2:3:4:5:6::10.0.0.0/128") no_room (codes "128") room_cut (no_either no_room some_left)

-- a number of the four with a leading zero
abbrev zero_led : List ℕ
zero_led = codes "::192.0.02.0"

zero_left : ¬ (left_of (read_ipv6 (zero_led ++ [])) ≡ 0)
unfolding read_ipv6 read_segments read_segment read_ipv4 read_octet read_number
zero_left h = absurd (omega (arith, h))

zero_cut : Cut (codes "::192.0.02.0/120") zero_led (codes "120")
zero_cut = record { bare = search rules; joins = refl }

leading_zero : (p : Block) → ¬ (SaysV6 p (codes "::192.0.02.0/120"))
leading_zero = no_address (codes "::192.0.02.0/120") zero_led (codes "120") zero_cut (no_either zero_led zero_left)
