-- The order of payloads at examples.
use Rattle.std.specs.Prelude.{◌≡◌, ℕ, refl}
use Rattle.std.specs.declared.cmp.Ordering.TheVariants.{Less, Equal, Greater}
use Rattle.prefixes.specs.Payload.{Payload, vrp_cmp}
use Rattle.prefixes.specs.declared.prefix.IpPrefix.TheVariants.{V4, V6}

-- an IPv4 prefix with a maximum length and an AS
abbrev v4 : ℕ → ℕ → ℕ → ℕ → Payload
v4 addr len max_len asn = record { prefix = V4 (record { addr = addr; len = len }); max_len = max_len; asn = asn }

abbrev v6 : ℕ → ℕ → ℕ → ℕ → Payload
v6 addr len max_len asn = record { prefix = V6 (record { addr = addr; len = len }); max_len = max_len; asn = asn }

-- 255.255.255.255/32 is before ::/0
family_first : vrp_cmp (v4 0xffffffff 32 32 9) (v6 0 0 0 1) ≡ Less
family_first = refl

-- 192.0.2.128/25 before 192.0.3.0/24, though it is longer
then_address : vrp_cmp (v4 0xc0000280 25 32 9) (v4 0xc0000300 24 24 1) ≡ Less
then_address = refl

-- 192.0.2.0/24 before 192.0.2.0/25, though its maximum is greater
then_length : vrp_cmp (v4 0xc0000200 24 32 9) (v4 0xc0000200 25 25 1) ≡ Less
then_length = refl

-- the smaller maximum first, though its AS is greater
then_maximum : vrp_cmp (v4 0xc0000200 24 24 9) (v4 0xc0000200 24 25 1) ≡ Less
then_maximum = refl

then_as : vrp_cmp (v4 0xc0000200 24 24 2) (v4 0xc0000200 24 24 1) ≡ Greater
then_as = refl

only_itself : vrp_cmp (v4 0xc0000200 24 24 1) (v4 0xc0000200 24 24 1) ≡ Equal
only_itself = refl
