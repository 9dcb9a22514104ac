-- Texts of prefixes, worked out.
use Rattle.std.specs.Prelude.{◌≡◌, [], ◌∷◌, Some, None, codes, refl}
use Rattle.std.specs.Fmt.{digits}
use Rattle.std.specs.Net.Text.{hex, hex_groups_text}
use Rattle.std.proofs.Common.{inl, inr, arith, rules}
use Rattle.prefixes.specs.Address.{HasNoHostBits}
use Rattle.prefixes.specs.Text.{Says, route_text, vrp_text, written_text}
use Rattle.prefixes.specs.declared.prefix.IpPrefix.TheVariants.{V4, V6}

written_v4 : written_text (V4 (record { addr = 0xc0000200; len = 24 })) ≡ codes "192.0.2.0/24"
unfolding digits
written_v4 = refl

-- of two runs of two zeros the first
written_first_run : written_text (V6 (record { addr = 0x20010db8000000000001000000000001; len = 128 })) ≡ codes "2001:db8::1:0:0:1/128"
unfolding digits hex hex_groups_text
written_first_run = refl

-- a lone zero is written as it is
written_lone_zero : written_text (V6 (record { addr = 0x00010000000200030004000500060007; len = 128 })) ≡ codes "1:0:2:3:4:5:6:7/128"
unfolding digits hex hex_groups_text
written_lone_zero = refl

written_all_zeros : written_text (V6 (record { addr = 0; len = 0 })) ≡ codes "::/0"
unfolding digits hex hex_groups_text
written_all_zeros = refl

-- the longer run, though it is the second
written_longest_run : written_text (V6 (record { addr = 0x00010000000000020000000000000003; len = 128 })) ≡ codes "1:0:0:2::3/128"
unfolding digits hex hex_groups_text
written_longest_run = refl

-- an address of IPv4 in IPv6 has no dots
written_mapped : written_text (V6 (record { addr = 0x0000000000000000ffffc0000200; len = 128 })) ≡ codes "::ffff:c000:200/128"
unfolding digits hex hex_groups_text
written_mapped = refl

-- a payload, and a route from an AS and from NONE
written_vrp : vrp_text (record { prefix = V4 (record { addr = 0xc0000200; len = 24 }); max_len = 26; asn = 64496 }) ≡ codes "192.0.2.0/24 26 64496"
unfolding digits
written_vrp = refl

written_route : route_text (record { prefix = V4 (record { addr = 0xc0000200; len = 24 }); origin = Some 64496 }) ≡ codes "192.0.2.0/24 64496"
unfolding digits
written_route = refl

written_route_of_none : route_text (record { prefix = V4 (record { addr = 0xc0000200; len = 24 }); origin = None }) ≡ codes "192.0.2.0/24 none"
unfolding digits
written_route_of_none = refl

-- The length is over the width.
says_too_long : Says (V4 (record { addr = 0xc0000200; len = 33 })) (codes "192.0.2.0/33")
unfolding digits
says_too_long = record { address = codes "192.0.2.0"; is_address = (omega arith, refl); three_digits = omega arith; text_is = refl }

-- A host bit is set.
says_host_bit : Says (V4 (record { addr = 0xc0000201; len = 24 })) (codes "192.0.2.1/24")
unfolding digits
says_host_bit = record { address = codes "192.0.2.1"; is_address = (omega arith, refl); three_digits = omega arith; text_is = refl }

host_bit : HasNoHostBits 32 0xc0000201 24 → ⊥
host_bit h = absurd (omega (arith, h))

-- eight groups, of either case
says_full : Says (V6 (record { addr = 0x20010db8000000000001000000000001; len = 128 })) (codes "2001:DB8:0:0:1:0:0:1/128")
unfolding digits
says_full = record {
  address = codes "2001:DB8:0:0:1:0:0:1";
  is_address = (omega arith, inl (codes "2001" ∷ codes "DB8" ∷ codes "0" ∷ codes "0" ∷ codes "1" ∷ codes "0" ∷ codes "0" ∷ codes "1" ∷ [], search rules, refl));
  three_digits = omega arith;
  text_is = refl;
}

says_full_zeros : Says (V6 (record { addr = 0; len = 0 })) (codes "0:0:0:0:0:0:0:0/0")
unfolding digits
says_full_zeros = record {
  address = codes "0:0:0:0:0:0:0:0";
  is_address = (omega arith, inl (codes "0" ∷ codes "0" ∷ codes "0" ∷ codes "0" ∷ codes "0" ∷ codes "0" ∷ codes "0" ∷ codes "0" ∷ [], search rules, refl));
  three_digits = omega arith;
  text_is = refl;
}

says_compressed : Says (V6 (record { addr = 0xa; len = 128 })) (codes "::000A/128")
unfolding digits
says_compressed = record {
  address = codes "::000A";
  is_address = (
    omega arith,
    inr (record {
      before = [];
      after = 10 ∷ [];
      zeros = 7;
      some = omega arith;
      all_are = refl;
      left = [];
      right = codes "000A" ∷ [];
      before_are = tt;
      after_are = search rules;
      text_is = refl;
    }),
  );
  three_digits = omega arith;
  text_is = refl;
}
