-- Texts in mixed notation, worked out: those of RFC 4291 section 2.2, and such as validators write.
use Rattle.std.proofs.Common.{[], ◌∷◌, codes, refl, inl, inr, lit<, rules}
use Rattle.std.specs.Fmt.{digits}
use Rattle.prefix_texts.specs.MixedText.{SaysMixed}

full : SaysMixed (record { addr = 0x0d014403; len = 128 }) (codes "0:0:0:0:0:0:13.1.68.3/128")
unfolding digits
full = record {
  address = codes "0:0:0:0:0:0:13.1.68.3";
  small = lit< tt;
  is_address = inl (codes "0" ∷ codes "0" ∷ codes "0" ∷ codes "0" ∷ codes "0" ∷ codes "0" ∷ [], search rules, refl);
  three_digits = lit< tt;
  text_is = refl;
}

full_mapped : SaysMixed (record { addr = 0xffff81903426; len = 128 }) (codes "0:0:0:0:0:FFFF:129.144.52.38/128")
unfolding digits
full_mapped = record {
  address = codes "0:0:0:0:0:FFFF:129.144.52.38";
  small = lit< tt;
  is_address = inl (codes "0" ∷ codes "0" ∷ codes "0" ∷ codes "0" ∷ codes "0" ∷ codes "FFFF" ∷ [], search rules, refl);
  three_digits = lit< tt;
  text_is = refl;
}

-- `::` stands for all six groups,
compressed : SaysMixed (record { addr = 0x0d014403; len = 128 }) (codes "::13.1.68.3/128")
unfolding digits
compressed = record {
  address = codes "::13.1.68.3";
  small = lit< tt;
  is_address = inr (record { before = []; after = []; zeros = 6; some = lit< tt; high_are = refl; left = []; right = []; before_are = tt; after_are = tt; text_is = refl });
  three_digits = lit< tt;
  text_is = refl;
}

-- for five of them,
pub mapped : SaysMixed (record { addr = 0xffff00000000; len = 96 }) (codes "::ffff:0.0.0.0/96")
unfolding digits
mapped = record {
  address = codes "::ffff:0.0.0.0";
  small = lit< tt;
  is_address = inr (record { before = []; after = 0xffff ∷ []; zeros = 5; some = lit< tt; high_are = refl; left = []; right = codes "ffff" ∷ []; before_are = tt; after_are = search rules; text_is = refl });
  three_digits = lit< tt;
  text_is = refl;
}

-- the same with a host bit set
pub mapped_host_bit : SaysMixed (record { addr = 0xffffc0000201; len = 120 }) (codes "::ffff:192.0.2.1/120")
unfolding digits
mapped_host_bit = record {
  address = codes "::ffff:192.0.2.1";
  small = lit< tt;
  is_address = inr (record { before = []; after = 0xffff ∷ []; zeros = 5; some = lit< tt; high_are = refl; left = []; right = codes "ffff" ∷ []; before_are = tt; after_are = search rules; text_is = refl });
  three_digits = lit< tt;
  text_is = refl;
}

-- for four,
translated : SaysMixed (record { addr = 0x0064ff9b0000000000000000c0000200; len = 120 }) (codes "64:ff9b::192.0.2.0/120")
unfolding digits
translated = record {
  address = codes "64:ff9b::192.0.2.0";
  small = lit< tt;
  is_address = inr (record { before = 0x64 ∷ 0xff9b ∷ []; after = []; zeros = 4; some = lit< tt; high_are = refl; left = codes "64" ∷ codes "ff9b" ∷ []; right = []; before_are = search rules; after_are = tt; text_is = refl });
  three_digits = lit< tt;
  text_is = refl;
}

-- and for the last one alone.
one_group : SaysMixed (record { addr = 0x0001000200030004000500000a000000; len = 104 }) (codes "1:2:3:4:5::10.0.0.0/104")
unfolding digits
one_group = record {
  address = codes "1:2:3:4:5::10.0.0.0";
  small = lit< tt;
  is_address = inr (record { before = 1 ∷ 2 ∷ 3 ∷ 4 ∷ 5 ∷ []; after = []; zeros = 1; some = lit< tt; high_are = refl; left = codes "1" ∷ codes "2" ∷ codes "3" ∷ codes "4" ∷ codes "5" ∷ []; right = []; before_are = search rules; after_are = tt; text_is = refl });
  three_digits = lit< tt;
  text_is = refl;
}
