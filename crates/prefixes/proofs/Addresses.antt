-- Addresses that std reads, in the words of Text.antt.
use Rattle.std.proofs.Common.{◌≡◌, ◌≢◌, ℕ, ◌/◌, ◌%◌, ◌^◌, ◌<◌, ◌≤◌, List, [], ◌∷◌, ◌++◌, get_or, arith, refl, ◌∙◌, sym, ap, subst, inl, inr, lit≤}
use Rattle.std.specs.Prelude.{◌⊎◌}
use Rattle.std.specs.Char.{digit_value}
use Rattle.std.specs.Fmt.{decimal}
use Rattle.std.specs.Int.{w32, w128, from_be_bytes}
use Rattle.std.specs.Net.Addr.{IsIpv4OfBits, IsIpv6OfBits, ipv4_bits, ipv4_octets, ipv6_bits, ipv6_segments, octets_of}
use Rattle.std.specs.Net.Text.{dotted_text, hex_groups_text, ipv4_text}
use Rattle.std.specs.Net.Grammar.{IsDotted, IsColonHex, IsIpv4Text, IsIpv6Text}
use Rattle.std.specs.declared.net.ipv4_addr.Ipv4Addr.{Ipv4Addr}
use Rattle.std.specs.declared.net.ipv6_addr.Ipv6Addr.{Ipv6Addr}
use Rattle.std.proofs.NetLemmas.Alphabet.{All-hex_groups_text}
use Rattle.std.proofs.NetLemmas.Arrays.{eight_items}
use Rattle.std.proofs.NetLemmas.Ipv6.{IsDotted-not_colon_hex}
use Rattle.std.proofs.NetLemmas.Texts.{AllSegments, IsColonHex-hex_groups_text}
use Rattle.std.proofs.NetLemmas.Theorems.{IsIpv4Text_unique, IsIpv6Text_unique}
use Rattle.prefixes.specs.Text.{v4_address, groups, IsV6Address, IsFull, IsCompressed}
use Rattle.prefixes.proofs.AddressNumbers.{as_four_bytes, as_groups, bytes, four_bytes, eight_groups, same_bytes, same_groups}
use Rattle.prefixes.proofs.HexGroups.{full_is_read, compressed_is_read, read_as_groups, groups_small, groups_lack, small_at, eight}
use Rattle.prefixes.proofs.Decimals.{decimal_lacks}
use Rattle.prefixes.proofs.Lacks.{Lacks, both, from_each}

-- the address of these bytes
abbrev v4_of : List ℕ → Ipv4Addr
v4_of octets = record { octets = octets }

-- The text of an IPv4 address is dotted decimal.
pub v4_dotted : (n : ℕ) (text : List ℕ) → n < 2 ^ 32 → text ≡ v4_address n → IsDotted text (bytes n)
v4_dotted n text small is = record {
  a = n / 2 ^ 24;
  b = n / 2 ^ 16 % 2 ^ 8;
  c = n / 2 ^ 8 % 2 ^ 8;
  d = n % 2 ^ 8;
  fit = omega arith;
  value = refl;
  spelled = is;
}

-- What std reads as IPv4 is the address whose text it is,
pub v4_read : (text : List ℕ) (a : Ipv4Addr) (n : ℕ) → IsIpv4Text text a → n ≡ ipv4_bits a → (n < 2 ^ 32) × (text ≡ v4_address n)
unfolding ipv4_bits
v4_read text a n h is =
    let sum = is ∙ ap (from_be_bytes w32) h.value in
    let parts = four_bytes h.a h.b h.c h.d n h.fit.0 h.fit.1 h.fit.2 h.fit.3 sum in
    (parts.0, h.spelled ∙ (λ i. dotted_text (sym parts.1 i) (sym parts.2 i) (sym parts.3 i) (sym parts.4 i)))

-- and if it reads nothing the text is no address's.
pub v4_missed : (text : List ℕ) → ((a : Ipv4Addr) → ¬ (IsIpv4Text text a)) → (n : ℕ) → n < 2 ^ 32 → text ≢ v4_address n
v4_missed text none n small is = none (v4_of (bytes n)) (v4_dotted n text small is)

-- the address of these groups
abbrev v6_of : List ℕ → Ipv6Addr
v6_of segments = record { segments = segments }

-- std's grammar has each text of an IPv6 address.
pub v6_colon_hex : (n : ℕ) (text : List ℕ) → IsV6Address n text → IsColonHex text (groups n)
v6_colon_hex n text (inl h) = full_is_read (groups n) text refl h
v6_colon_hex n text (inr h) = compressed_is_read (groups n) text refl h

-- If std reads nothing the text is no IPv6 address's.
pub v6_missed : (text : List ℕ) → ((a : Ipv6Addr) → ¬ (IsIpv6Text text a)) → (n : ℕ) → n < 2 ^ 128 → ¬ (IsV6Address n text)
v6_missed text none n small h = none (v6_of (groups n)) (v6_colon_hex n text h)

-- What std reads as IPv6 from a text without dots is the address whose text it is.
pub v6_read : (text : List ℕ) (a : Ipv6Addr) (n : ℕ) → IsIpv6Text text a → Lacks 46 text → n ≡ ipv6_bits a → (n < 2 ^ 128) × IsV6Address n text
unfolding ipv6_bits
v6_read text a n h bare is =
    let spelled = read_as_groups text a.segments h bare in
    let small = groups_small a.segments text spelled in
    let s : ℕ → ℕ = λ k. get_or a.segments k 0 in
    let all = eight_items a.segments (eight a.segments text h) in
    let sum = is ∙ ap (λ segs. from_be_bytes w128 (octets_of segs)) all in
    let parts = eight_groups (s 0) (s 1) (s 2) (s 3) (s 4) (s 5) (s 6) (s 7) n (small 0) (small 1) (small 2) (small 3) (small 4) (small 5) (small 6) (small 7) sum in
    (parts.0, subst (λ gs. IsFull gs text ⊎ IsCompressed gs text) (all ∙ sym parts.1) spelled)

-- No text of an IPv6 address has a byte that is neither a hexadecimal digit nor a colon.
pub v6_lacks : (c n : ℕ) (text : List ℕ) → 16 ≤ digit_value c → 58 ≢ c → IsV6Address n text → Lacks c text
v6_lacks c n text no_digit no_colon h = groups_lack c no_digit no_colon (groups n) text h

-- No text of an IPv4 address has a slash.
pub v4_lacks_slash : (n : ℕ) (text : List ℕ) → n < 2 ^ 32 → text ≡ v4_address n → Lacks 47 text
v4_lacks_slash n text small is =
    let number : (m : ℕ) → m < 256 → Lacks 47 (decimal m) = λ m fits. decimal_lacks 47 m (lit≤ tt) (omega arith) in
    let dot : Lacks 47 (46 ∷ []) = ((λ same. omega arith), tt) in
    let dotted : (xs : List ℕ) (m : ℕ) → m < 256 → Lacks 47 xs → Lacks 47 ((xs ++ (46 ∷ [])) ++ decimal m) = λ xs m fits h. both 47 _ _ (both 47 xs (46 ∷ []) h dot) (number m fits) in
    subst (λ t. Lacks 47 t) (sym is)
    (dotted _ (n % 2 ^ 8) (omega arith) (dotted _ (n / 2 ^ 8 % 2 ^ 8) (omega arith) (dotted (decimal (n / 2 ^ 24)) (n / 2 ^ 16 % 2 ^ 8) (omega arith) (number (n / 2 ^ 24) (omega arith)))))

-- A text is the text of one IPv4 address at most,
pub v4_same : (text : List ℕ) (m n : ℕ) → m < 2 ^ 32 → n < 2 ^ 32 → text ≡ v4_address m → text ≡ v4_address n → m ≡ n
v4_same text m n hm hn h k =
    same_bytes m n hm hn (ap (λ a. a.octets) (IsIpv4Text_unique text (v4_of (bytes m)) (v4_of (bytes n)) (v4_dotted m text hm h) (v4_dotted n text hn k)))

-- and of one IPv6 address at most,
pub v6_same : (text : List ℕ) (m n : ℕ) → m < 2 ^ 128 → n < 2 ^ 128 → IsV6Address m text → IsV6Address n text → m ≡ n
v6_same text m n hm hn h k =
    same_groups m n hm hn (ap (λ a. a.segments) (IsIpv6Text_unique text (v6_of (groups m)) (v6_of (groups n)) (v6_colon_hex m text h) (v6_colon_hex n text k)))

-- and not of both.
pub v4_not_v6 : (text : List ℕ) (m n : ℕ) → m < 2 ^ 32 → text ≡ v4_address m → ¬ (IsV6Address n text)
v4_not_v6 text m n hm h k = IsDotted-not_colon_hex text (bytes m) (groups n) (v4_dotted m text hm h) (v6_colon_hex n text k)

-- A group of an address has 16 bits.
pub groups_fit : (n : ℕ) → AllSegments (groups n)
groups_fit n k = small_at (groups n) (omega arith) k

-- What is written for an IPv6 address is a text of it.
pub v6_written : (n : ℕ) → IsV6Address n (hex_groups_text (groups n))
v6_written n =
    let text = hex_groups_text (groups n) in
    let letters = All-hex_groups_text (groups n) (groups_fit n) in
    let bare = from_each 46 text (λ i within is. let letter = letters i 0 within in elim letter [ inl h ↦ omega (arith, h, is) | inr h ↦ omega (arith, h, is) ]) in
    read_as_groups text (groups n) (IsColonHex-hex_groups_text (groups n) refl (groups_fit n)) bare

-- What std writes for an IPv4 address is its text,
pub v4_text : (a : Ipv4Addr) (n : ℕ) → IsIpv4OfBits a n → n < 2 ^ 32 → ipv4_text (ipv4_octets a) ≡ v4_address n
unfolding IsIpv4OfBits
v4_text a n h small = ap ipv4_text (h ∙ as_four_bytes n small)

-- and the groups that it writes for an IPv6 address are its groups.
pub v6_text : (a : Ipv6Addr) (n : ℕ) → IsIpv6OfBits a n → hex_groups_text (ipv6_segments a) ≡ hex_groups_text (groups n)
unfolding IsIpv6OfBits
v6_text a n h = ap hex_groups_text (h ∙ as_groups n)
