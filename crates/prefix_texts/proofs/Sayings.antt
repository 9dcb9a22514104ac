-- What a text says, in plain or in mixed notation.
use Rattle.std.proofs.Common.{◌≡◌, ◌≢◌, ℕ, ◌^◌, ◌<◌, ◌≤◌, List, [], ◌∷◌, ◌++◌, length, get_or, drop, Result, Ok, Err, Option, None, arith, refl, ◌∙◌, sym, ap, subst, lit<, append_assoc, Bor, inl, inr, codes}
use Rattle.std.proofs.lemmas.Str.Pattern.{IsSplitOnceResult, split_parts}
use Rattle.std.proofs.lemmas.Fmt.{decimal_injective}
use Rattle.std.proofs.NetLemmas.Arrays.{eight_items}
use Rattle.std.proofs.NetLemmas.Ipv6.{IsDotted-not_colon_hex}
use Rattle.std.proofs.NetLemmas.Theorems.{IsIpv6Text_unique}
use Rattle.std.specs.Fmt.{decimal}
use Rattle.std.specs.Int.{w128, from_be_bytes}
use Rattle.std.specs.Net.Addr.{ipv6_bits, octets_of}
use Rattle.std.specs.Net.Grammar.{IsColonHex, IsIpv6Text}
use Rattle.std.specs.declared.net.ipv6_addr.Ipv6Addr.{Ipv6Addr}
use Rattle.prefixes.specs.Address.{Block, IsPrefix}
use Rattle.prefixes.specs.Payload.{block_of, width_of}
use Rattle.prefixes.specs.Text.{ReadsAs, Says, groups}
use Rattle.prefixes.specs.TextSteps.{IsBlockJudged}
use Rattle.prefixes.specs.declared.fault.PrefixFault.{PrefixFault}
use Rattle.prefixes.specs.declared.fault.PrefixFault.TheVariants.{TooLong, HostBits, BadText, MaxLength}
use Rattle.prefixes.specs.declared.prefix.IpPrefix.{IpPrefix}
use Rattle.prefixes.specs.declared.prefix.IpPrefix.TheVariants.{V4, V6}
use Rattle.prefixes.proofs.AddressNumbers.{bytes, eight_groups, same_groups}
use Rattle.prefixes.proofs.Addresses.{v4_dotted, v4_lacks_slash}
use Rattle.prefixes.proofs.HexGroups.{eight}
use Rattle.prefixes.proofs.Lacks.{Lacks, from_each, right}
use Rattle.prefixes.proofs.Spelling.{Cut, one_reading}
use Rattle.prefix_texts.specs.MixedLaws.{OneSaying, PlainIsRead, PlainSpells}
use Rattle.prefix_texts.specs.MixedText.{ReadsPrefix, SaysText, SaysV6, SpellsPrefix}
use Rattle.prefix_texts.specs.Steps.{ReadsV6}
use Rattle.prefix_texts.proofs.Groups.{IsEither, colon_hex_lacks, colon_hex_small, either_colon_hex, is_either}

-- ---- addresses

-- the address of these groups
abbrev v6_of : List ℕ → Ipv6Addr
v6_of segments = record { segments = segments }

-- What std reads is the address that the text spells,
pub address_read : (text : List ℕ) (a : Ipv6Addr) (n : ℕ) → IsIpv6Text text a → n ≡ ipv6_bits a → (n < 2 ^ 128) × IsEither n text
unfolding ipv6_bits
address_read text a n h is =
    let small = colon_hex_small text a.segments h in
    let s : ℕ → ℕ = λ k. get_or a.segments k 0 in
    let all = eight_items a.segments (eight a.segments text h) in
    let sum = is ∙ ap (λ segs. from_be_bytes w128 (octets_of segs)) all in
    let parts = eight_groups (s 0) (s 1) (s 2) (s 3) (s 4) (s 5) (s 6) (s 7) n (small 0) (small 1) (small 2) (small 3) (small 4) (small 5) (small 6) (small 7) sum in
    (parts.0, is_either n text (subst (λ gs. IsColonHex text gs) (all ∙ sym parts.1) h))

-- and where it reads nothing the text spells none.
pub address_missed : (text : List ℕ) → ((a : Ipv6Addr) → ¬ (IsIpv6Text text a)) → (n : ℕ) → n < 2 ^ 128 → ¬ (IsEither n text)
address_missed text none n small h = none (v6_of (groups n)) (either_colon_hex n text h)

-- A text spells one address at most.
same_address : (text : List ℕ) (m n : ℕ) → m < 2 ^ 128 → n < 2 ^ 128 → IsEither m text → IsEither n text → m ≡ n
same_address text m n hm hn h k =
    same_groups m n hm hn (ap (λ a. a.segments) (IsIpv6Text_unique text (v6_of (groups m)) (v6_of (groups n)) (either_colon_hex m text h) (either_colon_hex n text k)))

-- ---- an address, a slash, and a length

-- in either notation
record SaysEither (p : Block) (text : List ℕ) : Type 0 where
  pub address : List ℕ
  pub small : p.addr < 2 ^ 128
  pub is_address : IsEither p.addr address
  pub three_digits : p.len < 1000
  pub joins : text ≡ address ++ (47 ∷ decimal p.len)

from_v6 : (p : Block) (text : List ℕ) → SaysV6 p text → SaysEither p text
from_v6 p text (inl h) = record {
  address = h.address;
  small = h.is_address.0;
  is_address = inl h.is_address.1;
  three_digits = h.three_digits;
  joins = h.text_is ∙ append_assoc h.address (47 ∷ []) (decimal p.len);
}
from_v6 p text (inr h) = record {
  address = h.address;
  small = h.small;
  is_address = inr h.is_address;
  three_digits = h.three_digits;
  joins = h.text_is ∙ append_assoc h.address (47 ∷ []) (decimal p.len);
}

to_v6 : (p : Block) (text address : List ℕ) → p.addr < 2 ^ 128 → p.len < 1000 → text ≡ address ++ codes "/" ++ decimal p.len → IsEither p.addr address → SaysV6 p text
to_v6 p text address small three is (inl h) = inl (record { address = address; is_address = (small, h); three_digits = three; text_is = is })
to_v6 p text address small three is (inr h) = inr (record { address = address; small = small; is_address = h; three_digits = three; text_is = is })

-- One text cut at its first slash has one front and one back.
same_cut : (xs ws ys zs : List ℕ) → Lacks 47 xs → Lacks 47 ws → xs ++ (47 ∷ ys) ≡ ws ++ (47 ∷ zs) → (xs ≡ ws) × (ys ≡ zs)
same_cut [] [] ys zs h k e = (refl, ap (λ t. drop 1 t) e)
same_cut [] (w ∷ ws) ys zs h k e = absurd (k.0 (sym (ap (λ t. get_or t 0 0) e)))
same_cut (x ∷ xs) [] ys zs h k e = absurd (h.0 (ap (λ t. get_or t 0 0) e))
same_cut (x ∷ xs) (w ∷ ws) ys zs h k e =
    let first : x ≡ w = ap (λ t. get_or t 0 0) e in
    let later = same_cut xs ws ys zs h.1 k.1 (ap (λ t. drop 1 t) e) in
    ((λ i. first i ∷ later.0 i), later.1)

-- No address has a slash, so the slash before the length is the first.
cut_of : (p : Block) (text : List ℕ) (h : SaysEither p text) → Cut text h.address (decimal p.len)
cut_of p text h = record { bare = colon_hex_lacks h.address (groups p.addr) (either_colon_hex p.addr h.address h.is_address); joins = h.joins }

-- What a text says its parts say,
says_parts : (p : Block) (text front back : List ℕ) → Cut text front back → SaysV6 p text → (p.addr < 2 ^ 128) × IsEither p.addr front × (p.len < 1000) × (back ≡ decimal p.len)
says_parts p text front back h k =
    let says = from_v6 p text k in
    let cut = cut_of p text says in
    let same = same_cut says.address front (decimal p.len) back cut.bare h.bare (sym cut.joins ∙ h.joins) in
    (says.small, subst (λ t. IsEither p.addr t) same.0 says.is_address, says.three_digits, sym same.1)

-- and what its parts say the text says.
pub parts_say : (p : Block) (text front back : List ℕ) → Cut text front back → (p.addr < 2 ^ 128) × IsEither p.addr front → p.len < 1000 → back ≡ decimal p.len → SaysV6 p text
parts_say p text front back h address three is =
    to_v6 p text front address.0 three (h.joins ∙ ap (λ t. front ++ (47 ∷ t)) is ∙ sym (append_assoc front (47 ∷ []) (decimal p.len))) address.1

-- A text says nothing if it has no slash,
pub not_split : (text : List ℕ) (r : Option (Bor (List ℕ) × Bor (List ℕ))) → IsSplitOnceResult 47 text r → r ≡ None → (p : Block) → ¬ (SaysV6 p text)
not_split text r h e p k =
    let says = from_v6 p text k in
    let none : (i : ℕ) → i < length text → get_or text i 0 ≢ 47 = rw e at (split_parts 47 text r h (lit< tt)) in
    let bare : Lacks 47 (says.address ++ (47 ∷ decimal p.len)) = subst (λ t. Lacks 47 t) says.joins (from_each 47 text none) in
    (right 47 says.address (47 ∷ decimal p.len) bare).0 refl

-- or its back is no number,
pub no_length : (text front back : List ℕ) → Cut text front back → ((n : ℕ) → n < 2 ^ 32 → ¬ (back ≡ decimal n)) → (p : Block) → ¬ (SaysV6 p text)
no_length text front back h none p k = let parts = says_parts p text front back h k in none p.len (omega (arith, parts.2)) parts.3

-- or a number of four digits or more,
pub four_digits : (text front back : List ℕ) (n : ℕ) → Cut text front back → n < 2 ^ 32 → back ≡ decimal n → 1000 ≤ n → (p : Block) → ¬ (SaysV6 p text)
four_digits text front back n h small is big p k =
    let parts = says_parts p text front back h k in
    let same = decimal_injective n p.len (omega arith) (omega (arith, parts.2)) (sym is ∙ parts.3) in
    omega (arith, parts.2, same, big)

-- or its front is no address.
pub no_address : (text front back : List ℕ) → Cut text front back → ((n : ℕ) → n < 2 ^ 128 → ¬ (IsEither n front)) → (p : Block) → ¬ (SaysV6 p text)
no_address text front back h none p k = let parts = says_parts p text front back h k in none p.addr parts.0 parts.1

-- ---- no text says two things

one_v6 : (text : List ℕ) (p q : Block) → SaysV6 p text → SaysV6 q text → p ≡ q
one_v6 text p q h k =
    let says = from_v6 p text h in
    let parts = says_parts q text says.address (decimal p.len) (cut_of p text says) k in
    let addr = same_address says.address p.addr q.addr says.small parts.0 says.is_address parts.1 in
    let len = decimal_injective p.len q.len (omega (arith, says.three_digits)) (omega (arith, parts.2)) parts.3 in
    λ i. record { addr = addr i; len = len i }

v4_not_v6 : (text : List ℕ) (p q : Block) → Says (V4 p) text → ¬ (SaysV6 q text)
v4_not_v6 text p q h k =
    let small = h.is_address.0 in
    let is = h.is_address.1 in
    let cut : Cut text h.address (decimal p.len) =
    record { bare = v4_lacks_slash p.addr h.address small is; joins = h.text_is ∙ append_assoc h.address (47 ∷ []) (decimal p.len) } in
    let parts = says_parts q text h.address (decimal p.len) cut k in
    IsDotted-not_colon_hex h.address (bytes p.addr) (groups q.addr) (v4_dotted p.addr h.address small is) (either_colon_hex q.addr h.address parts.1)

pub one_saying : OneSaying
one_saying text (V4 p) (V4 q) h k = one_reading text (V4 p) (V4 q) h k
one_saying text (V6 p) (V6 q) h k = ap V6 (one_v6 text p q h k)
one_saying text (V4 p) (V6 q) h k = absurd (v4_not_v6 text p q h k)
one_saying text (V6 p) (V4 q) h k = absurd (v4_not_v6 text q p k h)

-- ---- what a plain text says

pub plain_says : (p : IpPrefix) (text : List ℕ) → Says p text → SaysText p text
plain_says (V4 p) text h = h
plain_says (V6 p) text h = inl h

pub plain_spells : PlainSpells
plain_spells text p h = record { is_prefix = h.is_prefix; says = plain_says p text h.says }

pub other_faults : (text : List ℕ) (fault : PrefixFault) → ReadsAs text (Err fault) → (fault ≡ BadText → ⊥) → ReadsPrefix text (Err fault)
other_faults text BadText h other = absurd (other refl)
other_faults text TooLong h other = (h.0, plain_says h.0 text h.1, h.2)
other_faults text HostBits h other = (h.0, plain_says h.0 text h.1, h.2, h.3)
other_faults text MaxLength h other = h

pub plain_is_read : PlainIsRead
plain_is_read text (Ok p) h other = plain_spells text p h
plain_is_read text (Err fault) h other = other_faults text fault h (λ same. other (ap (λ (w : PrefixFault). Err w) same))

-- ---- what is read

-- The prefix that is judged of an address and a length is the one that the text spells,
pub reads : (text : List ℕ) (p : Block) (r : Result Block PrefixFault) → SaysV6 p text → IsBlockJudged 128 p r → (q : Block) → r ≡ Ok q → ReadsV6 text (Ok (V6 q))
reads text p r says h q e =
    let at_q : (q ≡ p) × IsPrefix 128 p = subst (λ x. IsBlockJudged 128 p x) e h in
    (subst (λ b. SaysV6 b text) (sym at_q.0) says, subst (λ b. IsPrefix 128 b) (sym at_q.0) at_q.1)

-- and a fault that is judged is the text's.
pub refuses : (text : List ℕ) (p : Block) (fault : PrefixFault) → SaysV6 p text → IsBlockJudged 128 p (Err fault) → ReadsV6 text (Err fault)
refuses text p TooLong says h = (p, says, h)
refuses text p HostBits says h = (p, says, h.0, h.1)
refuses text p BadText says h = absurd h
refuses text p MaxLength says h = absurd h

neither : (text : List ℕ) → ((p : IpPrefix) → ¬ (Says p text)) → ((p : Block) → ¬ (SaysV6 p text)) → (p : IpPrefix) → ¬ (SaysText p text)
neither text no_plain no_v6 (V4 p) h = no_plain (V4 p) h
neither text no_plain no_v6 (V6 p) h = no_v6 p h

-- If a text is no plain one, what is read of it as IPv6 is what is read of it.
pub as_v6 : (text : List ℕ) → ((p : IpPrefix) → ¬ (Says p text)) → (r : Result IpPrefix PrefixFault) → ReadsV6 text r → ReadsPrefix text r
as_v6 text no_plain (Ok (V4 p)) h = absurd h
as_v6 text no_plain (Ok (V6 p)) h = record { is_prefix = h.1; says = h.0 }
as_v6 text no_plain (Err BadText) h = neither text no_plain h
as_v6 text no_plain (Err TooLong) h = (V6 h.0, h.1, h.2)
as_v6 text no_plain (Err HostBits) h = (V6 h.0, h.1, h.2, h.3)
as_v6 text no_plain (Err MaxLength) h = h

-- What is read from the text of a prefix is that prefix.
pub read_only : (text : List ℕ) (r : Result IpPrefix PrefixFault) → ReadsPrefix text r → (p : IpPrefix) → SpellsPrefix p text → r ≡ Ok p
read_only text (Ok q) reads p h = ap (λ (x : IpPrefix). Ok x) (one_saying text q p reads.says h.says)
read_only text (Err BadText) reads p h = absurd (reads p h.says)
read_only text (Err TooLong) reads p h =
    let over : width_of p < (block_of p).len = subst (λ q. width_of q < (block_of q).len) (one_saying text reads.0 p reads.1 h.says) reads.2 in
    absurd (omega (arith, over, h.is_prefix.in_family))
read_only text (Err HostBits) reads p h =
    let none : ¬ (SpellsPrefix p text) = subst (λ q. ¬ (SpellsPrefix q text)) (one_saying text reads.0 p reads.1 h.says) (λ k. reads.3 k.is_prefix.no_host_bits) in
    absurd (none h)
read_only text (Err MaxLength) reads p h = absurd reads
