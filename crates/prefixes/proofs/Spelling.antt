-- What a text says.
use Rattle.std.proofs.Common.{◌≡◌, ◌≢◌, ℕ, ◌^◌, ◌<◌, ◌≤◌, List, [], ◌∷◌, ◌++◌, length, get_or, drop, Result, Ok, Err, Option, Some, None, arith, refl, ◌∙◌, sym, ap, subst, lit≤, lit<, append_assoc, Bor}
use Rattle.std.proofs.lemmas.Str.Pattern.{IsSplitOnceResult, split_parts}
use Rattle.std.specs.Fmt.{decimal}
use Rattle.std.specs.Net.Addr.{IsIpv4OfBits, IsIpv6OfBits, ipv4_octets, ipv6_segments}
use Rattle.std.specs.Net.Text.{hex_groups_text, ipv4_text}
use Rattle.std.specs.declared.net.ipv4_addr.Ipv4Addr.{Ipv4Addr}
use Rattle.std.specs.declared.net.ipv6_addr.Ipv6Addr.{Ipv6Addr}
use Rattle.std.proofs.lemmas.Fmt.{decimal_injective}
use Rattle.prefixes.specs.Address.{Block, IsPrefix}
use Rattle.prefixes.specs.Payload.{block_of, width_of}
use Rattle.prefixes.specs.TextSteps.{IsBlockJudged}
use Rattle.prefixes.specs.Text.{IsAddress, IsV6Address, OneReading, PrefixText, ReadsAs, Says, WrittenTextIsRead, groups, v4_address, written_address, written_text}
use Rattle.prefixes.specs.declared.fault.PrefixFault.{PrefixFault}
use Rattle.prefixes.specs.declared.fault.PrefixFault.TheVariants.{TooLong, HostBits, BadText, MaxLength}
use Rattle.prefixes.specs.declared.prefix.IpPrefix.{IpPrefix}
use Rattle.prefixes.specs.declared.prefix.IpPrefix.TheVariants.{V4, V6}
use Rattle.prefixes.proofs.Addresses.{v4_lacks_slash, v6_lacks, v4_same, v6_same, v4_not_v6, v6_written, v4_text, v6_text}
use Rattle.prefixes.proofs.Lacks.{Lacks, right, from_each}

-- A text is cut at its first slash.
pub record Cut (text front back : List ℕ) : Type 0 where
  pub bare : Lacks 47 front
  pub joins : text ≡ front ++ (47 ∷ back)

-- One text cut at its first slash has one front and one back.
same_cut : (xs ws ys zs : List ℕ) → Lacks 47 xs → Lacks 47 ws → xs ++ (47 ∷ ys) ≡ ws ++ (47 ∷ zs) → (xs ≡ ws) × (ys ≡ zs)
same_cut [] [] ys zs h k e = (refl, ap (λ t. drop 1 t) e)
same_cut [] (w ∷ ws) ys zs h k e = absurd (k.0 (sym (ap (λ t. get_or t 0 0) e)))
same_cut (x ∷ xs) [] ys zs h k e = absurd (h.0 (ap (λ t. get_or t 0 0) e))
same_cut (x ∷ xs) (w ∷ ws) ys zs h k e =
    let first : x ≡ w = ap (λ t. get_or t 0 0) e in
    let later = same_cut xs ws ys zs h.1 k.1 (ap (λ t. drop 1 t) e) in
    ((λ i. first i ∷ later.0 i), later.1)

-- So a text is cut in one way.
one_cut : (text a b c d : List ℕ) → Cut text a b → Cut text c d → (a ≡ c) × (b ≡ d)
one_cut text a b c d h k = same_cut a c b d h.bare k.bare (sym h.joins ∙ k.joins)

-- No address has a slash.
address_lacks_slash : (p : IpPrefix) (text : List ℕ) → IsAddress p text → Lacks 47 text
address_lacks_slash (V4 p) text h = v4_lacks_slash p.addr text h.0 h.1
address_lacks_slash (V6 p) text h = v6_lacks 47 p.addr text (lit≤ tt) (omega arith) h.1

-- So the slash before the length is the first.
cut_of : (p : IpPrefix) (text : List ℕ) (h : Says p text) → Cut text h.address (decimal (block_of p).len)
cut_of p text h = record {
  bare = address_lacks_slash p h.address h.is_address;
  joins = h.text_is ∙ append_assoc h.address (47 ∷ []) (decimal (block_of p).len);
}

-- What a text says its parts say,
pub says_parts : (p : IpPrefix) (text front back : List ℕ) → Cut text front back → Says p text → IsAddress p front × ((block_of p).len < 1000) × (back ≡ decimal (block_of p).len)
says_parts p text front back h k =
    let same = one_cut text k.address (decimal (block_of p).len) front back (cut_of p text k) h in
    (subst (λ t. IsAddress p t) same.0 k.is_address, k.three_digits, sym same.1)

-- and what its parts say the text says.
pub parts_say : (p : IpPrefix) (text front back : List ℕ) → Cut text front back → IsAddress p front → (block_of p).len < 1000 → back ≡ decimal (block_of p).len → Says p text
parts_say p text front back h address three is = record {
  address = front;
  is_address = address;
  three_digits = three;
  text_is = h.joins ∙ ap (λ t. front ++ (47 ∷ t)) is ∙ sym (append_assoc front (47 ∷ []) (decimal (block_of p).len));
}

-- A text without a slash says nothing.
no_slash : (text : List ℕ) → ((i : ℕ) → i < length text → get_or text i 0 ≢ 47) → (p : IpPrefix) → ¬ (Says p text)
no_slash text none p h =
    let k = cut_of p text h in
    let bare : Lacks 47 (h.address ++ (47 ∷ decimal (block_of p).len)) = subst (λ t. Lacks 47 t) k.joins (from_each 47 text none) in
    (right 47 h.address (47 ∷ decimal (block_of p).len) bare).0 refl

-- A text says nothing if its back is no number,
pub no_length : (text front back : List ℕ) → Cut text front back → ((n : ℕ) → n < 2 ^ 32 → ¬ (back ≡ decimal n)) → (p : IpPrefix) → ¬ (Says p text)
no_length text front back h none p k =
    let parts = says_parts p text front back h k in
    none (block_of p).len (omega (arith, parts.1)) parts.2

-- or a number of four digits or more;
pub four_digits : (text front back : List ℕ) (n : ℕ) → Cut text front back → n < 2 ^ 32 → back ≡ decimal n → 1000 ≤ n → (p : IpPrefix) → ¬ (Says p text)
four_digits text front back n h small is big p k =
    let parts = says_parts p text front back h k in
    let same = decimal_injective n (block_of p).len (omega arith) (omega (arith, parts.1)) (sym is ∙ parts.2) in
    omega (arith, parts.1, same)

-- and it says nothing if its front is no address.
pub no_address : (text front back : List ℕ) → Cut text front back → ((n : ℕ) → n < 2 ^ 32 → ¬ (front ≡ v4_address n)) → ((n : ℕ) → n < 2 ^ 128 → ¬ (IsV6Address n front)) → (p : IpPrefix) → ¬ (Says p text)
no_address text front back h no_v4 no_v6 (V4 p) k =
    let parts = says_parts (V4 p) text front back h k in
    no_v4 p.addr parts.0.0 parts.0.1
no_address text front back h no_v4 no_v6 (V6 p) k =
    let parts = says_parts (V6 p) text front back h k in
    no_v6 p.addr parts.0.0 parts.0.1

-- `split_once` cuts at the first slash,
pub first_slash : (text : List ℕ) (r : Option (Bor (List ℕ) × Bor (List ℕ))) → IsSplitOnceResult 47 text r → (front back : Bor (List ℕ)) → r ≡ Some (front, back) → Cut text front.now back.now
first_slash text r h front back e =
    let parts = rw e at (split_parts 47 text r h (lit< tt)) in
    record { bare = from_each 47 front.now parts.1; joins = parts.0 }

-- and if it finds none the text is no prefix.
pub not_split : (text : List ℕ) (r : Option (Bor (List ℕ) × Bor (List ℕ))) → IsSplitOnceResult 47 text r → r ≡ None → (p : IpPrefix) → ¬ (Says p text)
not_split text r h e = no_slash text (rw e at (split_parts 47 text r h (lit< tt)))

-- The prefix that is judged of an IPv4 address and a length is the one that the text spells,
pub reads_v4 : (text : List ℕ) (p : Block) (r : Result Block PrefixFault) → Says (V4 p) text → IsBlockJudged 32 p r → (q : Block) → r ≡ Ok q → PrefixText (V4 q) text
reads_v4 text p r says h q e =
    let at_q : (q ≡ p) × IsPrefix 32 p = subst (λ x. IsBlockJudged 32 p x) e h in
    subst (λ b. PrefixText (V4 b) text) (sym at_q.0) (record { is_prefix = at_q.1; says = says })

-- and so is that of an IPv6 address,
pub reads_v6 : (text : List ℕ) (p : Block) (r : Result Block PrefixFault) → Says (V6 p) text → IsBlockJudged 128 p r → (q : Block) → r ≡ Ok q → PrefixText (V6 q) text
reads_v6 text p r says h q e =
    let at_q : (q ≡ p) × IsPrefix 128 p = subst (λ x. IsBlockJudged 128 p x) e h in
    subst (λ b. PrefixText (V6 b) text) (sym at_q.0) (record { is_prefix = at_q.1; says = says })

-- and a fault that is judged is the text's.
pub refuses : (text : List ℕ) (p : IpPrefix) (fault : PrefixFault) → Says p text → IsBlockJudged (width_of p) (block_of p) (Err fault) → ReadsAs text (Err fault)
refuses text p TooLong says h = (p, says, h)
refuses text p HostBits says h = (p, says, h.0, h.1)
refuses text p BadText says h = absurd h
refuses text p MaxLength says h = absurd h

-- Two prefixes with one text of the address and one length are one.
same_address : (p q : IpPrefix) (text : List ℕ) → IsAddress p text → IsAddress q text → (block_of p).len ≡ (block_of q).len → p ≡ q
same_address (V4 p) (V4 q) text h k len = let addr = v4_same text p.addr q.addr h.0 k.0 h.1 k.1 in λ i. V4 (record { addr = addr i; len = len i })
same_address (V6 p) (V6 q) text h k len = let addr = v6_same text p.addr q.addr h.0 k.0 h.1 k.1 in λ i. V6 (record { addr = addr i; len = len i })
same_address (V4 p) (V6 q) text h k len = absurd (v4_not_v6 text p.addr q.addr h.0 h.1 k.1)
same_address (V6 p) (V4 q) text h k len = absurd (v4_not_v6 text q.addr p.addr k.0 k.1 h.1)

-- No text says two things.
pub one_reading : OneReading
one_reading text p q h k =
    let parts = says_parts q text h.address (decimal (block_of p).len) (cut_of p text h) k in
    let len = decimal_injective (block_of p).len (block_of q).len (omega (arith, h.three_digits)) (omega (arith, parts.1)) parts.2 in
    same_address p q h.address h.is_address parts.0 len

-- So what is read from the text of a prefix is that prefix.
pub read_only : (text : List ℕ) (r : Result IpPrefix PrefixFault) → ReadsAs text r → (p : IpPrefix) → PrefixText p text → r ≡ Ok p
read_only text (Ok q) reads p h = ap (λ (x : IpPrefix). Ok x) (one_reading text q p reads.says h.says)
read_only text (Err BadText) reads p h = absurd (reads p h.says)
read_only text (Err TooLong) reads p h =
    let over : width_of p < (block_of p).len = subst (λ q. width_of q < (block_of q).len) (one_reading text reads.0 p reads.1 h.says) reads.2 in
    absurd (omega (arith, over, h.is_prefix.in_family))
read_only text (Err HostBits) reads p h =
    let none : ¬ (PrefixText p text) = subst (λ q. ¬ (PrefixText q text)) (one_reading text reads.0 p reads.1 h.says) (λ k. reads.3 k.is_prefix.no_host_bits) in
    absurd (none h)
read_only text (Err MaxLength) reads p h = absurd reads

-- What is written for an address spells it.
written_is_address : (p : IpPrefix) → IsPrefix (width_of p) (block_of p) → IsAddress p (written_address p)
written_is_address (V4 p) h = (h.address, refl)
written_is_address (V6 p) h = (h.address, v6_written p.addr)

-- A length within the width has three digits at most.
width_below : (p : IpPrefix) → width_of p < 1000
width_below (V4 p) = omega arith
width_below (V6 p) = omega arith

-- What is written for a prefix spells it.
pub written_is_read : WrittenTextIsRead
written_is_read p h = record {
  is_prefix = h;
  says = record {
    address = written_address p;
    is_address = written_is_address p h;
    three_digits = omega (arith, width_below p, h.in_family);
    text_is = refl;
  };
}

-- What is written by way of std's addresses is the text, for IPv4
pub written_v4 : (p : IpPrefix) (b : Block) (a : Ipv4Addr) (addr len : ℕ) → p ≡ V4 b → IsIpv4OfBits a addr → addr ≡ b.addr → len ≡ b.len → IsPrefix 32 b → ipv4_text (ipv4_octets a) ++ (47 ∷ decimal len) ≡ written_text p
written_v4 p b a addr len is bits same_addr same_len h =
    let text = v4_text a addr bits (omega (arith, h.address)) in
    rw (is, text, same_addr, same_len) (sym (append_assoc (v4_address b.addr) (47 ∷ []) (decimal b.len)))

-- and for IPv6.
pub written_v6 : (p : IpPrefix) (b : Block) (a : Ipv6Addr) (addr len : ℕ) → p ≡ V6 b → IsIpv6OfBits a addr → addr ≡ b.addr → len ≡ b.len → hex_groups_text (ipv6_segments a) ++ (47 ∷ decimal len) ≡ written_text p
written_v6 p b a addr len is bits same_addr same_len =
    let text = v6_text a addr bits in
    rw (is, text, same_addr, same_len) (sym (append_assoc (hex_groups_text (groups b.addr)) (47 ∷ []) (decimal b.len)))
