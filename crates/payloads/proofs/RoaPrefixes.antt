-- The content of an address: its bits make the prefix again.
use Rattle.std.proofs.Common.{◌≡◌, ℕ, zero, suc, ◌+◌, ◌-◌, ◌*◌, ◌/◌, ◌%◌, ◌^◌, ◌<◌, ◌≤◌, Bool, true, false, not, ltb, List, [], ◌∷◌, ◌++◌, length, get_or, take, refl, sym, ap, subst, ◌∙◌, arith, length-append}
use Rattle.std.specs.Int.{bytes_high_first}
use Rattle.std.proofs.lemmas.Bool.{and_from, eq-eqb, lt-ltb, le-ltb}
use Rattle.std.proofs.lemmas.List.{length-take}
use Rattle.std.proofs.lemmas.Nat.{pow-add, div-add-mod'}
use Rattle.std.proofs.Math.Seq.{get_or-append_seam}
use Rattle.std.proofs.Math.Nat.{mul_assoc, mul_right_comm, mul-div_cancel, mul-mod_left, div-lt_iff_lt-mul, one-le-pow, min-le_right, div-div-eq-div-mul}
use Rattle.std.proofs.Math.Pow.{mod-mod-pow}
use Rattle.der_lite.specs.Der.{IsBytes, number, base_256, tlv, is_bit_string, bit_count}
use Rattle.der_lite.specs.Values.{bits_value, bits_number}
use Rattle.der_lite.specs.Grammar.{KeepsRules}
use Rattle.der_lite.proofs.BitStrings.{pow_256, bits_spelled}
use Rattle.der_lite.proofs.Elements.{IsBytes-take}
use Rattle.der_lite.proofs.NumberBytes.{bytes_cons, base_length, base_bytes, base_number, base_take, base_high_first}
use Rattle.prefixes.specs.Address.{Block, IsPrefix}
use Rattle.prefixes.specs.Payload.{block_of, width_of}
use Rattle.prefixes.specs.declared.prefix.IpPrefix.{IpPrefix}
use Rattle.prefixes.specs.declared.prefix.IpPrefix.TheVariants.{V4, V6}
use Rattle.payloads.specs.Roa.{block_of_bits, address}
use Rattle.payloads.specs.RoaBytes.{bytes_of_bits, first_bytes, address_content}
use Rattle.payloads.proofs.RoaAddresses.{bits_count, address_is, block_by}
use Rattle.payloads.proofs.RoaFlats.{family_of}

-- ---- the bytes

-- a bit string by its last byte
last_byte : (unused : ℕ) (front : List ℕ) (byte : ℕ) → unused < 8 → byte % 2 ^ unused ≡ 0 → is_bit_string (unused ∷ (front ++ byte ∷ [])) ≡ true
last_byte unused [] byte h e = and_from _ _ (lt-ltb unused 8 h) (eq-eqb (byte % 2 ^ unused) 0 e)
last_byte unused (x ∷ xs) byte h e =
    let count : length (xs ++ byte ∷ []) ≡ length (x ∷ xs) = omega (arith, length-append xs (byte ∷ [])) in
    let last : get_or (x ∷ (xs ++ byte ∷ [])) (length (xs ++ byte ∷ [])) 0 ≡ byte =
    ap (λ (i : ℕ). get_or (x ∷ (xs ++ byte ∷ [])) i 0) count ∙ get_or-append_seam (x ∷ xs) byte [] 0 in
    and_from _ _ (lt-ltb unused 8 h) (eq-eqb (get_or (x ∷ (xs ++ byte ∷ [])) (length (xs ++ byte ∷ [])) 0 % 2 ^ unused) 0 (ap (λ (b : ℕ). b % 2 ^ unused) last ∙ e))

-- the lowest byte has the lowest bits
low_bits : (unused n : ℕ) → unused < 8 → n % 256 % 2 ^ unused ≡ n % 2 ^ unused
low_bits unused n h =
    let eight : 8 ≡ 8 - unused + unused = omega (arith, h) in
    ap (λ (k : ℕ). n % 2 ^ k % 2 ^ unused) eight ∙ mod-mod-pow n (8 - unused) unused

-- bytes of a number whose lowest bits are zero
zeros_behind : (count unused n : ℕ) → unused < 8 → (count ≡ 0 → unused ≡ 0) → n % 2 ^ unused ≡ 0 → is_bit_string (unused ∷ base_256 count n) ≡ true
zeros_behind zero unused n h z e = eq-eqb unused 0 (z refl)
zeros_behind (suc count) unused n h z e = last_byte unused (base_256 count (n / 256)) (n % 256) h (low_bits unused n h ∙ e)

-- what a content is that holds the bits of a prefix
pub record IsBits (width : ℕ) (p : Block) (content : List ℕ) : Type 0 where
  pub valid : is_bit_string content ≡ true
  pub count : bit_count content ≡ p.len
  pub block : block_of_bits width (bits_value content) ≡ p

module _ (octets : ℕ) (p : Block) (is : IsPrefix (8 * octets) p) where
  abbrev count : ℕ
  count = bytes_of_bits p.len

  abbrev unused : ℕ
  unused = 8 * count - p.len

  abbrev more : ℕ
  more = octets - count

  abbrev host : ℕ
  host = 8 * octets - p.len

  -- the bits of the prefix, as a number
  abbrev bits : ℕ
  bits = p.addr / 2 ^ host

  few : unused < 8
  few = omega arith

  enough : octets ≡ count + more
  enough = omega (arith, is.in_family)

  power : 2 ^ host ≡ 256 ^ more * 2 ^ unused
  power =
      let parts : host ≡ 8 * more + unused = omega (arith, is.in_family) in
      ap (λ (k : ℕ). 2 ^ k) parts ∙ pow-add 2 (8 * more) unused ∙ ap (λ (k : ℕ). k * 2 ^ unused) (pow_256 more)

  addr_is : p.addr ≡ bits * 2 ^ host
  addr_is = let whole = div-add-mod' p.addr (2 ^ host) in omega (arith, whole, is.no_host_bits)

  some : 0 < 256 ^ more
  some = one-le-pow more 256 (omega arith)

  -- the first bytes, as a number
  front_is : p.addr / 256 ^ more ≡ bits * 2 ^ unused
  front_is =
      let parts : p.addr ≡ bits * 2 ^ unused * 256 ^ more =
      addr_is ∙ ap (λ (k : ℕ). bits * k) power ∙ sym (mul_assoc bits (256 ^ more) (2 ^ unused)) ∙ mul_right_comm bits (256 ^ more) (2 ^ unused) in
      ap (λ (k : ℕ). k / 256 ^ more) parts ∙ mul-div_cancel (bits * 2 ^ unused) some

  front_bound : p.addr / 256 ^ more < 256 ^ count
  front_bound =
      let width : 2 ^ (8 * octets) ≡ 256 ^ count * 256 ^ more = pow_256 octets ∙ ap (λ (k : ℕ). 256 ^ k) enough ∙ pow-add 256 count more in
      (div-lt_iff_lt-mul {k = 256 ^ more} {x = p.addr} {y = 256 ^ count} some).1 (omega (arith, is.address, width))

  body_is : take count (base_256 octets p.addr) ≡ base_256 count (p.addr / 256 ^ more)
  body_is = ap (λ (k : ℕ). take count (base_256 k p.addr)) enough ∙ base_take count more p.addr

  -- the bytes of the front hold the bits
  front_bits : IsBits (8 * octets) p (unused ∷ base_256 count (p.addr / 256 ^ more))
  front_bits =
      let n = p.addr / 256 ^ more in
      let body = base_256 count n in
      let content = unused ∷ body in
      let valid : is_bit_string content ≡ true = zeros_behind count unused n few (λ z. omega (arith, z)) (ap (λ (k : ℕ). k % 2 ^ unused) front_is ∙ mul-mod_left bits (2 ^ unused)) in
      let counted : bit_count content ≡ p.len = omega (arith, base_length count n) in
      let within : bit_count content ≤ 8 * octets = omega (arith, counted, is.in_family) in
      let again : number body / 2 ^ unused ≡ bits =
      ap (λ (k : ℕ). k / 2 ^ unused) (base_number count n front_bound ∙ front_is) ∙ mul-div_cancel bits (one-le-pow unused 2 (omega arith)) in
      let addr : bits_number (bits_value content) (8 * octets) ≡ p.addr =
      sym (address_is unused body (8 * octets) valid (base_bytes count n) within) ∙ ap (λ (k : ℕ). k * 2 ^ (8 * octets - bit_count content)) again
      ∙ ap (λ (k : ℕ). bits * 2 ^ (8 * octets - k)) counted ∙ sym addr_is in
      record {
        valid = valid;
        count = counted;
        block = block_by (bits_number (bits_value content) (8 * octets)) (length (bits_value content)) p.addr p.len addr (bits_count content valid ∙ counted);
      }

  pub first_bits : IsBits (8 * octets) p (first_bytes octets p)
  first_bits = subst (λ (body : List ℕ). IsBits (8 * octets) p (unused ∷ body)) (sym body_is) front_bits

-- ---- the element

-- two rules are kept
both_kept : (a b : Bool) → a ≡ true → b ≡ false → KeepsRules ((4, not a) ∷ (10, b) ∷ [])
both_kept a b ha hb = rw (ha, hb) refl

few_bytes : (octets : ℕ) (p : Block) → octets ≤ 16 → length (first_bytes octets p) ≤ 17
few_bytes octets p h = omega (arith, h, length-take (bytes_of_bits p.len) (base_256 octets p.addr), base_length octets p.addr, min-le_right (bytes_of_bits p.len) (length (base_256 octets p.addr)))

are_bytes : (octets : ℕ) (p : Block) → IsBytes (first_bytes octets p)
are_bytes octets p = bytes_cons (8 * bytes_of_bits p.len - p.len) (take (bytes_of_bits p.len) (base_256 octets p.addr)) (omega arith) (IsBytes-take (bytes_of_bits p.len) (base_256 octets p.addr) (base_bytes octets p.addr))

-- there are 17 bytes at most
pub address_few : (prefix : IpPrefix) → length (address_content prefix) ≤ 17
unfolding address_content
address_few (V4 p) = few_bytes 4 p (omega arith)
address_few (V6 p) = few_bytes 16 p (omega arith)

pub address_are : (prefix : IpPrefix) → IsBytes (address_content prefix)
unfolding address_content
address_are (V4 p) = are_bytes 4 p
address_are (V6 p) = are_bytes 16 p

-- the bytes of a prefix spell its address
pub address_spells : (prefix : IpPrefix) → IsPrefix (width_of prefix) (block_of prefix) → (address (family_of prefix)).Spells prefix (tlv 3 (address_content prefix))
unfolding address address_content
address_spells (V4 p) is =
    let content = first_bytes 4 p in
    let b = first_bits 4 p is in (
      content,
      record { short = omega (arith, few_bytes 4 p (omega arith)); spelled = refl },
      (record { bits = bits_value content; spelled = bits_spelled content b.valid; is = ap (λ (x : Block). V4 x) (sym b.block) }, both_kept (is_bit_string content) (ltb 32 (bit_count content)) b.valid (le-ltb 32 (bit_count content) (omega (arith, b.count, is.in_family)))),
    )
address_spells (V6 p) is =
    let content = first_bytes 16 p in
    let b = first_bits 16 p is in (
      content,
      record { short = omega (arith, few_bytes 16 p (omega arith)); spelled = refl },
      (record { bits = bits_value content; spelled = bits_spelled content b.valid; is = ap (λ (x : Block). V6 x) (sym b.block) }, both_kept (is_bit_string content) (ltb 128 (bit_count content)) b.valid (le-ltb 128 (bit_count content) (omega (arith, b.count, is.in_family)))),
    )

-- ---- the machine's bytes

-- the first bytes of a wider number, whose lower bytes are zero
pub wider_first : (all octets count n addr : ℕ) → count ≤ octets → octets ≤ all → n ≡ addr * 256 ^ (all - octets) → take count (bytes_high_first all n) ≡ take count (base_256 octets addr)
wider_first all octets count n addr few narrow is =
    let p = 256 ^ (all - octets) in
    let q = 256 ^ (octets - count) in
    let all_is : all ≡ count + (all - count) = omega (arith, few, narrow) in
    let octets_is : octets ≡ count + (octets - count) = omega (arith, few) in
    let behind : all - count ≡ all - octets + (octets - count) = omega (arith, few, narrow) in
    let some : 0 < p = one-le-pow (all - octets) 256 (omega arith) in
    let same : n / 256 ^ (all - count) ≡ addr / q =
    ap (λ (k : ℕ). n / 256 ^ k) behind ∙ ap (λ (k : ℕ). n / k) (pow-add 256 (all - octets) (octets - count)) ∙ sym (div-div-eq-div-mul n p q)
    ∙ ap (λ (k : ℕ). k / q) (ap (λ (k : ℕ). k / p) is ∙ mul-div_cancel addr some) in
    ap (λ (l : List ℕ). take count l) (base_high_first all n) ∙ ap (λ (k : ℕ). take count (base_256 k n)) all_is ∙ base_take count (all - count) n ∙ ap (base_256 count) same
    ∙ sym (ap (λ (k : ℕ). take count (base_256 k addr)) octets_is ∙ base_take count (octets - count) addr)

-- the bytes that are written of a prefix, by the machine's number of its address
pub written_is : (prefix : IpPrefix) (len : ℕ) (octets : List ℕ) → IsPrefix (width_of prefix) (block_of prefix) → len ≡ (block_of prefix).len → octets ≡ bytes_high_first 16 ((block_of prefix).addr * 2 ^ (128 - width_of prefix))
    → (8 * bytes_of_bits len - len) ∷ take (bytes_of_bits len) octets ≡ address_content prefix
unfolding address_content
written_is (V4 p) len octets is len_is octets_is =
    ap (λ (n : ℕ). (8 * bytes_of_bits n - n) ∷ take (bytes_of_bits n) octets) len_is ∙ ap (λ (l : List ℕ). (8 * bytes_of_bits p.len - p.len) ∷ take (bytes_of_bits p.len) l) octets_is
    ∙ ap (λ (l : List ℕ). (8 * bytes_of_bits p.len - p.len) ∷ l) (wider_first 16 4 (bytes_of_bits p.len) (p.addr * 2 ^ 96) p.addr (omega (arith, is.in_family)) (omega arith) (omega arith))
written_is (V6 p) len octets is len_is octets_is =
    ap (λ (n : ℕ). (8 * bytes_of_bits n - n) ∷ take (bytes_of_bits n) octets) len_is ∙ ap (λ (l : List ℕ). (8 * bytes_of_bits p.len - p.len) ∷ take (bytes_of_bits p.len) l) octets_is
    ∙ ap (λ (l : List ℕ). (8 * bytes_of_bits p.len - p.len) ∷ l) (wider_first 16 16 (bytes_of_bits p.len) (p.addr * 1) p.addr (omega (arith, is.in_family)) (omega arith) (omega arith))
