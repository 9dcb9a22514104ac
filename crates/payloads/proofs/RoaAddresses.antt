-- The address that a prefix's bits begin.
use Rattle.std.proofs.Common.{◌≡◌, ℕ, ◌-◌, ◌*◌, ◌/◌, ◌%◌, ◌^◌, ◌<◌, ◌≤◌, Bool, true, cond, ltb, ◌∷◌, List, length, Some, None, sym, ap, ◌∙◌, arith}
use Rattle.std.proofs.lemmas.Bool.{le-ltb}
use Rattle.std.proofs.Math.Nat.{mul-div_cancel, mul-mod_left, mod-eq_of_lt, pow-le-pow_right}
use Rattle.std.proofs.Math.Pow.{suc_ones}
use Rattle.der_lite.specs.Der.{IsBytes, number, is_bit_string, bit_count}
use Rattle.der_lite.specs.Values.{bits_value, bits_number}
use Rattle.prefixes.specs.Address.{Block}
use Rattle.payloads.specs.Roa.{block_of_bits}
use Rattle.der_lite.proofs.BitStrings.{filled, widened, bits_bound, bits_spelled, spelled_count}

-- there are as many bits as the content counts
pub bits_count : (content : List ℕ) → is_bit_string content ≡ true → length (bits_value content) ≡ bit_count content
bits_count content valid = spelled_count (bits_value content) content (bits_spelled content valid)

module _ (unused : ℕ) (body : List ℕ) (width : ℕ) (valid : is_bit_string (unused ∷ body) ≡ true) (bytes : IsBytes body) (within : bit_count (unused ∷ body) ≤ width) where
  abbrev bits : List Bool
  bits = bits_value (unused ∷ body)

  -- the bytes without the unused bits are the bits
  first_bits : number body / 2 ^ unused ≡ bits_number bits (length bits)
  first_bits = ap (λ (n : ℕ). n / 2 ^ unused) (filled unused body valid bytes) ∙ mul-div_cancel (bits_number bits (length bits)) (omega (arith, suc_ones unused))

  -- and the address has zeros behind them
  pub address_is : number body / 2 ^ unused * 2 ^ (width - bit_count (unused ∷ body)) ≡ bits_number bits width
  address_is =
      let count = bits_count (unused ∷ body) valid in
      ap (λ (n : ℕ). n * 2 ^ (width - bit_count (unused ∷ body))) first_bits
      ∙ ap (λ (n : ℕ). bits_number bits (length bits) * 2 ^ (width - n)) (sym count)
      ∙ sym (widened bits width (omega (arith, count, within)))

  -- which is one of its width
  pub address_bound : bits_number bits width < 2 ^ width
  address_bound = bits_bound bits width (omega (arith, bits_count (unused ∷ body) valid, within))

  -- and has no bit behind the prefix
  pub no_host_bits : bits_number bits width % 2 ^ (width - bit_count (unused ∷ body)) ≡ 0
  no_host_bits = ap (λ (n : ℕ). n % 2 ^ (width - bit_count (unused ∷ body))) (sym address_is) ∙ mul-mod_left (number body / 2 ^ unused) (2 ^ (width - bit_count (unused ∷ body)))

  -- no bit is lost when it is shifted into its place
  pub shifted : width ≤ 128 → (n host : ℕ) → n ≡ number body → host ≡ width - bit_count (unused ∷ body) → n / 2 ^ unused * 2 ^ host % 2 ^ 128 ≡ bits_number bits width
  shifted narrow n host n_is host_is =
      let place : n / 2 ^ unused * 2 ^ host ≡ bits_number bits width =
      ap (λ (k : ℕ). k / 2 ^ unused * 2 ^ host) n_is ∙ ap (λ (k : ℕ). number body / 2 ^ unused * 2 ^ k) host_is ∙ address_is in
      let power : 2 ^ width ≤ 2 ^ 128 = pow-le-pow_right {n = 2} (omega arith) narrow in
      ap (λ (k : ℕ). k % 2 ^ 128) place ∙ mod-eq_of_lt (omega (arith, address_bound, power))

-- an address and a length
abbrev pub block : ℕ → ℕ → Block
block addr len = record { addr = addr; len = len }

-- equal ones make equal prefixes
pub block_by : (addr len other_addr other_len : ℕ) → addr ≡ other_addr → len ≡ other_len → block addr len ≡ block other_addr other_len
block_by addr len other_addr other_len a l = ap (λ (n : ℕ). block n len) a ∙ ap (λ (n : ℕ). block other_addr n) l

-- the prefix of a content that has at most as many bits as an address
pub prefix_is : (content : List ℕ) (width addr len : ℕ) (p : Block) → is_bit_string content ≡ true → bit_count content ≤ width → p ≡ block addr len → addr ≡ bits_number (bits_value content) width → len ≡ bit_count content
    → Some p ≡ cond (ltb width (bit_count content)) None (Some (block_of_bits width (bits_value content)))
prefix_is content width addr len p valid within p_is a l =
    let same : p ≡ block_of_bits width (bits_value content) = p_is ∙ block_by addr len (bits_number (bits_value content) width) (length (bits_value content)) a (l ∙ sym (bits_count content valid)) in
    rw (le-ltb width (bit_count content) within) (ap (λ (b : Block). Some b) same)
