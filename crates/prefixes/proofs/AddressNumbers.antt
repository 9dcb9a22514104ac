-- Addresses as numbers, as bytes and as groups.
use Rattle.std.proofs.Common.{◌≡◌, ℕ, ◌+◌, ◌*◌, ◌/◌, ◌%◌, ◌^◌, ◌<◌, List, [], ◌∷◌, get_or, arith, ap}
use Rattle.std.specs.Int.{w32, w128, to_be_bytes, from_be_bytes}
use Rattle.std.specs.Net.Addr.{segments_of, octets_of}
use Rattle.std.proofs.Math.Nat.{div-div-eq-div-mul}
use Rattle.prefixes.specs.Text.{groups}

-- the four bytes of an address, the highest first
abbrev pub bytes : ℕ → List ℕ
bytes n = n / 2 ^ 24 ∷ n / 2 ^ 16 % 2 ^ 8 ∷ n / 2 ^ 8 % 2 ^ 8 ∷ n % 2 ^ 8 ∷ []

-- The number that four bytes make has these bytes.
pub four_bytes : (a b c d n : ℕ) → a < 256 → b < 256 → c < 256 → d < 256 → n ≡ from_be_bytes w32 (a ∷ b ∷ c ∷ d ∷ []) → (n < 2 ^ 32) × (n / 2 ^ 24 ≡ a) × (n / 2 ^ 16 % 2 ^ 8 ≡ b) × (n / 2 ^ 8 % 2 ^ 8 ≡ c) × (n % 2 ^ 8 ≡ d)
four_bytes a b c d n ha hb hc hd is = omega arith

-- The bytes that std makes of a number are these.
pub as_four_bytes : (n : ℕ) → n < 2 ^ 32 → to_be_bytes w32 n ≡ bytes n
as_four_bytes n small =
    let top : n / 2 ^ 24 % 256 ≡ n / 2 ^ 24 = omega arith in
    ap (λ b. b ∷ n / 2 ^ 16 % 2 ^ 8 ∷ n / 2 ^ 8 % 2 ^ 8 ∷ n % 2 ^ 8 ∷ []) top

-- A group is two bytes:
two_bytes : (m : ℕ) → m / 256 % 256 * 256 + m % 256 ≡ m % 2 ^ 16
two_bytes m = omega arith

-- the lowest of n / k, for k a power of two.
two_bytes_at : (n k : ℕ) → n / (k * 256) % 256 * 256 + n / k % 256 ≡ n / k % 2 ^ 16
two_bytes_at n k = rw (← div-div-eq-div-mul n k 256) (two_bytes (n / k))

-- The segments that std makes of a number are its groups.
pub as_groups : (n : ℕ) → segments_of (to_be_bytes w128 n) ≡ groups n
as_groups n =
    let low : n / 256 % 256 * 256 + n % 256 ≡ n / 2 ^ 0 % 2 ^ 16 = omega arith in
    λ i. two_bytes_at n (2 ^ 112) i ∷ two_bytes_at n (2 ^ 96) i ∷ two_bytes_at n (2 ^ 80) i ∷ two_bytes_at n (2 ^ 64) i
    ∷ two_bytes_at n (2 ^ 48) i ∷ two_bytes_at n (2 ^ 32) i ∷ two_bytes_at n (2 ^ 16) i ∷ low i ∷ []

-- The number that eight groups make has these groups.
pub eight_groups : (a b c d e f g h n : ℕ) → a < 2 ^ 16 → b < 2 ^ 16 → c < 2 ^ 16 → d < 2 ^ 16 → e < 2 ^ 16 → f < 2 ^ 16 → g < 2 ^ 16 → h < 2 ^ 16 → n ≡ from_be_bytes w128 (octets_of (a ∷ b ∷ c ∷ d ∷ e ∷ f ∷ g ∷ h ∷ [])) → (n < 2 ^ 128) × (groups n ≡ a ∷ b ∷ c ∷ d ∷ e ∷ f ∷ g ∷ h ∷ [])
eight_groups a b c d e f g h n ha hb hc hd he hf hg hh is =
    let is_a : n / 2 ^ 112 % 2 ^ 16 ≡ a = omega arith in
    let is_b : n / 2 ^ 96 % 2 ^ 16 ≡ b = omega arith in
    let is_c : n / 2 ^ 80 % 2 ^ 16 ≡ c = omega arith in
    let is_d : n / 2 ^ 64 % 2 ^ 16 ≡ d = omega arith in
    let is_e : n / 2 ^ 48 % 2 ^ 16 ≡ e = omega arith in
    let is_f : n / 2 ^ 32 % 2 ^ 16 ≡ f = omega arith in
    let is_g : n / 2 ^ 16 % 2 ^ 16 ≡ g = omega arith in
    let is_h : n / 2 ^ 0 % 2 ^ 16 ≡ h = omega arith in
    (omega arith, λ i. is_a i ∷ is_b i ∷ is_c i ∷ is_d i ∷ is_e i ∷ is_f i ∷ is_g i ∷ is_h i ∷ [])

-- A number is determined by its bytes,
pub same_bytes : (m n : ℕ) → m < 2 ^ 32 → n < 2 ^ 32 → bytes m ≡ bytes n → m ≡ n
same_bytes m n hm hn e =
    let e0 : m / 2 ^ 24 ≡ n / 2 ^ 24 = ap (λ t. get_or t 0 0) e in
    let e1 : m / 2 ^ 16 % 2 ^ 8 ≡ n / 2 ^ 16 % 2 ^ 8 = ap (λ t. get_or t 1 0) e in
    let e2 : m / 2 ^ 8 % 2 ^ 8 ≡ n / 2 ^ 8 % 2 ^ 8 = ap (λ t. get_or t 2 0) e in
    let e3 : m % 2 ^ 8 ≡ n % 2 ^ 8 = ap (λ t. get_or t 3 0) e in
    omega arith

-- and by its groups.
pub same_groups : (m n : ℕ) → m < 2 ^ 128 → n < 2 ^ 128 → groups m ≡ groups n → m ≡ n
same_groups m n hm hn e =
    let e0 : m / 2 ^ 112 % 2 ^ 16 ≡ n / 2 ^ 112 % 2 ^ 16 = ap (λ t. get_or t 0 0) e in
    let e1 : m / 2 ^ 96 % 2 ^ 16 ≡ n / 2 ^ 96 % 2 ^ 16 = ap (λ t. get_or t 1 0) e in
    let e2 : m / 2 ^ 80 % 2 ^ 16 ≡ n / 2 ^ 80 % 2 ^ 16 = ap (λ t. get_or t 2 0) e in
    let e3 : m / 2 ^ 64 % 2 ^ 16 ≡ n / 2 ^ 64 % 2 ^ 16 = ap (λ t. get_or t 3 0) e in
    let e4 : m / 2 ^ 48 % 2 ^ 16 ≡ n / 2 ^ 48 % 2 ^ 16 = ap (λ t. get_or t 4 0) e in
    let e5 : m / 2 ^ 32 % 2 ^ 16 ≡ n / 2 ^ 32 % 2 ^ 16 = ap (λ t. get_or t 5 0) e in
    let e6 : m / 2 ^ 16 % 2 ^ 16 ≡ n / 2 ^ 16 % 2 ^ 16 = ap (λ t. get_or t 6 0) e in
    let e7 : m / 2 ^ 0 % 2 ^ 16 ≡ n / 2 ^ 0 % 2 ^ 16 = ap (λ t. get_or t 7 0) e in
    omega arith
