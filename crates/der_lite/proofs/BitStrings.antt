-- Bit strings: the content that spells bits, and the number that bits make.
use Rattle.std.proofs.Common.{◌≡◌, ℕ, zero, suc, ◌+◌, ◌-◌, ◌*◌, ◌/◌, ◌%◌, ◌^◌, ◌<◌, ◌≤◌, Bool, true, false, cond, eqb, ltb, List, [], ◌∷◌, ◌++◌, length, get_or, take, drop, replicate, refl, sym, ap, subst, ◌∙◌, arith, append_assoc, length-append}
use Rattle.std.proofs.lemmas.Bool.{and_parts, eqb-true, ne_eqb, ltb-true}
use Rattle.std.proofs.lemmas.List.{take_at, append-nil, length-replicate}
use Rattle.std.proofs.lemmas.Nat.{pow-add}
use Rattle.std.proofs.Math.Nat.{pow-suc, add-mul}
use Rattle.std.proofs.Math.Pow.{suc_ones}
use Rattle.der_lite.specs.Der.{IsBytes, number, BitsSpell, bits_of, bits_of_byte, is_bit_string, bit_count}
use Rattle.der_lite.specs.Values.{bits_value, bits_number}

-- ---- the content that spells bits

pub length-bits_of : (bytes : List ℕ) → length (bits_of bytes) ≡ 8 * length bytes
length-bits_of [] = refl
length-bits_of (byte ∷ bytes) = omega (arith, length-append (bits_of_byte byte) (bits_of bytes), length-bits_of bytes)

-- the lowest bits of a byte that they do not reach
byte_padded : (unused byte : ℕ) → unused < 8 → byte % 2 ^ unused ≡ 0 → bits_of_byte byte ≡ take (8 - unused) (bits_of_byte byte) ++ replicate unused false
byte_padded zero byte h e = refl
byte_padded (suc zero) byte h e =
    let z0 : eqb (byte % 2) 1 ≡ false = ne_eqb (byte % 2) 1 (λ n. absurd (omega arith)) in
    rw (z0) refl
byte_padded (suc (suc zero)) byte h e =
    let z0 : eqb (byte % 2) 1 ≡ false = ne_eqb (byte % 2) 1 (λ n. absurd (omega arith)) in
    let z1 : eqb (byte / 2 % 2) 1 ≡ false = ne_eqb (byte / 2 % 2) 1 (λ n. absurd (omega arith)) in
    rw (z0, z1) refl
byte_padded (suc (suc (suc zero))) byte h e =
    let z0 : eqb (byte % 2) 1 ≡ false = ne_eqb (byte % 2) 1 (λ n. absurd (omega arith)) in
    let z1 : eqb (byte / 2 % 2) 1 ≡ false = ne_eqb (byte / 2 % 2) 1 (λ n. absurd (omega arith)) in
    let z2 : eqb (byte / 4 % 2) 1 ≡ false = ne_eqb (byte / 4 % 2) 1 (λ n. absurd (omega arith)) in
    rw (z0, z1, z2) refl
byte_padded (suc (suc (suc (suc zero)))) byte h e =
    let z0 : eqb (byte % 2) 1 ≡ false = ne_eqb (byte % 2) 1 (λ n. absurd (omega arith)) in
    let z1 : eqb (byte / 2 % 2) 1 ≡ false = ne_eqb (byte / 2 % 2) 1 (λ n. absurd (omega arith)) in
    let z2 : eqb (byte / 4 % 2) 1 ≡ false = ne_eqb (byte / 4 % 2) 1 (λ n. absurd (omega arith)) in
    let z3 : eqb (byte / 8 % 2) 1 ≡ false = ne_eqb (byte / 8 % 2) 1 (λ n. absurd (omega arith)) in
    rw (z0, z1, z2, z3) refl
byte_padded (suc (suc (suc (suc (suc zero))))) byte h e =
    let z0 : eqb (byte % 2) 1 ≡ false = ne_eqb (byte % 2) 1 (λ n. absurd (omega arith)) in
    let z1 : eqb (byte / 2 % 2) 1 ≡ false = ne_eqb (byte / 2 % 2) 1 (λ n. absurd (omega arith)) in
    let z2 : eqb (byte / 4 % 2) 1 ≡ false = ne_eqb (byte / 4 % 2) 1 (λ n. absurd (omega arith)) in
    let z3 : eqb (byte / 8 % 2) 1 ≡ false = ne_eqb (byte / 8 % 2) 1 (λ n. absurd (omega arith)) in
    let z4 : eqb (byte / 16 % 2) 1 ≡ false = ne_eqb (byte / 16 % 2) 1 (λ n. absurd (omega arith)) in
    rw (z0, z1, z2, z3, z4) refl
byte_padded (suc (suc (suc (suc (suc (suc zero)))))) byte h e =
    let z0 : eqb (byte % 2) 1 ≡ false = ne_eqb (byte % 2) 1 (λ n. absurd (omega arith)) in
    let z1 : eqb (byte / 2 % 2) 1 ≡ false = ne_eqb (byte / 2 % 2) 1 (λ n. absurd (omega arith)) in
    let z2 : eqb (byte / 4 % 2) 1 ≡ false = ne_eqb (byte / 4 % 2) 1 (λ n. absurd (omega arith)) in
    let z3 : eqb (byte / 8 % 2) 1 ≡ false = ne_eqb (byte / 8 % 2) 1 (λ n. absurd (omega arith)) in
    let z4 : eqb (byte / 16 % 2) 1 ≡ false = ne_eqb (byte / 16 % 2) 1 (λ n. absurd (omega arith)) in
    let z5 : eqb (byte / 32 % 2) 1 ≡ false = ne_eqb (byte / 32 % 2) 1 (λ n. absurd (omega arith)) in
    rw (z0, z1, z2, z3, z4, z5) refl
byte_padded (suc (suc (suc (suc (suc (suc (suc zero))))))) byte h e =
    let z0 : eqb (byte % 2) 1 ≡ false = ne_eqb (byte % 2) 1 (λ n. absurd (omega arith)) in
    let z1 : eqb (byte / 2 % 2) 1 ≡ false = ne_eqb (byte / 2 % 2) 1 (λ n. absurd (omega arith)) in
    let z2 : eqb (byte / 4 % 2) 1 ≡ false = ne_eqb (byte / 4 % 2) 1 (λ n. absurd (omega arith)) in
    let z3 : eqb (byte / 8 % 2) 1 ≡ false = ne_eqb (byte / 8 % 2) 1 (λ n. absurd (omega arith)) in
    let z4 : eqb (byte / 16 % 2) 1 ≡ false = ne_eqb (byte / 16 % 2) 1 (λ n. absurd (omega arith)) in
    let z5 : eqb (byte / 32 % 2) 1 ≡ false = ne_eqb (byte / 32 % 2) 1 (λ n. absurd (omega arith)) in
    let z6 : eqb (byte / 64 % 2) 1 ≡ false = ne_eqb (byte / 64 % 2) 1 (λ n. absurd (omega arith)) in
    rw (z0, z1, z2, z3, z4, z5, z6) refl
byte_padded (suc (suc (suc (suc (suc (suc (suc (suc n)))))))) byte h e = absurd (omega arith)

-- the bits that are used
padded_from : (unused first : ℕ) (more : List ℕ) → unused < 8 → get_or (first ∷ more) (length more) 0 % 2 ^ unused ≡ 0 → (bits : List Bool) × (bits_of (first ∷ more) ≡ bits ++ replicate unused false)
padded_from unused first [] h e = (take (8 - unused) (bits_of_byte first), append-nil (bits_of_byte first) ∙ byte_padded unused first h e)
padded_from unused first (second ∷ more) h e =
    let i = padded_from unused second more h e in
    (bits_of_byte first ++ i.0, ap (λ (l : List Bool). bits_of_byte first ++ l) i.1 ∙ sym (append_assoc (bits_of_byte first) i.0 (replicate unused false)))

pub taken : (unused : ℕ) (body : List ℕ) (bits : List Bool) → bits_of body ≡ bits ++ replicate unused false → bits_value (unused ∷ body) ≡ bits
taken unused body bits e =
    let len : length bits ≡ bit_count (unused ∷ body) = omega (arith, ap (λ (l : List Bool). length l) e, length-append bits (replicate unused false), length-replicate unused false, length-bits_of body) in
    ap (take (bit_count (unused ∷ body))) e ∙ take_at bits (replicate unused false) (bit_count (unused ∷ body)) len

nothing : (unused : ℕ) → unused ≡ 0 → [] ≡ replicate unused false
nothing unused e = rw e refl

pub bits_spelled : (content : List ℕ) → is_bit_string content ≡ true → BitsSpell (bits_value content) content
bits_spelled [] h = absurd cc
bits_spelled (unused ∷ []) h =
    let zero_is : unused ≡ 0 = eqb-true unused 0 h in
    record {
      unused = unused;
      body = [];
      counted = refl;
      few = omega arith;
      padded = subst (λ (l : List Bool). [] ≡ l ++ replicate unused false) (sym (taken unused [] [] (nothing unused zero_is))) (nothing unused zero_is);
    }
bits_spelled (unused ∷ first ∷ more) h =
    let a = and_parts (ltb unused 8) (eqb (get_or (first ∷ more) (length more) 0 % 2 ^ unused) 0) h in
    let few = ltb-true unused 8 a.0 in
    let p = padded_from unused first more few (eqb-true (get_or (first ∷ more) (length more) 0 % 2 ^ unused) 0 a.1) in
    record {
      unused = unused;
      body = first ∷ more;
      counted = refl;
      few = few;
      padded = p.1 ∙ ap (λ (l : List Bool). l ++ replicate unused false) (sym (taken unused (first ∷ more) p.0 p.1));
    }

-- ---- bits have one content

bit_is : (k n : ℕ) → cond (eqb (k % 2) 1) n 0 ≡ k % 2 * n
bit_is k n = by (k % 2) (omega arith)
  where
    by : (r : ℕ) → r < 2 → cond (eqb r 1) n 0 ≡ r * n
    by zero h = omega arith
    by (suc zero) h = omega arith
    by (suc (suc r)) h = absurd (omega (arith, h))

byte_again : (x : ℕ) → x < 256 → bits_number (bits_of_byte x) 8 ≡ x
byte_again x h = omega (arith, h, bit_is (x / 128) 128, bit_is (x / 64) 64, bit_is (x / 32) 32, bit_is (x / 16) 16, bit_is (x / 8) 8, bit_is (x / 4) 4, bit_is (x / 2) 2, bit_is x 1)

abbrev first_eight : List Bool → List Bool
first_eight (a ∷ b ∷ c ∷ d ∷ e ∷ f ∷ g ∷ h ∷ more) = a ∷ b ∷ c ∷ d ∷ e ∷ f ∷ g ∷ h ∷ []
first_eight _ = []

abbrev past_eight : List Bool → List Bool
past_eight (a ∷ b ∷ c ∷ d ∷ e ∷ f ∷ g ∷ h ∷ more) = more
past_eight _ = []

bits_of_one : (xs ys : List ℕ) → length xs ≡ length ys → IsBytes xs → IsBytes ys → bits_of xs ≡ bits_of ys → xs ≡ ys
bits_of_one [] [] l hx hy e = refl
bits_of_one [] (y ∷ ys) l hx hy e = absurd (omega (arith, l))
bits_of_one (x ∷ xs) [] l hx hy e = absurd (omega (arith, l))
bits_of_one (x ∷ xs) (y ∷ ys) l hx hy e =
    let same : x ≡ y = sym (byte_again x (hx zero)) ∙ ap (λ (b : List Bool). bits_number (first_eight b) 8) e ∙ byte_again y (hy zero) in
    ap (λ (n : ℕ). n ∷ xs) same ∙ ap (λ (t : List ℕ). y ∷ t) (bits_of_one xs ys (omega (arith, l)) (λ i. hx (suc i)) (λ i. hy (suc i)) (ap past_eight e))

body_bytes : (a : List ℕ) (unused : ℕ) (body : List ℕ) → a ≡ unused ∷ body → IsBytes a → IsBytes body
body_bytes a unused body e h i = subst (λ (t : List ℕ). get_or t (suc i) 0 < 256) e (h (suc i))

pub once_bits : (bits : List Bool) (a b : List ℕ) → IsBytes a → IsBytes b → BitsSpell bits a → BitsSpell bits b → a ≡ b
once_bits bits a b ba bb s t =
    let ls : 8 * length s.body ≡ length bits + s.unused = sym (length-bits_of s.body) ∙ ap (λ (l : List Bool). length l) s.padded ∙ length-append bits (replicate s.unused false) ∙ ap (λ (n : ℕ). length bits + n) (length-replicate s.unused false) in
    let lt : 8 * length t.body ≡ length bits + t.unused = sym (length-bits_of t.body) ∙ ap (λ (l : List Bool). length l) t.padded ∙ length-append bits (replicate t.unused false) ∙ ap (λ (n : ℕ). length bits + n) (length-replicate t.unused false) in
    let unused : s.unused ≡ t.unused = omega (arith, ls, lt, s.few, t.few) in
    let as_long : length s.body ≡ length t.body = omega (arith, ls, lt, s.few, t.few) in
    let bodies = bits_of_one s.body t.body as_long (body_bytes a s.unused s.body s.counted ba) (body_bytes b t.unused t.body t.counted bb) (s.padded ∙ ap (λ (n : ℕ). bits ++ replicate n false) unused ∙ sym t.padded) in
    s.counted ∙ ap (λ (n : ℕ). n ∷ s.body) unused ∙ ap (λ (l : List ℕ). t.unused ∷ l) bodies ∙ sym t.counted

-- ---- bits are determined by their number and their count

pow_some : (w : ℕ) → 0 < 2 ^ w
pow_some w = omega (arith, suc_ones w)

pow_twice : (w : ℕ) → 2 ^ suc w ≡ 2 ^ w + 2 ^ w
pow_twice w = omega (arith, pow-suc 2 w)

bits_cons : (b : Bool) (bits : List Bool) (w : ℕ) → bits_number (b ∷ bits) (suc w) ≡ cond b (2 ^ w) 0 + bits_number bits w
bits_cons b bits w = let e : suc w - 1 ≡ w = omega arith in ap (λ (n : ℕ). cond b (2 ^ n) 0 + bits_number bits n) e

pub bits_bound : (bits : List Bool) (w : ℕ) → length bits ≤ w → bits_number bits w < 2 ^ w
bits_bound [] w h = pow_some w
bits_bound (b ∷ bits) zero h = absurd (omega (arith, h))
bits_bound (true ∷ bits) (suc w) h = omega (arith, bits_cons true bits w, bits_bound bits w (omega (arith, h)), pow_twice w)
bits_bound (false ∷ bits) (suc w) h = omega (arith, bits_cons false bits w, bits_bound bits w (omega (arith, h)), pow_twice w)

pub bits_one : (bits others : List Bool) (w : ℕ) → length bits ≤ w → length bits ≡ length others → bits_number bits w ≡ bits_number others w → bits ≡ others
bits_one [] [] w h l e = refl
bits_one [] (o ∷ others) w h l e = absurd (omega (arith, l))
bits_one (b ∷ bits) [] w h l e = absurd (omega (arith, l))
bits_one (b ∷ bits) (o ∷ others) zero h l e = absurd (omega (arith, h))
bits_one (true ∷ bits) (true ∷ others) (suc w) h l e =
    ap (λ (r : List Bool). true ∷ r) (bits_one bits others w (omega (arith, h)) (omega (arith, l)) (omega (arith, e, bits_cons true bits w, bits_cons true others w)))
bits_one (false ∷ bits) (false ∷ others) (suc w) h l e =
    ap (λ (r : List Bool). false ∷ r) (bits_one bits others w (omega (arith, h)) (omega (arith, l)) (omega (arith, e, bits_cons false bits w, bits_cons false others w)))
bits_one (true ∷ bits) (false ∷ others) (suc w) h l e =
    absurd (omega (arith, e, bits_cons true bits w, bits_cons false others w, bits_bound others w (omega (arith, h, l))))
bits_one (false ∷ bits) (true ∷ others) (suc w) h l e =
    absurd (omega (arith, e, bits_cons false bits w, bits_cons true others w, bits_bound bits w (omega (arith, h))))

-- ---- the number of bits is that of the bytes that they fill

-- zeros behind bits add nothing
zeros_add : (bits : List Bool) (unused w : ℕ) → bits_number (bits ++ replicate unused false) w ≡ bits_number bits w
zeros_add [] zero w = refl
zeros_add [] (suc unused) w = omega (arith, zeros_add [] unused (w - 1))
zeros_add (bit ∷ bits) unused w = ap (λ (n : ℕ). cond bit (2 ^ (w - 1)) 0 + n) (zeros_add bits unused (w - 1))

-- a bit of a product
cond_times : (bit : Bool) (n m : ℕ) → cond bit n 0 * m ≡ cond bit (n * m) 0
cond_times true n m = refl
cond_times false n m = omega arith

-- bits before others
number_append : (bits others : List Bool) (m : ℕ) → bits_number (bits ++ others) (length bits + m) ≡ bits_number bits (length bits) * 2 ^ m + bits_number others m
number_append [] others m = omega (arith, ap (bits_number others) (zero_plus m))
  where
    zero_plus : (k : ℕ) → 0 + k ≡ k
    zero_plus k = omega arith
number_append (bit ∷ bits) others m =
    let n = length bits in
    let total : suc n + m ≡ suc (n + m) = omega arith in
    let head : cond bit (2 ^ (n + m)) 0 ≡ cond bit (2 ^ n) 0 * 2 ^ m = ap (λ (k : ℕ). cond bit k 0) (pow-add 2 n m) ∙ sym (cond_times bit (2 ^ n) (2 ^ m)) in
    let both : bits_number (bit ∷ bits) (suc n) * 2 ^ m ≡ cond bit (2 ^ n) 0 * 2 ^ m + bits_number bits n * 2 ^ m =
    ap (λ (k : ℕ). k * 2 ^ m) (bits_cons bit bits n) ∙ add-mul (cond bit (2 ^ n) 0) (bits_number bits n) (2 ^ m) in
    ap (bits_number (bit ∷ (bits ++ others))) total ∙ bits_cons bit (bits ++ others) (n + m) ∙ omega (arith, head, both, number_append bits others m)

-- among more bits the number is so much greater
pub widened : (bits : List Bool) (w : ℕ) → length bits ≤ w → bits_number bits w ≡ bits_number bits (length bits) * 2 ^ (w - length bits)
widened bits w h =
    let m = w - length bits in
    let total : length bits + m ≡ w = omega (arith, h) in
    ap (bits_number bits) (sym total) ∙ ap (λ (b : List Bool). bits_number b (length bits + m)) (sym (append-nil bits)) ∙ number_append bits [] m ∙ omega arith

-- eight bits a byte
pub pow_256 : (n : ℕ) → 2 ^ (8 * n) ≡ 256 ^ n
pow_256 zero = refl
pow_256 (suc n) =
    let total : 8 * suc n ≡ 8 + 8 * n = omega arith in
    ap (λ (k : ℕ). 2 ^ k) total ∙ pow-add 2 8 (8 * n) ∙ omega (arith, pow_256 n, pow-suc 256 n)

-- the bits of bytes make their number
bytes_number : (bytes : List ℕ) → IsBytes bytes → bits_number (bits_of bytes) (8 * length bytes) ≡ number bytes
bytes_number [] h = refl
bytes_number (byte ∷ bytes) h =
    let m = 8 * length bytes in
    let total : 8 * length (byte ∷ bytes) ≡ 8 + m = omega arith in
    let power : 2 ^ m ≡ 256 ^ length bytes = pow_256 (length bytes) in
    ap (bits_number (bits_of_byte byte ++ bits_of bytes)) total ∙ number_append (bits_of_byte byte) (bits_of bytes) m
    ∙ ap (λ (k : ℕ). k * 2 ^ m + bits_number (bits_of bytes) m) (byte_again byte (h zero))
    ∙ ap (λ (k : ℕ). byte * k + bits_number (bits_of bytes) m) power ∙ ap (λ (k : ℕ). byte * 256 ^ length bytes + k) (bytes_number bytes (λ i. h (suc i)))

-- The number of a content's bytes is that of its bits, with the unused ones behind them.
pub filled : (unused : ℕ) (body : List ℕ) → is_bit_string (unused ∷ body) ≡ true → IsBytes body → number body ≡ bits_number (bits_value (unused ∷ body)) (length (bits_value (unused ∷ body))) * 2 ^ unused
filled unused body valid bytes =
    let s = bits_spelled (unused ∷ body) valid in
    let bits = bits_value (unused ∷ body) in
    let n = length bits in
    let body_is : s.body ≡ body = sym (ap (λ (l : List ℕ). drop 1 l) s.counted) in
    let unused_is : s.unused ≡ unused = sym (ap (λ (l : List ℕ). get_or l 0 0) s.counted) in
    let padded : bits_of body ≡ bits ++ replicate unused false = ap bits_of (sym body_is) ∙ s.padded ∙ ap (λ (k : ℕ). bits ++ replicate k false) unused_is in
    let total : 8 * length body ≡ n + unused =
    sym (length-bits_of body) ∙ ap (λ (l : List Bool). length l) padded ∙ length-append bits (replicate unused false) ∙ ap (λ (k : ℕ). n + k) (length-replicate unused false) in
    sym (bytes_number body bytes) ∙ ap (bits_number (bits_of body)) total ∙ ap (λ (l : List Bool). bits_number l (n + unused)) padded
    ∙ number_append bits (replicate unused false) unused ∙ ap (λ (k : ℕ). bits_number bits n * 2 ^ unused + k) (zeros_add [] unused unused) ∙ omega arith

-- a content spells as many bits as it counts
pub spelled_count : (bits : List Bool) (content : List ℕ) → BitsSpell bits content → length bits ≡ bit_count content
spelled_count bits content s =
    let e = ap (λ (l : List Bool). length l) s.padded in
    omega (arith, s.few, e, length-append bits (replicate s.unused false), length-replicate s.unused false, length-bits_of s.body, ap bit_count s.counted)
