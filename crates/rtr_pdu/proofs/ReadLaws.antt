-- A whole PDU without a fault is read as what its type says.
use Rattle.std.specs.Prelude.{◌≡◌, ℕ, ◌+◌, ◌-◌, ◌*◌, ◌/◌, ◌%◌, ◌<◌, ◌≤◌, ◌^◌, Bool, true, false, not, ◌==◌, List, [], ◌∷◌, ◌++◌, length, take, drop, slice_index, refl}
use Rattle.std.proofs.Common.{sym, ap, ◌∙◌, subst, arith, append_assoc, zero, suc, inl, inr}
use Rattle.std.proofs.Math.Nat.{div-eq_of_lt, mul-add-div_right, mul-add-mod_self_right, mul_assoc, pow-succ', one-le-pow, div-one}
use Rattle.std.proofs.lemmas.List.{length-drop, length-take, length-take-le, get_or-drop, get_or-take, get_or_past, take-append-drop, drop-drop, drop_more, drop_all, take_all}
use Rattle.std.proofs.lemmas.Bool.{cases_lt}
use Rattle.std.proofs.lemmas.Bool.Decides.{nat_tests}
use Rattle.std.specs.Int.{byte_at, bytes_high_first}
use Rattle.std.specs.Str.{IsUtf8}
use Rattle.byteorder.specs.Endian.{big_from, big_bytes, big_number}
use Rattle.byteorder.specs.Numbers.{big_from-cons, big_from-lt}
use Rattle.rtr_pdu.specs.Version.{version_number, is_v0}
use Rattle.rtr_pdu.specs.declared.version.Version.TheVariants.{V0, V1}
use Rattle.rtr_pdu.specs.declared.kind.Kind.TheVariants as kinds
use Rattle.rtr_pdu.specs.Kind.{fixed_len}
use Rattle.rtr_pdu.specs.Judging.{end_of_data_in}
use Rattle.rtr_pdu.specs.declared.version.Version.{Version}
use Rattle.rtr_pdu.specs.Payloads.{AreBytes}
use Rattle.rtr_pdu.specs.Reading.{number_at, is_odd, v4_in, v6_in, key_in, report_in}
use Rattle.rtr_pdu.specs.declared.unit.Unit.TheVariants.{SerialNotify, SerialQuery, ResetQuery, CacheResponse, Prefix, CacheReset, RouterKey, ErrorReport}
use Rattle.rtr_pdu.specs.Unit.{Ignored, AreBits, header, flag, Reads}
use Rattle.rtr_pdu.specs.Stream.{version_of, type_of, length_of, IsRecord, IsReport}

-- the bytes of the number in bytes are the bytes
byte_at-div : (k x : ℕ) → byte_at k x ≡ x / 256 ^ k % 256
byte_at-div zero x = ap (λ (y : ℕ). y % 256) (sym (div-one x))
byte_at-div (suc k) x = refl

-- a power of 256 is not zero
some_power : (n : ℕ) → 0 < 256 ^ n
some_power n = let h = one-le-pow n 256 (omega arith) in omega arith

-- the low bytes of a number do not depend on what is above them
low_bytes : (k c r : ℕ) → bytes_high_first k (c * 256 ^ k + r) ≡ bytes_high_first k r
low_bytes zero c r = refl
low_bytes (suc k) c r =
    let shift : c * 256 ^ suc k + r ≡ c * 256 * 256 ^ k + r =
    ap (λ (x : ℕ). x + r) (ap (λ (p : ℕ). c * p) (pow-succ' 256 k) ∙ sym (mul_assoc c 256 (256 ^ k))) in
    let top : byte_at k (c * 256 * 256 ^ k + r) ≡ byte_at k r =
    byte_at-div k (c * 256 * 256 ^ k + r) ∙ ap (λ (x : ℕ). x % 256) (mul-add-div_right (some_power k) (c * 256) r)
    ∙ mul-add-mod_self_right c 256 (r / 256 ^ k) ∙ sym (byte_at-div k r) in
    ap (bytes_high_first (suc k)) shift ∙ (λ i. top i ∷ low_bytes k (c * 256) r i)

-- The bytes of the number in n bytes are these bytes.
pub bytes_back : (n : ℕ) (xs : List ℕ) → AreBytes xs → n ≤ length xs → big_bytes n (big_number n xs) ≡ take n xs
bytes_back zero xs h l = refl
bytes_back (suc n) [] h l = absurd (omega (arith, l))
bytes_back (suc n) (x ∷ xs) h l =
    let r : ℕ = big_from 0 n xs in
    let value : x * 256 ^ n + big_from 1 n (x ∷ xs) ≡ x * 256 ^ n + big_from 0 n xs = ap (λ (y : ℕ). x * 256 ^ n + y) (big_from-cons 0 n x xs) in
    let small : big_from 0 n xs < 256 ^ n = big_from-lt 0 n xs (λ i. h (suc i)) in
    let byte : x < 256 = h 0 in
    let fits : (x + 0) % 256 ≡ x = omega (arith, byte) in
    let top : byte_at n (x * 256 ^ n + big_from 0 n xs) ≡ x =
    byte_at-div n (x * 256 ^ n + big_from 0 n xs)
    ∙ ap (λ (y : ℕ). y % 256) (mul-add-div_right (some_power n) x (big_from 0 n xs) ∙ ap (λ (y : ℕ). x + y) (div-eq_of_lt small)) ∙ fits in
    let tail = low_bytes n x (big_from 0 n xs) ∙ bytes_back n xs (λ i. h (suc i)) (omega (arith, l)) in
    ap (bytes_high_first (suc n)) value ∙ (λ i. top i ∷ tail i)

-- what is left of bytes are bytes
pub AreBytes-drop : (n : ℕ) (xs : List ℕ) → AreBytes xs → AreBytes (drop n xs)
AreBytes-drop n xs h i = rw (get_or-drop n xs i 0) (h (n + i))

-- a front of bytes are bytes
pub AreBytes-take : (n : ℕ) (bytes : List ℕ) → AreBytes bytes → AreBytes (take n bytes)
AreBytes-take n bytes each i =
    elim (cases_lt i n) [
      | inl here ↦ (let e = get_or-take n bytes i 0 here in let b : slice_index bytes i < 256 = each i in omega (arith, e, b))
      | inr past ↦ elim (cases_lt i (length (take n bytes))) [
        | inl inside ↦ (let l = length-take n bytes in absurd (omega (arith, l, inside, past)))
        | inr outside ↦ (let e = get_or_past (take n bytes) i 0 outside in omega (arith, e))
      ]
    ]

-- a number at a place, and what follows it
module _ (bytes : List ℕ) (each : AreBytes bytes) where
  -- a number of n bytes is below 256 to the n
  pub number_fits : (n i : ℕ) → number_at n i bytes < 256 ^ n
  number_fits n i = big_from-lt 0 n (drop i bytes) (AreBytes-drop i bytes each)

  -- the bytes at a place are a number and what follows it
  pub number_then : (n i : ℕ) → i + n ≤ length bytes → drop i bytes ≡ big_bytes n (number_at n i bytes) ++ drop (i + n) bytes
  number_then n i h =
      let room : n ≤ length (drop i bytes) = omega (arith, length-drop i bytes, h) in
      sym (take-append-drop n (drop i bytes))
      ∙ (λ j. sym (bytes_back n (drop i bytes) (AreBytes-drop i bytes each) room) j ++ drop-drop n i bytes j)

  -- the bytes at a place are n of them and what follows
  pub piece_then : (n i : ℕ) → drop i bytes ≡ take n (drop i bytes) ++ drop (i + n) bytes
  piece_then n i = sym (take-append-drop n (drop i bytes)) ∙ ap (λ x. take n (drop i bytes) ++ x) (drop-drop n i bytes)

-- flags
odd_parts : (b : Bool) (n k : ℕ) → (b ≡ true → n ≡ 1 + 2 * k) → (b ≡ false → n ≡ 2 * k) → flag b + 2 * k ≡ n
odd_parts true n k odd even = sym (odd refl)
odd_parts false n k odd even = let e : n ≡ 2 * k = even refl in omega (arith, e)

-- an odd number
is_one : (n k : ℕ) → n ≡ n % 2 + 2 * k → (n % 2 == 1) ≡ true → n ≡ 1 + 2 * k
is_one n k e h = let one : n % 2 ≡ 1 = grind (arith, nat_tests) in omega (arith, one, e)

-- an even number
is_none : (n k : ℕ) → n ≡ n % 2 + 2 * k → (n % 2 == 1) ≡ false → n ≡ 2 * k
is_none n k e h = let none : n % 2 ≡ 0 = grind (arith, nat_tests) in omega (arith, none, e)

-- a byte of flags is its lowest bit and the others
pub flag_parts : (n : ℕ) → flag (is_odd n) + 2 * (n / 2) ≡ n
flag_parts n =
    let e : n ≡ n % 2 + 2 * (n / 2) = omega arith in
    odd_parts (is_odd n) n (n / 2) (is_one n (n / 2) e) (is_none n (n / 2) e)

-- what is ignored of a PDU with flags
abbrev flagged : List ℕ → ℕ → ℕ → Ignored
flagged bytes at byte = record { header = number_at 2 2 bytes; flags = slice_index bytes at / 2; byte = slice_index bytes byte }

-- it fits its bits
bits_flagged : (bytes : List ℕ) (at byte : ℕ) → AreBytes bytes → AreBits (flagged bytes at byte)
bits_flagged bytes at byte each =
    let flags : slice_index bytes at < 256 = each at in
    record { header = number_fits bytes each 2 2; flags = omega (arith, flags); byte = each byte }

-- the four bytes before an address
record_head : (bytes : List ℕ) → 12 ≤ length bytes
    → drop 8 bytes ≡ (flag (is_odd (slice_index bytes 8)) + 2 * (slice_index bytes 8 / 2)) ∷ slice_index bytes 9 ∷ slice_index bytes 10 ∷ slice_index bytes 11 ∷ drop 12 bytes
record_head bytes h =
    drop_more bytes 8 0 (omega (arith, h)) ∙ (λ i. sym (flag_parts (slice_index bytes 8)) i ∷ drop_more bytes 9 0 (omega (arith, h)) i)
    ∙ (λ i. (flag (is_odd (slice_index bytes 8)) + 2 * (slice_index bytes 8 / 2)) ∷ slice_index bytes 9 ∷ drop_more bytes 10 0 (omega (arith, h)) i)
    ∙ (λ i. (flag (is_odd (slice_index bytes 8)) + 2 * (slice_index bytes 8 / 2)) ∷ slice_index bytes 9 ∷ slice_index bytes 10 ∷ drop_more bytes 11 0 (omega (arith, h)) i)

-- what is ignored of a header
abbrev with_header : ℕ → Ignored
with_header n = record { header = n; flags = 0; byte = 0 }

-- it fits its bits
bits_header : (bytes : List ℕ) → AreBytes bytes → AreBits (with_header (number_at 2 2 bytes))
bits_header bytes each = record { header = number_fits bytes each 2 2; flags = omega arith; byte = omega arith }

-- a whole PDU of a type
pub record IsFrame (version : Version) (kind : ℕ) (bytes : List ℕ) : Type 0 where
  pub each : AreBytes bytes
  pub version_is : version_of bytes ≡ version_number version
  pub type_is : type_of bytes ≡ kind
  pub size : length bytes ≡ length_of bytes
  pub eight : 8 ≤ length bytes

module _ (version : Version) where
  frame_is : (kind : ℕ) (bytes : List ℕ) (f : IsFrame version kind bytes) → bytes ≡ header version kind (number_at 2 2 bytes) (length bytes) ++ drop 8 bytes
  frame_is kind bytes f =
      let len : big_bytes 4 (number_at 4 4 bytes) ≡ big_bytes 4 (length bytes) = ap (big_bytes 4) (sym f.size) in
      drop_more bytes 0 0 (omega (arith, f.eight)) ∙ (λ i. f.version_is i ∷ drop_more bytes 1 0 (omega (arith, f.eight)) i)
      ∙ (λ i. version_number version ∷ f.type_is i ∷ number_then bytes f.each 2 2 (omega (arith, f.eight)) i)
      ∙ (λ i. version_number version ∷ kind ∷ big_bytes 2 (number_at 2 2 bytes) ++ number_then bytes f.each 4 4 (omega (arith, f.eight)) i)
      ∙ (λ i. version_number version ∷ kind ∷ big_bytes 2 (number_at 2 2 bytes) ++ (len i ++ drop 8 bytes))

  frame_of : (kind len : ℕ) (bytes : List ℕ) (f : IsFrame version kind bytes) → length bytes ≡ len → bytes ≡ header version kind (number_at 2 2 bytes) len ++ drop 8 bytes
  frame_of kind len bytes f e = frame_is kind bytes f ∙ ap (λ n. header version kind (number_at 2 2 bytes) n ++ drop 8 bytes) e

  -- PDUs that are a header and numbers of 4 bytes
  pub reads_0 : (bytes : List ℕ) → IsFrame version 0 bytes → length bytes ≡ 12 → Reads version (SerialNotify (number_at 2 2 bytes) (number_at 4 8 bytes)) bytes
  reads_0 bytes f e = record {
    of_version = refl;
    fits = (number_fits bytes f.each 2 2, number_fits bytes f.each 4 8);
    ignored = with_header 0;
    bits = record { header = omega arith; flags = omega arith; byte = omega arith };
    bytes_are = frame_of 0 12 bytes f e ∙ ap (λ x. header version 0 (number_at 2 2 bytes) 12 ++ x) (number_then bytes f.each 4 8 (omega (arith, e)) ∙ ap (λ x. big_bytes 4 (number_at 4 8 bytes) ++ x) (drop_all 12 bytes (omega (arith, e))));
  }

  pub reads_1 : (bytes : List ℕ) → IsFrame version 1 bytes → length bytes ≡ 12 → Reads version (SerialQuery (number_at 2 2 bytes) (number_at 4 8 bytes)) bytes
  reads_1 bytes f e = record {
    of_version = refl;
    fits = (number_fits bytes f.each 2 2, number_fits bytes f.each 4 8);
    ignored = with_header 0;
    bits = record { header = omega arith; flags = omega arith; byte = omega arith };
    bytes_are = frame_of 1 12 bytes f e ∙ ap (λ x. header version 1 (number_at 2 2 bytes) 12 ++ x) (number_then bytes f.each 4 8 (omega (arith, e)) ∙ ap (λ x. big_bytes 4 (number_at 4 8 bytes) ++ x) (drop_all 12 bytes (omega (arith, e))));
  }

  pub reads_2 : (bytes : List ℕ) → IsFrame version 2 bytes → length bytes ≡ 8 → Reads version ResetQuery bytes
  reads_2 bytes f e = record {
    of_version = refl;
    fits = tt;
    ignored = with_header (number_at 2 2 bytes);
    bits = bits_header bytes f.each;
    bytes_are = frame_of 2 8 bytes f e ∙ ap (λ x. header version 2 (number_at 2 2 bytes) 8 ++ x) (drop_all 8 bytes (omega (arith, e)));
  }

  pub reads_3 : (bytes : List ℕ) → IsFrame version 3 bytes → length bytes ≡ 8 → Reads version (CacheResponse (number_at 2 2 bytes)) bytes
  reads_3 bytes f e = record {
    of_version = refl;
    fits = number_fits bytes f.each 2 2;
    ignored = with_header 0;
    bits = record { header = omega arith; flags = omega arith; byte = omega arith };
    bytes_are = frame_of 3 8 bytes f e ∙ ap (λ x. header version 3 (number_at 2 2 bytes) 8 ++ x) (drop_all 8 bytes (omega (arith, e)));
  }

  pub reads_8 : (bytes : List ℕ) → IsFrame version 8 bytes → length bytes ≡ 8 → Reads version CacheReset bytes
  reads_8 bytes f e = record {
    of_version = refl;
    fits = tt;
    ignored = with_header (number_at 2 2 bytes);
    bits = bits_header bytes f.each;
    bytes_are = frame_of 8 8 bytes f e ∙ ap (λ x. header version 8 (number_at 2 2 bytes) 8 ++ x) (drop_all 8 bytes (omega (arith, e)));
  }

  pub reads_4 : (bytes : List ℕ) → IsFrame version 4 bytes → length bytes ≡ 20 → IsRecord 32 bytes → Reads version (Prefix (is_odd (slice_index bytes 8)) (v4_in bytes)) bytes
  reads_4 bytes f e sound = record {
    of_version = refl;
    fits = record {
      prefix = record { in_family = omega (arith, sound.0, sound.1); address = number_fits bytes f.each 4 12; no_host_bits = sound.2 };
      not_shorter = sound.0;
      in_family = sound.1;
      asn = number_fits bytes f.each 4 16;
    };
    ignored = flagged bytes 8 11;
    bits = bits_flagged bytes 8 11 f.each;
    bytes_are =
        frame_of 4 20 bytes f e
        ∙ ap (λ x. header version 4 (number_at 2 2 bytes) 20 ++ x) (record_head bytes (omega (arith, e))
        ∙ ap (λ x. (flag (is_odd (slice_index bytes 8)) + 2 * (slice_index bytes 8 / 2)) ∷ slice_index bytes 9 ∷ slice_index bytes 10 ∷ slice_index bytes 11 ∷ x)
        (number_then bytes f.each 4 12 (omega (arith, e)) ∙ ap (λ x. big_bytes 4 (number_at 4 12 bytes) ++ x)
        (number_then bytes f.each 4 16 (omega (arith, e)) ∙ ap (λ x. big_bytes 4 (number_at 4 16 bytes) ++ x) (drop_all 20 bytes (omega (arith, e))))));
  }

  pub reads_6 : (bytes : List ℕ) → IsFrame version 6 bytes → length bytes ≡ 32 → IsRecord 128 bytes → Reads version (Prefix (is_odd (slice_index bytes 8)) (v6_in bytes)) bytes
  reads_6 bytes f e sound = record {
    of_version = refl;
    fits = record {
      prefix = record { in_family = omega (arith, sound.0, sound.1); address = number_fits bytes f.each 16 12; no_host_bits = sound.2 };
      not_shorter = sound.0;
      in_family = sound.1;
      asn = number_fits bytes f.each 4 28;
    };
    ignored = flagged bytes 8 11;
    bits = bits_flagged bytes 8 11 f.each;
    bytes_are =
        frame_of 6 32 bytes f e
        ∙ ap (λ x. header version 6 (number_at 2 2 bytes) 32 ++ x) (record_head bytes (omega (arith, e))
        ∙ ap (λ x. (flag (is_odd (slice_index bytes 8)) + 2 * (slice_index bytes 8 / 2)) ∷ slice_index bytes 9 ∷ slice_index bytes 10 ∷ slice_index bytes 11 ∷ x)
        (number_then bytes f.each 16 12 (omega (arith, e)) ∙ ap (λ x. big_bytes 16 (number_at 16 12 bytes) ++ x)
        (number_then bytes f.each 4 28 (omega (arith, e)) ∙ ap (λ x. big_bytes 4 (number_at 4 28 bytes) ++ x) (drop_all 32 bytes (omega (arith, e))))));
  }

  -- a Router Key
  pub reads_9 : (bytes : List ℕ) → IsFrame version 9 bytes → not (is_v0 version) ≡ true → 32 ≤ length bytes → length bytes ≤ 4096 → Reads version (RouterKey (key_in bytes)) bytes
  reads_9 bytes f keys low high =
      let rest : length (drop 32 bytes) ≡ length bytes - 32 = length-drop 32 bytes in
      let size : length bytes ≡ 32 + length (drop 32 bytes) = omega (arith, rest, low) in
      let after : length (drop 8 bytes) ≡ length bytes - 8 = length-drop 8 bytes in
      let len : big_bytes 4 (number_at 4 4 bytes) ≡ big_bytes 4 (32 + length (drop 32 bytes)) = ap (big_bytes 4) (sym f.size ∙ size) in
      let body : drop 8 bytes ≡ (take 20 (drop 8 bytes) ++ big_bytes 4 (number_at 4 28 bytes)) ++ drop 32 bytes =
      piece_then bytes f.each 20 8 ∙ ap (λ x. take 20 (drop 8 bytes) ++ x) (number_then bytes f.each 4 28 (omega (arith, low)))
      ∙ sym (append_assoc (take 20 (drop 8 bytes)) (big_bytes 4 (number_at 4 28 bytes)) (drop 32 bytes)) in
      record {
        of_version = keys;
        fits = (length-take-le 20 (drop 8 bytes) (omega (arith, after, low)), number_fits bytes f.each 4 28, omega (arith, rest, high), AreBytes-take 20 (drop 8 bytes) (AreBytes-drop 8 bytes f.each), AreBytes-drop 32 bytes f.each);
        ignored = flagged bytes 2 3;
        bits = bits_flagged bytes 2 3 f.each;
        bytes_are =
            drop_more bytes 0 0 (omega (arith, f.eight)) ∙ (λ i. f.version_is i ∷ drop_more bytes 1 0 (omega (arith, f.eight)) i)
            ∙ (λ i. version_number version ∷ f.type_is i ∷ drop_more bytes 2 0 (omega (arith, f.eight)) i)
            ∙ (λ i. version_number version ∷ 9 ∷ sym (flag_parts (slice_index bytes 2)) i ∷ drop_more bytes 3 0 (omega (arith, f.eight)) i)
            ∙ ap (λ x. version_number version ∷ 9 ∷ (flag (is_odd (slice_index bytes 2)) + 2 * (slice_index bytes 2 / 2)) ∷ slice_index bytes 3 ∷ x)
            (number_then bytes f.each 4 4 (omega (arith, f.eight)) ∙ (λ i. len i ++ body i));
      }

  -- an Error Report
  pub reads_10 : (bytes : List ℕ) → IsFrame version 10 bytes → 16 ≤ length bytes → length bytes ≤ 4096 → IsReport version bytes → Reads version (ErrorReport (report_in bytes)) bytes
  reads_10 bytes f low high sound =
      let c : ℕ = number_at 4 8 bytes in
      let t : ℕ = number_at 4 (12 + number_at 4 8 bytes) bytes in
      let sum : 16 + number_at 4 8 bytes + number_at 4 (12 + number_at 4 8 bytes) bytes ≡ length bytes = sound.0 ∙ sym f.size in
      let after : length (drop 12 bytes) ≡ length bytes - 12 = length-drop 12 bytes in
      let copy_len : length (take (number_at 4 8 bytes) (drop 12 bytes)) ≡ number_at 4 8 bytes = length-take-le (number_at 4 8 bytes) (drop 12 bytes) (omega (arith, after, sum)) in
      let tail : length (drop (16 + number_at 4 8 bytes) bytes) ≡ length bytes - (16 + number_at 4 8 bytes) = length-drop (16 + number_at 4 8 bytes) bytes in
      let text_len : length (drop (16 + number_at 4 8 bytes) bytes) ≡ number_at 4 (12 + number_at 4 8 bytes) bytes = omega (arith, tail, sum) in
      let text_is : take (number_at 4 (12 + number_at 4 8 bytes) bytes) (drop (16 + number_at 4 8 bytes) bytes) ≡ drop (16 + number_at 4 8 bytes) bytes =
      take_all (number_at 4 (12 + number_at 4 8 bytes) bytes) (drop (16 + number_at 4 8 bytes) bytes) (omega (arith, text_len)) in
      let place : 12 + number_at 4 8 bytes + 4 ≡ 16 + number_at 4 8 bytes = omega arith in
      let body : drop 12 bytes ≡ (take (number_at 4 8 bytes) (drop 12 bytes) ++ big_bytes 4 (length (drop (16 + number_at 4 8 bytes) bytes))) ++ drop (16 + number_at 4 8 bytes) bytes =
      piece_then bytes f.each (number_at 4 8 bytes) 12
      ∙ ap (λ x. take (number_at 4 8 bytes) (drop 12 bytes) ++ x) (number_then bytes f.each 4 (12 + number_at 4 8 bytes) (omega (arith, sum))
      ∙ (λ i. big_bytes 4 (sym text_len i) ++ drop (place i) bytes))
      ∙ sym (append_assoc (take (number_at 4 8 bytes) (drop 12 bytes)) (big_bytes 4 (length (drop (16 + number_at 4 8 bytes) bytes))) (drop (16 + number_at 4 8 bytes) bytes)) in
      let size : length bytes ≡ 16 + length (take (number_at 4 8 bytes) (drop 12 bytes)) + length (drop (16 + number_at 4 8 bytes) bytes) = omega (arith, copy_len, text_len, sum) in
      record {
        of_version = refl;
        fits = (number_fits bytes f.each 2 2, omega (arith, copy_len, text_len, sum, high), subst (λ x. IsUtf8 x) text_is sound.1, AreBytes-take (number_at 4 8 bytes) (drop 12 bytes) (AreBytes-drop 12 bytes f.each));
        ignored = with_header 0;
        bits = record { header = omega arith; flags = omega arith; byte = omega arith };
        bytes_are =
            frame_of 10 (16 + length (take (number_at 4 8 bytes) (drop 12 bytes)) + length (drop (16 + number_at 4 8 bytes) bytes)) bytes f size
            ∙ ap (λ x. header version 10 (number_at 2 2 bytes) (16 + length (take (number_at 4 8 bytes) (drop 12 bytes)) + length (drop (16 + number_at 4 8 bytes) bytes)) ++ x)
            (number_then bytes f.each 4 8 (omega (arith, low)) ∙ (λ i. big_bytes 4 (sym copy_len i) ++ body i));
      }

-- an End of Data without intervals
reads_7_in_0 : (bytes : List ℕ) → IsFrame V0 7 bytes → length bytes ≡ 12 → Reads V0 (end_of_data_in V0 bytes) bytes
reads_7_in_0 bytes f e = record {
  of_version = refl;
  fits = (number_fits bytes f.each 2 2, number_fits bytes f.each 4 8);
  ignored = with_header 0;
  bits = record { header = omega arith; flags = omega arith; byte = omega arith };
  bytes_are = frame_of V0 7 12 bytes f e ∙ ap (λ x. header V0 7 (number_at 2 2 bytes) 12 ++ x) (number_then bytes f.each 4 8 (omega (arith, e)) ∙ ap (λ x. big_bytes 4 (number_at 4 8 bytes) ++ x) (drop_all 12 bytes (omega (arith, e))));
}

-- one with them
reads_7_in_1 : (bytes : List ℕ) → IsFrame V1 7 bytes → length bytes ≡ 24 → Reads V1 (end_of_data_in V1 bytes) bytes
reads_7_in_1 bytes f e = record {
  of_version = refl;
  fits = (number_fits bytes f.each 2 2, number_fits bytes f.each 4 8, number_fits bytes f.each 4 12, number_fits bytes f.each 4 16, number_fits bytes f.each 4 20);
  ignored = with_header 0;
  bits = record { header = omega arith; flags = omega arith; byte = omega arith };
  bytes_are =
      let n : ℕ → List ℕ → List ℕ = λ i x. big_bytes 4 (number_at 4 i bytes) ++ x in
      frame_of V1 7 24 bytes f e
      ∙ ap (λ x. header V1 7 (number_at 2 2 bytes) 24 ++ x) (number_then bytes f.each 4 8 (omega (arith, e))
      ∙ ap (n 8) (number_then bytes f.each 4 12 (omega (arith, e)) ∙ ap (n 12) (number_then bytes f.each 4 16 (omega (arith, e))
      ∙ ap (n 16) (number_then bytes f.each 4 20 (omega (arith, e)) ∙ ap (n 20) (drop_all 24 bytes (omega (arith, e)))))));
}

-- an End of Data
pub reads_7 : (version : Version) (bytes : List ℕ) → IsFrame version 7 bytes → length bytes ≡ fixed_len version kinds.EndOfData → Reads version (end_of_data_in version bytes) bytes
reads_7 V0 = reads_7_in_0
reads_7 V1 = reads_7_in_1
