-- Names of files are short and of ASCII alone.
use Rattle.std.proofs.Common.{◌≡◌, ℕ, zero, suc, ◌-◌, ◌<◌, ◌≤◌, ◌&&◌, ◌||◌, true, eqb, ltb, leb, List, [], ◌∷◌, length, get_or, take, drop, inl, inr, refl, sym, ap, ◌∙◌, arith}
use Rattle.std.specs.List.{list_all}
use Rattle.std.proofs.lemmas.Bool.{and_parts, and_from, or_cases, eqb-true, leb-true, ltb-true, lt-ltb}
use Rattle.der_lite.specs.Der.{IsBytes, is_ia5}
use Rattle.der_lite.specs.Moments.{is_between}
use Rattle.der_lite.proofs.NumberBytes.{bytes_cons, no_bytes}
use Rattle.payloads.specs.Manifest.{is_name_byte, is_small_letter, is_name}

-- a number up to 127
small_between : (least most byte : ℕ) → most ≤ 127 → is_between least most byte ≡ true → byte < 128
small_between least most byte low h = omega (arith, low, leb-true byte most (and_parts (leb least byte) (leb byte most) h).1)

-- a letter, a digit, - or _ is one of ASCII
name_byte_small : (byte : ℕ) → is_name_byte byte ≡ true → byte < 128
name_byte_small byte h =
    let small = is_between 97 122 byte in
    let large = is_between 65 90 byte in
    let digit = is_between 48 57 byte in
    elim (or_cases (small || large || digit || eqb byte 45) (eqb byte 95) h) [
      | inr e ↦ omega (arith, eqb-true byte 95 e)
      | inl a ↦ elim (or_cases (small || large || digit) (eqb byte 45) a) [
        | inr e ↦ omega (arith, eqb-true byte 45 e)
        | inl b ↦ elim (or_cases (small || large) digit b) [
          | inr e ↦ small_between 48 57 byte (omega arith) e
          | inl d ↦ elim (or_cases small large d) [
            | inr e ↦ small_between 65 90 byte (omega arith) e
            | inl e ↦ small_between 97 122 byte (omega arith) e
          ]
        ]
      ]
    ]

-- small letters are of ASCII
letters_ascii : (bytes : List ℕ) → list_all is_small_letter bytes ≡ true → is_ia5 bytes ≡ true
letters_ascii [] h = refl
letters_ascii (byte ∷ bytes) h =
    let p = and_parts (is_small_letter byte) (list_all is_small_letter bytes) h in
    and_from (ltb byte 128) (is_ia5 bytes) (lt-ltb byte 128 (small_between 97 122 byte (omega arith) p.0)) (letters_ascii bytes p.1)

-- the name up to its dot, the dot, and what is behind it
parts_ascii : (dot : ℕ) (name : List ℕ) → dot < length name → list_all is_name_byte (take dot name) ≡ true → get_or name dot 0 ≡ 46 → list_all is_small_letter (drop (suc dot) name) ≡ true → is_ia5 name ≡ true
parts_ascii dot [] less stem at extension = absurd (omega (arith, less))
parts_ascii zero (byte ∷ name) less stem at extension = and_from (ltb byte 128) (is_ia5 name) (lt-ltb byte 128 (omega (arith, at))) (letters_ascii name extension)
parts_ascii (suc dot) (byte ∷ name) less stem at extension =
    let p = and_parts (is_name_byte byte) (list_all is_name_byte (take dot name)) stem in
    and_from (ltb byte 128) (is_ia5 name) (lt-ltb byte 128 (name_byte_small byte p.0)) (parts_ascii dot name (omega (arith, less)) p.1 at extension)

-- of a name: it has 5 to 255 bytes, and they are of ASCII
pub record NameFacts (name : List ℕ) : Type 0 where
  pub short : length name ≤ 255
  pub ascii : is_ia5 name ≡ true

pub name_facts : (name : List ℕ) → is_name name ≡ true → NameFacts name
unfolding is_name
name_facts name h =
    let long = leb 5 (length name) in
    let short = leb (length name) 255 in
    let stem = list_all is_name_byte (take (length name - 4) name) in
    let dot = eqb (get_or name (length name - 4) 0) 46 in
    let extension = list_all is_small_letter (drop (length name - 3) name) in
    let p = and_parts (long && short && stem && dot) extension h in
    let q = and_parts (long && short && stem) dot p.0 in
    let r = and_parts (long && short) stem q.0 in
    let s = and_parts long short r.0 in
    let least = leb-true 5 (length name) s.0 in
    let behind : length name - 3 ≡ suc (length name - 4) = omega (arith, least) in
    record {
      short = leb-true (length name) 255 s.1;
      ascii = parts_ascii (length name - 4) name (omega (arith, least)) r.1 (eqb-true (get_or name (length name - 4) 0) 46 q.1) (sym (ap (λ (n : ℕ). list_all is_small_letter (drop n name)) behind) ∙ p.1);
    }

-- what is of ASCII is of bytes
pub ascii_are : (bytes : List ℕ) → is_ia5 bytes ≡ true → IsBytes bytes
ascii_are [] h = no_bytes
ascii_are (byte ∷ bytes) h =
    let p = and_parts (ltb byte 128) (is_ia5 bytes) h in
    bytes_cons byte bytes (omega (arith, ltb-true byte 128 p.0)) (ascii_are bytes p.1)
