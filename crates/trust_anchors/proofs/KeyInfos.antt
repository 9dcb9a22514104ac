-- The subjectPublicKeyInfo of a certificate is that of a locator with this modulus.
use Rattle.std.proofs.Common.{◌≡◌, ◌≤◌, ℕ, ◌+◌, Bool, true, false, List, [], ◌∷◌, ◌++◌, length, get_or, refl, sym, ap, ap₂, subst, ◌∙◌, arith, length-append}
use Rattle.std.specs.Prelude.{not, ◌&&◌, nat_lt, ◌==◌}
use Rattle.std.proofs.lemmas.Bool.{eqb-true, ltb-false}
use Rattle.der_lite.specs.Der.{Tlv, tlv, length_bytes}
use Rattle.der_lite.specs.Grammar.{KeepsRules}
use Rattle.der_forms.specs.Combinators.{fixed}
use Rattle.resource_certificates.specs.Keys as k
use Rattle.trust_anchors.specs.Keys.{IsKeyInfo, key_head, key_tail}
use Rattle.trust_anchors.specs.Anchors.{OneKeyInfo}
use Rattle.trust_anchors.proofs.Framing.{one_key}

-- ---- rules

-- the first of several rules that are kept, and the others
first_kept : (n : ℕ) (b : Bool) (later : List (ℕ × Bool)) → KeepsRules ((n, b) ∷ later) → (b ≡ false) × KeepsRules later
first_kept n true later h = absurd cc
first_kept n false later h = (refl, h)

sure : (b : Bool) → not b ≡ false → b ≡ true
sure true h = refl
sure false h = absurd cc

-- a zero is in front of a number only if the first bit after it is set
small : (t : Bool) → not (not t && true) ≡ false → t ≡ false
small true h = absurd cc
small false h = refl

-- what the rules say of a modulus behind its zero
in_rules : (m : List ℕ) → KeepsRules (k.modulus_rules (0 ∷ m)) → (length m ≡ 256) × (128 ≤ get_or m 0 0)
in_rules [] h = absurd cc
in_rules (b ∷ more) h =
    let a = first_kept 4 (not (not (nat_lt b 128) && true)) (k.size_rules (0 ∷ b ∷ more)) h in
    let s = first_kept 14 (not (length (0 ∷ b ∷ more) == 257)) [] a.1 in
    (omega (arith, eqb-true (length (0 ∷ b ∷ more)) 257 (sure (length (0 ∷ b ∷ more) == 257) s.0)), ltb-false b 128 (small (nat_lt b 128) a.0))

-- ---- elements

-- an element of this content
fixed_is : (number tag : ℕ) (wanted bytes : List ℕ) (u : Unit {0}) → (fixed number tag wanted).Spells u bytes → bytes ≡ tlv tag wanted
fixed_is number tag wanted bytes u s = s.1.spelled ∙ ap (λ (l : List ℕ). tlv tag l) s.2.0

-- an element of two members
two_are : (tag : ℕ) (inner front rest x y bytes : List ℕ) → Tlv tag inner bytes → inner ≡ front ++ rest → front ≡ x → rest ≡ y → bytes ≡ tlv tag (x ++ y)
two_are tag inner front rest x y bytes t parts f r = t.spelled ∙ ap (λ (l : List ℕ). tlv tag l) (parts ∙ ap₂ ◌++◌ f r)

-- The bytes are this text, which has in it a modulus of 2,048 bits.
record Has (m text bytes : List ℕ) : Type 0 where
  pub spelled : bytes ≡ text
  pub sized : length m ≡ 256
  pub top_bit : 128 ≤ get_or m 0 0

number_is : (m bytes : List ℕ) → k.modulus.Spells m bytes → Has m (tlv 2 (0 ∷ m)) bytes
unfolding k.modulus
number_is m bytes s =
    let r = in_rules m (subst (λ (l : List ℕ). KeepsRules (k.modulus_rules l)) s.2.0 s.2.1) in
    record { spelled = s.1.spelled ∙ ap (λ (l : List ℕ). tlv 2 l) s.2.0; sized = r.0; top_bit = r.1 }

exponent_is : (bytes : List ℕ) (u : Unit {0}) → k.exponent.Spells u bytes → bytes ≡ tlv 2 (1 ∷ 0 ∷ 1 ∷ [])
unfolding k.exponent
exponent_is bytes u s = fixed_is 14 2 (1 ∷ 0 ∷ 1 ∷ []) bytes u s

algorithm_is : (bytes : List ℕ) (u : Unit {0}) → k.key_algorithm.Spells u bytes → bytes ≡ tlv 48 k.rsa_key_algorithm
unfolding k.key_algorithm
algorithm_is bytes u s = fixed_is 13 48 k.rsa_key_algorithm bytes u s

-- RSAPublicKey of a modulus
abbrev rsa_key : List ℕ → List ℕ
rsa_key m = tlv 48 (tlv 2 (0 ∷ m) ++ tlv 2 (1 ∷ 0 ∷ 1 ∷ []))

rsa_key_is : (m bytes : List ℕ) → k.rsa_public_key.Spells m bytes → Has m (rsa_key m) bytes
unfolding k.rsa_public_key
rsa_key_is m bytes s =
    let p = s.2.1.1 in
    let n = number_is s.2.1.0.0 p.0 p.3 in
    let spelled = two_are 48 s.0 p.0 p.1 (tlv 2 (0 ∷ s.2.1.0.0)) (tlv 2 (1 ∷ 0 ∷ 1 ∷ [])) bytes s.1 p.2.parts n.spelled (exponent_is p.1 s.2.1.0.1 p.4) in
    let inside : Has s.2.1.0.0 (rsa_key s.2.1.0.0) bytes = record { spelled = spelled; sized = n.sized; top_bit = n.top_bit } in
    subst (λ (l : List ℕ). Has l (rsa_key l) bytes) s.2.1.2 inside

-- subjectPublicKey of a modulus
abbrev public_key : List ℕ → List ℕ
public_key m = tlv 3 (0 ∷ rsa_key m)

public_key_is : (key : k.Key) (bytes : List ℕ) → k.public_key.Spells key bytes → (bytes ≡ public_key key.modulus) × Has key.modulus (rsa_key key.modulus) key.bits
unfolding k.public_key
public_key_is key bytes s =
    let r = rsa_key_is key.modulus key.bits s.2.spelled in
    (s.1.spelled ∙ ap (λ (l : List ℕ). tlv 3 l) (s.2.whole ∙ ap (λ (l : List ℕ). 0 ∷ l) r.spelled), r)

-- ---- lengths

-- an element whose content has this length
measured : (tag n : ℕ) (content : List ℕ) → length content ≡ n → tlv tag content ≡ tag ∷ length_bytes n ++ content
measured tag n content e = ap (λ (l : ℕ). tag ∷ length_bytes l ++ content) e

exponent_tlv : tlv 2 (1 ∷ 0 ∷ 1 ∷ []) ≡ key_tail
unfolding length_bytes
exponent_tlv = refl

number_tlv : (m : List ℕ) → length m ≡ 256 → tlv 2 (0 ∷ m) ≡ 2 ∷ 130 ∷ 1 ∷ 1 ∷ 0 ∷ m
unfolding length_bytes
number_tlv m sized = measured 2 257 (0 ∷ m) (length-append (0 ∷ []) m ∙ ap (λ (n : ℕ). 1 + n) sized)

-- what is in front of a modulus and its exponent: in RSAPublicKey, in the bits, in subjectPublicKey, and in the whole
abbrev in_key : List ℕ
in_key = 2 ∷ 130 ∷ 1 ∷ 1 ∷ 0 ∷ []

abbrev in_bits : List ℕ
in_bits = 0 ∷ 48 ∷ 130 ∷ 1 ∷ 10 ∷ in_key

abbrev in_public : List ℕ
in_public = 3 ∷ 130 ∷ 1 ∷ 15 ∷ in_bits

abbrev in_whole : List ℕ
in_whole = 48 ∷ 13 ∷ k.rsa_key_algorithm ++ in_public

longer : (front rest : List ℕ) → length rest ≡ 261 → length (front ++ rest) ≡ length front + 261
longer front rest sized = length-append front rest ∙ ap (λ (n : ℕ). length front + n) sized

algorithm_tlv : tlv 48 k.rsa_key_algorithm ≡ 48 ∷ 13 ∷ k.rsa_key_algorithm
unfolding length_bytes
algorithm_tlv = refl

rsa_tlv : (rest : List ℕ) → length rest ≡ 261 → tlv 48 (in_key ++ rest) ≡ 48 ∷ 130 ∷ 1 ∷ 10 ∷ in_key ++ rest
unfolding length_bytes
rsa_tlv rest sized = measured 48 266 (in_key ++ rest) (longer in_key rest sized)

bits_tlv : (rest : List ℕ) → length rest ≡ 261 → tlv 3 (in_bits ++ rest) ≡ in_public ++ rest
unfolding length_bytes
bits_tlv rest sized = measured 3 271 (in_bits ++ rest) (longer in_bits rest sized)

whole_tlv : (rest : List ℕ) → length rest ≡ 261 → tlv 48 (in_whole ++ rest) ≡ key_head ++ rest
unfolding length_bytes
whole_tlv rest sized = measured 48 290 (in_whole ++ rest) (longer in_whole rest sized)

-- ---- the whole

in_frame : (m : List ℕ) → length m ≡ 256 → tlv 48 (tlv 48 k.rsa_key_algorithm ++ public_key m) ≡ key_head ++ (m ++ key_tail)
in_frame m sized =
    let long : length (m ++ key_tail) ≡ 261 = length-append m key_tail ∙ ap (λ (n : ℕ). n + 5) sized in
    let inner = ap₂ ◌++◌ (number_tlv m sized) exponent_tlv in
    let rsa = ap (λ (l : List ℕ). tlv 48 l) inner ∙ rsa_tlv (m ++ key_tail) long in
    let bits = ap (λ (l : List ℕ). tlv 3 (0 ∷ l)) rsa ∙ bits_tlv (m ++ key_tail) long in
    ap₂ (λ (a l : List ℕ). tlv 48 (a ++ l)) algorithm_tlv bits ∙ whole_tlv (m ++ key_tail) long

pub info_is_key : (key : k.Key) (info : List ℕ) → k.key_info.Spells key info → IsKeyInfo key.modulus info
unfolding k.key_info
info_is_key key info s =
    let p = s.2.1.1 in
    let inside : k.Key = s.2.1.0.1 in
    let q = public_key_is inside p.1 p.4 in
    let algorithm = algorithm_is p.0 s.2.1.0.0 p.3 in
    let whole = two_are 48 s.0 p.0 p.1 (tlv 48 k.rsa_key_algorithm) (public_key inside.modulus) info s.1 p.2.parts algorithm q.0 in
    let is : IsKeyInfo inside.modulus info = record { spelled = whole ∙ in_frame inside.modulus q.1.sized; sized = q.1.sized; top_bit = q.1.top_bit } in
    subst (λ (y : k.Key). IsKeyInfo y.modulus info) s.2.1.2 is

pub key_info_law : OneKeyInfo
key_info_law modulus octets info key of_tal spelled =
    let of_certificate = info_is_key key info spelled in (
      (λ e. one_key key.modulus modulus info of_certificate (subst (λ (l : List ℕ). IsKeyInfo modulus l) e of_tal)),
      (λ e. of_tal.spelled ∙ ap (λ (l : List ℕ). key_head ++ (l ++ key_tail)) (sym e) ∙ sym of_certificate.spelled),
    )
