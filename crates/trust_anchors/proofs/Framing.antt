-- A modulus in its frame.
use Rattle.std.proofs.Common.{◌≡◌, ℕ, ◌+◌, ◌≤◌, List, ◌++◌, length, get_or, take, drop, refl, sym, ap, ◌∙◌, arith, length-append}
use Rattle.std.proofs.lemmas.List.{take-append-drop, take_at, drop_at, drop-drop, length-take-le, length-drop}
use Rattle.trust_anchors.specs.Keys.{IsKeyInfo, key_head, key_tail}

-- octets in three parts
in_three : (octets : List ℕ) (m n : ℕ) → octets ≡ take m octets ++ (take n (drop m octets) ++ drop (m + n) octets)
in_three octets m n =
    sym (take-append-drop m octets) ∙ ap (λ r. take m octets ++ r) (sym (take-append-drop n (drop m octets)) ∙ ap (λ r. take n (drop m octets) ++ r) (drop-drop n m octets))

pub is_key : (octets : List ℕ) → length octets ≡ 294 → take 33 octets ≡ key_head → drop 289 octets ≡ key_tail
    → 128 ≤ get_or (take 256 (drop 33 octets)) 0 0 → IsKeyInfo (take 256 (drop 33 octets)) octets
is_key octets sized head tail top = record {
  spelled = in_three octets 33 256 ∙ ap (λ h. h ++ (take 256 (drop 33 octets) ++ drop 289 octets)) head ∙ ap (λ t. key_head ++ (take 256 (drop 33 octets) ++ t)) tail;
  sized = length-take-le 256 (drop 33 octets) (omega (arith, length-drop 33 octets));
  top_bit = top;
}

pub record Parts (modulus octets : List ℕ) : Type 0 where
  pub sized : length octets ≡ 294
  pub head : take 33 octets ≡ key_head
  pub modulus_is : take 256 (drop 33 octets) ≡ modulus
  pub tail : drop 289 octets ≡ key_tail

pub parts : (modulus octets : List ℕ) → IsKeyInfo modulus octets → Parts modulus octets
parts modulus octets key =
    let rest : drop 33 octets ≡ modulus ++ key_tail = ap (drop 33) key.spelled ∙ drop_at key_head (modulus ++ key_tail) 33 refl in
    record {
      sized = ap length key.spelled ∙ length-append key_head (modulus ++ key_tail) ∙ ap (λ n. 33 + n) (length-append modulus key_tail ∙ ap (λ n. n + 5) key.sized);
      head = ap (take 33) key.spelled ∙ take_at key_head (modulus ++ key_tail) 33 refl;
      modulus_is = ap (take 256) rest ∙ take_at modulus key_tail 256 key.sized;
      tail = sym (drop-drop 256 33 octets) ∙ ap (drop 256) rest ∙ drop_at modulus key_tail 256 key.sized;
    }

-- octets are of one key
pub one_key : (m n octets : List ℕ) → IsKeyInfo m octets → IsKeyInfo n octets → m ≡ n
one_key m n octets a b = sym (parts m octets a).modulus_is ∙ (parts n octets b).modulus_is
