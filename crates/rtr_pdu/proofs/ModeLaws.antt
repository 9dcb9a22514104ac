-- How a router reads bytes before agreement.
use Rattle.std.specs.Prelude.{◌≡◌, ℕ, ◌<◌, ◌≤◌, Bool, true, false, ◌&&◌, ◌==◌, nat_lt, nat_le, List, [], ◌∷◌, ◌++◌, length, drop, if◌then◌else◌, refl}
use Rattle.std.proofs.Common.{sym, ap, ◌∙◌, arith}
use Rattle.std.proofs.lemmas.List.{length-append, length-drop, get_or_append_left, drop-append-le}
use Rattle.std.proofs.lemmas.Bool.Decides.{nat_tests}
use Rattle.byteorder.specs.Endian.{big_number}
use Rattle.byteorder.specs.Numbers.{big_from-append}
use Rattle.rtr_pdu.specs.Version.{version_number}
use Rattle.rtr_pdu.specs.declared.version.Version.{Version}
use Rattle.rtr_pdu.specs.Stream.{type_of, length_of, is_notify_header, as_read}

-- the header of what begins with 8 bytes
pub type_of-append : (front more : List ℕ) → 8 ≤ length front → type_of (front ++ more) ≡ type_of front
type_of-append front more h = get_or_append_left front more 0 1 (omega arith)

-- the length of what begins with 8 bytes
pub length_of-append : (front more : List ℕ) → 8 ≤ length front → length_of (front ++ more) ≡ length_of front
length_of-append front more h =
    let four : 4 ≤ length (drop 4 front) = omega (arith, length-drop 4 front) in
    ap (big_number 4) (drop-append-le 4 front more (omega arith)) ∙ big_from-append 4 (drop 4 front) more four

-- the tests of a header's length
pub eight_le : (n : ℕ) → 8 ≤ n → nat_le 8 n ≡ true
eight_le n h = grind (arith, nat_tests)

-- the same, the other way round
pub not_short : (n : ℕ) → 8 ≤ n → nat_lt n 8 ≡ false
not_short n h = grind (arith, nat_tests)

-- whether 8 bytes or more are the header of a notify is determined by the first 8
pub is_notify_header-append : (front more : List ℕ) → 8 ≤ length front → is_notify_header (front ++ more) ≡ is_notify_header front
is_notify_header-append front more h =
    let whole : 8 ≤ length (front ++ more) = omega (arith, length-append front more, h) in
    λ i. (eight_le (length (front ++ more)) whole ∙ sym (eight_le (length front) h)) i && (type_of-append front more h i == 0 && length_of-append front more h i == 12)

-- a header of a notify is not empty
test_long : (any : Bool) (bytes : List ℕ) → (any && is_notify_header bytes) ≡ true → 0 < length bytes
test_long true bytes h = grind (arith, nat_tests)
test_long false bytes h = grind (arith, nat_tests)

module _ (version : Version) where
  -- the version of what begins with a byte is changed at the front
  changed-append : (b : Bool) (front more : List ℕ) → 8 ≤ length front
      → (if b then version_number version ∷ drop 1 (front ++ more) else (front ++ more)) ≡ (if b then version_number version ∷ drop 1 front else front) ++ more
  changed-append true front more h = ap (λ x. version_number version ∷ x) (drop-append-le 1 front more (omega arith))
  changed-append false front more h = refl

  -- What begins with 8 bytes is read as they are read, and then as it is.
  pub as_read-append : (any : Bool) (front more : List ℕ) → 8 ≤ length front → as_read version any (front ++ more) ≡ as_read version any front ++ more
  unfolding as_read
  as_read-append any front more h =
      ap (λ b. if any && b then version_number version ∷ drop 1 (front ++ more) else (front ++ more)) (is_notify_header-append front more h)
      ∙ changed-append (any && is_notify_header front) front more h

  -- a changed version changes no length
  changed_length : (b : Bool) (bytes : List ℕ) → (b ≡ true → 0 < length bytes) → length (if b then version_number version ∷ drop 1 bytes else bytes) ≡ length bytes
  changed_length true [] h = absurd (omega (arith, h refl))
  changed_length true (x ∷ xs) h = refl
  changed_length false bytes h = refl

  -- What is read is as long as what is there.
  pub length-as_read : (any : Bool) (bytes : List ℕ) → length (as_read version any bytes) ≡ length bytes
  unfolding as_read
  length-as_read any bytes = changed_length (any && is_notify_header bytes) bytes (test_long any bytes)
