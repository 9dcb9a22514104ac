-- Groups joined by colons, in the words of Text.antt and in std's grammar of addresses.
use Rattle.std.proofs.Common.{◌≡◌, ◌≢◌, ℕ, zero, suc, ◌+◌, ◌-◌, ◌<◌, ◌≤◌, Bool, true, false, List, [], ◌∷◌, ◌++◌, length, get_or, replicate, flat_map, ◌^◌, arith, refl, ◌∙◌, sym, ap, inl, inr, append-nil, length-append, subst, lit≤}
use Rattle.std.proofs.lemmas.List.{length-replicate}
use Rattle.std.specs.Prelude.{◌⊎◌, ⊤}
use Rattle.std.specs.Str.Parse.{digits_value}
use Rattle.std.proofs.lemmas.Int.Digits.{digits_value-lt}
use Rattle.std.proofs.Math.Nat.{pow-le-pow_right}
use Rattle.std.specs.Char.{digit_value}
use Rattle.std.specs.Fmt.{decimal}
use Rattle.std.specs.Net.Grammar.{IsDotted, IsGroupsAfter, IsGroups, IsColonHex}
use Rattle.prefixes.specs.Text.{IsGroup, AreHexGroups, joined_by_colons, IsFull, IsCompressed}
use Rattle.prefixes.proofs.Lacks.{Lacks, both, left, right, digits_lack}

-- texts with a colon before each
abbrev after_colons : List (List ℕ) → List ℕ
after_colons texts = flat_map (λ t. 58 ∷ t) texts

-- Joined texts are the first, and then each other after a colon.
joined : (t : List ℕ) (ts : List (List ℕ)) → joined_by_colons (t ∷ ts) ≡ t ++ after_colons ts
joined t [] = sym (append-nil t)
joined t (u ∷ us) = ap (λ xs. t ++ (58 ∷ xs)) (joined u us)

-- What Text.antt calls groups, the grammar reads: those after the first,
after : (ipv4 : Bool) (gs : List ℕ) (ts : List (List ℕ)) → AreHexGroups gs ts → IsGroupsAfter ipv4 (58 ∷ []) (after_colons ts) gs
after ipv4 [] [] h = refl
after ipv4 (g ∷ gs) (t ∷ ts) h = inl (t, after_colons ts, refl, ((h.0.0, h.0.2), h.0.1), after ipv4 gs ts h.1)
after ipv4 [] (t ∷ ts) h = absurd h
after ipv4 (g ∷ gs) [] h = absurd h

-- and all.
to_groups : (ipv4 : Bool) (gs : List ℕ) (ts : List (List ℕ)) → AreHexGroups gs ts → IsGroups ipv4 (joined_by_colons ts) gs
to_groups ipv4 [] [] h = refl
to_groups ipv4 (g ∷ gs) (t ∷ ts) h = inl (t, after_colons ts, joined t ts, ((h.0.0, h.0.2), h.0.1), after ipv4 gs ts h.1)
to_groups ipv4 [] (t ∷ ts) h = absurd h
to_groups ipv4 (g ∷ gs) [] h = absurd h

-- The grammar reads eight groups,
pub full_is_read : (all text : List ℕ) → length all ≡ 8 → IsFull all text → IsColonHex text all
full_is_read all text eight h = inl (subst (λ t. IsGroups true t all) (sym h.2) (to_groups true all h.0 h.1), eight)

-- and groups with `::`.
pub compressed_is_read : (all text : List ℕ) → length all ≡ 8 → IsCompressed all text → IsColonHex text all
compressed_is_read all text eight h =
    let size : length all ≡ length h.before + h.zeros + length h.after =
    ap length h.all_are ∙ simp (length-append, length-replicate) in
    let gap : 8 - length h.before - length h.after ≡ h.zeros = omega arith in
    inr (record {
      head_text = joined_by_colons h.left;
      tail_text = joined_by_colons h.right;
      head = h.before;
      tail = h.after;
      spelled = h.text_is;
      head_groups = to_groups false h.before h.left h.before_are;
      tail_groups = to_groups true h.after h.right h.after_are;
      room = omega (arith, h.some);
      value = rw gap h.all_are;
    })

-- Dotted decimal has a dot.
dotted_has_dot : (text octets : List ℕ) → IsDotted text octets → ¬ (Lacks 46 text)
dotted_has_dot text octets h bare =
    let front = decimal h.a ++ (46 ∷ []) ++ decimal h.b ++ (46 ∷ []) ++ decimal h.c in
    let shown = subst (λ t. Lacks 46 t) h.spelled bare in
    (right 46 front (46 ∷ []) (left 46 (front ++ (46 ∷ [])) (decimal h.d) shown)).0 refl

-- If no dot is, what the grammar reads are groups: those after the first,
from_after : (ipv4 : Bool) (gs text : List ℕ) → IsGroupsAfter ipv4 (58 ∷ []) text gs → Lacks 46 text → (ts : List (List ℕ)) × AreHexGroups gs ts × (text ≡ after_colons ts)
from_after ipv4 [] text h bare = ([], tt, h)
from_after ipv4 (g ∷ gs) text (inl h) bare =
    let (group, rest, split, is, more) = h in
    let shown : Lacks 46 (58 ∷ (group ++ rest)) = subst (λ t. Lacks 46 t) split bare in
    let later = from_after ipv4 gs rest more (right 46 group rest shown.1) in
    (group ∷ later.0, ((is.0.0, is.1, is.0.1), later.1), split ∙ ap (λ t. 58 ∷ (group ++ t)) later.2)
from_after ipv4 (g ∷ gs) text (inr h) bare =
    let (last, octets, allowed, split, dotted, value) = h in
    let shown : Lacks 46 (58 ∷ last) = subst (λ t. Lacks 46 t) split bare in
    absurd (dotted_has_dot last octets dotted shown.1)

-- and all.
from_groups : (ipv4 : Bool) (gs text : List ℕ) → IsGroups ipv4 text gs → Lacks 46 text → (ts : List (List ℕ)) × AreHexGroups gs ts × (text ≡ joined_by_colons ts)
from_groups ipv4 [] text h bare = ([], tt, h)
from_groups ipv4 (g ∷ gs) text (inl h) bare =
    let (group, rest, split, is, more) = h in
    let shown : Lacks 46 (group ++ rest) = subst (λ t. Lacks 46 t) split bare in
    let later = from_after ipv4 gs rest more (right 46 group rest shown) in
    (group ∷ later.0, ((is.0.0, is.1, is.0.1), later.1), split ∙ ap (λ t. group ++ t) later.2 ∙ sym (joined group later.0))
from_groups ipv4 (g ∷ gs) text (inr h) bare =
    let (last, octets, allowed, split, dotted, value) = h in
    absurd (dotted_has_dot last octets dotted (subst (λ t. Lacks 46 t) split bare))

-- So what it reads as an address is one here.
pub read_as_groups : (text all : List ℕ) → IsColonHex text all → Lacks 46 text → IsFull all text ⊎ IsCompressed all text
read_as_groups text all (inl h) bare = inl (from_groups true all text h.0 bare)
read_as_groups text all (inr h) bare =
    let shown : Lacks 46 ((h.head_text ++ (58 ∷ 58 ∷ [])) ++ h.tail_text) = subst (λ t. Lacks 46 t) h.spelled bare in
    let front = from_groups false h.head h.head_text h.head_groups (left 46 h.head_text (58 ∷ 58 ∷ []) (left 46 _ h.tail_text shown)) in
    let back = from_groups true h.tail h.tail_text h.tail_groups (right 46 (h.head_text ++ (58 ∷ 58 ∷ [])) h.tail_text shown) in
    inr (record {
      before = h.head;
      after = h.tail;
      zeros = 8 - length h.head - length h.tail;
      some = omega (arith, h.room);
      all_are = h.value;
      left = front.0;
      right = back.0;
      before_are = front.1;
      after_are = back.1;
      text_is = rw (← front.2, ← back.2) h.spelled;
    })

-- an address lacks what is neither a hexadecimal digit nor a colon
module _ (c : ℕ) (no_digit : 16 ≤ digit_value c) (no_colon : 58 ≢ c) where
  -- the groups after the first,
  after_lack : (gs : List ℕ) (ts : List (List ℕ)) → AreHexGroups gs ts → Lacks c (after_colons ts)
  after_lack [] [] h = tt
  after_lack (g ∷ gs) (t ∷ ts) h = (no_colon, both c t (after_colons ts) (digits_lack c 16 no_digit t h.0.0.1) (after_lack gs ts h.1))
  after_lack [] (t ∷ ts) h = absurd h
  after_lack (g ∷ gs) [] h = absurd h

  -- all groups of a list,
  joined_lack : (gs : List ℕ) (ts : List (List ℕ)) → AreHexGroups gs ts → Lacks c (joined_by_colons ts)
  joined_lack [] [] h = tt
  joined_lack (g ∷ gs) (t ∷ ts) h = subst (λ x. Lacks c x) (sym (joined t ts)) (both c t (after_colons ts) (digits_lack c 16 no_digit t h.0.0.1) (after_lack gs ts h.1))
  joined_lack [] (t ∷ ts) h = absurd h
  joined_lack (g ∷ gs) [] h = absurd h

  -- and those of an address
  pub groups_lack : (all text : List ℕ) → IsFull all text ⊎ IsCompressed all text → Lacks c text
  groups_lack all text (inl h) = subst (λ x. Lacks c x) (sym h.2) (joined_lack all h.0 h.1)
  groups_lack all text (inr h) =
      subst (λ x. Lacks c x) (sym h.text_is)
      (both c (joined_by_colons h.left ++ (58 ∷ 58 ∷ [])) (joined_by_colons h.right)
      (both c (joined_by_colons h.left) (58 ∷ 58 ∷ []) (joined_lack h.before h.left h.before_are) (no_colon, (no_colon, tt)))
      (joined_lack h.after h.right h.after_are))

-- each number has 16 bits
abbrev pub Small : List ℕ → Type 0
Small [] = ⊤
Small (x ∷ xs) = (x < 2 ^ 16) × Small xs

-- Joined lists are small if both are.
small_both : (xs ys : List ℕ) → Small xs → Small ys → Small (xs ++ ys)
small_both [] ys h k = k
small_both (x ∷ xs) ys h k = (h.0, small_both xs ys h.1 k)

-- Zeros are small.
small_zeros : (n : ℕ) → Small (replicate n 0)
small_zeros zero = tt
small_zeros (suc n) = (omega arith, small_zeros n)

-- Each number of a small list has 16 bits.
pub small_at : (xs : List ℕ) → Small xs → (k : ℕ) → get_or xs k 0 < 2 ^ 16
small_at [] h k = omega arith
small_at (x ∷ xs) h zero = h.0
small_at (x ∷ xs) h (suc k) = small_at xs h.1 k

-- A group has four hexadecimal digits at most, so 16 bits.
small_group : (g : ℕ) (t : List ℕ) → IsGroup g t → g < 2 ^ 16
small_group g t h =
    let below = digits_value-lt 16 t h.0.1 in
    let most : 16 ^ length t ≤ 16 ^ 4 = pow-le-pow_right (lit≤ tt) h.1 in
    let value : digits_value 16 t ≡ g = h.2 in
    omega arith

-- So have all groups,
small_groups : (gs : List ℕ) (ts : List (List ℕ)) → AreHexGroups gs ts → Small gs
small_groups [] [] h = tt
small_groups (g ∷ gs) (t ∷ ts) h = (small_group g t h.0, small_groups gs ts h.1)
small_groups [] (t ∷ ts) h = absurd h
small_groups (g ∷ gs) [] h = absurd h

-- and those of an address.
small_all : (all text : List ℕ) → IsFull all text ⊎ IsCompressed all text → Small all
small_all all text (inl h) = small_groups all h.0 h.1
small_all all text (inr h) =
    subst (λ gs. Small gs) (sym h.all_are)
    (small_both (h.before ++ replicate h.zeros 0) h.after
    (small_both h.before (replicate h.zeros 0) (small_groups h.before h.left h.before_are) (small_zeros h.zeros))
    (small_groups h.after h.right h.after_are))

-- each by its position
pub groups_small : (all text : List ℕ) → IsFull all text ⊎ IsCompressed all text → (k : ℕ) → get_or all k 0 < 2 ^ 16
groups_small all text h = small_at all (small_all all text h)

-- What the grammar reads are eight groups.
pub eight : (all text : List ℕ) → IsColonHex text all → length all ≡ 8
eight all text (inl h) = h.1
eight all text (inr h) =
    let size : length all ≡ length h.head + (8 - length h.head - length h.tail) + length h.tail =
    ap length h.value ∙ simp (length-append, length-replicate) in
    omega (arith, h.room)
