-- Mixed notation, in the words of MixedText.antt and in std's grammar of addresses.
use Rattle.std.proofs.Common.{◌≡◌, ℕ, zero, suc, ◌+◌, ◌-◌, ◌*◌, ◌/◌, ◌%◌, ◌^◌, ◌<◌, ◌≤◌, Bool, true, false, List, [], ◌∷◌, ◌++◌, length, get_or, take, replicate, arith, refl, ◌∙◌, sym, ap, subst, inl, inr, append-nil, append_assoc, length-append, lit≤}
use Rattle.std.proofs.lemmas.List.{length-replicate}
use Rattle.std.proofs.lemmas.Int.Digits.{digits_value-lt}
use Rattle.std.proofs.Math.Nat.{pow-le-pow_right}
use Rattle.std.specs.Prelude.{◌⊎◌}
use Rattle.std.specs.Net.Addr.{ipv4_bits, segments_of}
use Rattle.std.specs.Net.Grammar.{IsColonHex, IsDotted, IsElided, IsGroupsAfter, IsGroups}
use Rattle.std.specs.Net.Text.{dotted_text}
use Rattle.std.specs.Str.Parse.{digits_value}
use Rattle.prefixes.specs.Text.{AreHexGroups, IsGroup, IsV6Address, groups, joined_by_colons}
use Rattle.prefixes.proofs.Addresses.{v4_lacks_slash, v4_read, v6_colon_hex}
use Rattle.prefixes.proofs.HexGroups.{Small, small_at}
use Rattle.prefixes.proofs.Lacks.{Lacks, both, digits_lack}
use Rattle.prefix_texts.specs.MixedText.{IsCompressedMixed, IsFullMixed, IsMixedAddress, dotted_tail, high_groups, with_colons}

-- ---- the last 32 bits

-- as the two groups that they are in plain notation
abbrev low_groups : ℕ → List ℕ
low_groups n = n / 2 ^ 16 % 2 ^ 16 ∷ n / 2 ^ 0 % 2 ^ 16 ∷ []

low_fit : (m : ℕ) → m < 2 ^ 32 → (m / 2 ^ 24 < 256) × (m / 2 ^ 16 % 2 ^ 8 < 256) × (m / 2 ^ 8 % 2 ^ 8 < 256) × (m % 2 ^ 8 < 256)
low_fit m small = (omega arith, omega arith, omega arith, omega arith)

low_high : (n m : ℕ) → m ≡ n % 2 ^ 32 → m / 2 ^ 24 * 256 + m / 2 ^ 16 % 2 ^ 8 ≡ n / 2 ^ 16 % 2 ^ 16
low_high n m is = omega arith

low_low : (n m : ℕ) → m ≡ n % 2 ^ 32 → m / 2 ^ 8 % 2 ^ 8 * 256 + m % 2 ^ 8 ≡ n / 2 ^ 0 % 2 ^ 16
low_low n m is = omega arith

-- Four bytes that make the last two groups are those of the last 32 bits.
four_of : (n m a b c d : ℕ) → m ≡ n % 2 ^ 32 → (a < 256) × (b < 256) × (c < 256) × (d < 256) → n / 2 ^ 16 % 2 ^ 16 ≡ a * 256 + b → n / 2 ^ 0 % 2 ^ 16 ≡ c * 256 + d
    → (m / 2 ^ 24 ≡ a) × (m / 2 ^ 16 % 2 ^ 8 ≡ b) × (m / 2 ^ 8 % 2 ^ 8 ≡ c) × (m % 2 ^ 8 ≡ d)
four_of n m a b c d is fit high low =
    let whole : m ≡ ((a * 256 + b) * 256 + c) * 256 + d = omega (arith, is, fit.0, fit.1, fit.2, fit.3, high, low) in
    (omega (arith, whole, fit.1, fit.2, fit.3), omega (arith, whole, fit.1, fit.2, fit.3), omega (arith, whole, fit.2, fit.3), omega (arith, whole, fit.3))

dotted_is : (n a b c d : ℕ) → (a < 256) × (b < 256) × (c < 256) × (d < 256) → n / 2 ^ 16 % 2 ^ 16 ≡ a * 256 + b → n / 2 ^ 0 % 2 ^ 16 ≡ c * 256 + d → dotted_text a b c d ≡ dotted_tail n
dotted_is n a b c d fit high low =
    let parts = four_of n (n % 2 ^ 32) a b c d refl fit high low in
    λ i. dotted_text (sym parts.0 i) (sym parts.1 i) (sym parts.2 i) (sym parts.3 i)

-- ---- what is said is in the grammar

shift : (lead t c w last : List ℕ) → lead ++ (((t ++ c) ++ w) ++ last) ≡ (lead ++ t) ++ (c ++ (w ++ last))
shift lead t c w last = ap (λ x. lead ++ x) (append_assoc (t ++ c) w last ∙ append_assoc t c (w ++ last)) ∙ sym (append_assoc lead t (c ++ (w ++ last)))

-- groups, and the four bytes behind them
with_tail : (lead gs : List ℕ) (ts : List (List ℕ)) (a b c d : ℕ) → AreHexGroups gs ts → (a < 256) × (b < 256) × (c < 256) × (d < 256)
    → IsGroupsAfter true lead (lead ++ (with_colons ts ++ dotted_text a b c d)) (gs ++ ((a * 256 + b) ∷ (c * 256 + d) ∷ []))
with_tail lead [] [] a b c d h fit = inr (dotted_text a b c d, a ∷ b ∷ c ∷ d ∷ [], refl, refl, record { a = a; b = b; c = c; d = d; fit = fit; value = refl; spelled = refl }, refl)
with_tail lead (g ∷ gs) (t ∷ ts) a b c d h fit =
    inl (t, (58 ∷ []) ++ (with_colons ts ++ dotted_text a b c d), shift lead t (58 ∷ []) (with_colons ts) (dotted_text a b c d), ((h.0.0, h.0.2), h.0.1), with_tail (58 ∷ []) gs ts a b c d h.1 fit)
with_tail lead [] (t ∷ ts) a b c d h fit = absurd h
with_tail lead (g ∷ gs) [] a b c d h fit = absurd h

mixed_groups : (n : ℕ) (gs : List ℕ) (ts : List (List ℕ)) → AreHexGroups gs ts → IsGroups true (with_colons ts ++ dotted_tail n) (gs ++ low_groups n)
mixed_groups n gs ts h =
    let made = with_tail [] gs ts (n % 2 ^ 32 / 2 ^ 24) (n % 2 ^ 32 / 2 ^ 16 % 2 ^ 8) (n % 2 ^ 32 / 2 ^ 8 % 2 ^ 8) (n % 2 ^ 32 % 2 ^ 8) h (low_fit (n % 2 ^ 32) (omega arith)) in
    subst (λ l. IsGroups true (with_colons ts ++ dotted_tail n) (gs ++ l)) (λ i. low_high n (n % 2 ^ 32) refl i ∷ low_low n (n % 2 ^ 32) refl i ∷ []) made

-- the groups of a list, under what stands before the first
abbrev led : List ℕ → List (List ℕ) → List ℕ
led lead [] = []
led lead (t ∷ ts) = (lead ++ t) ++ led (58 ∷ []) ts

joined_led : (t : List ℕ) (ts : List (List ℕ)) → t ++ led (58 ∷ []) ts ≡ joined_by_colons (t ∷ ts)
joined_led t [] = append-nil t
joined_led t (u ∷ us) = ap (λ xs. t ++ (58 ∷ xs)) (joined_led u us)

led_joined : (ts : List (List ℕ)) → led [] ts ≡ joined_by_colons ts
led_joined [] = refl
led_joined (t ∷ ts) = joined_led t ts

plain_groups : (lead gs : List ℕ) (ts : List (List ℕ)) → AreHexGroups gs ts → IsGroupsAfter false lead (led lead ts) gs
plain_groups lead [] [] h = refl
plain_groups lead (g ∷ gs) (t ∷ ts) h = inl (t, led (58 ∷ []) ts, refl, ((h.0.0, h.0.2), h.0.1), plain_groups (58 ∷ []) gs ts h.1)
plain_groups lead [] (t ∷ ts) h = absurd h
plain_groups lead (g ∷ gs) [] h = absurd h

full_mixed : (n : ℕ) (text : List ℕ) → IsFullMixed n text → IsColonHex text (groups n)
full_mixed n text h = inl (subst (λ t. IsGroups true t (groups n)) (sym h.2) (mixed_groups n (high_groups n) h.0 h.1), refl)

compressed_mixed : (n : ℕ) (text : List ℕ) → IsCompressedMixed n text → IsColonHex text (groups n)
compressed_mixed n text h =
    let six : 6 ≡ length h.before + h.zeros + length h.after = ap length h.high_are ∙ simp (length-append, length-replicate) in
    let two : length (h.after ++ low_groups n) ≡ length h.after + 2 = length-append h.after (low_groups n) in
    let gap : 8 - length h.before - length (h.after ++ low_groups n) ≡ h.zeros = omega (arith, six, two) in
    inr (record {
      head_text = joined_by_colons h.left;
      tail_text = with_colons h.right ++ dotted_tail n;
      head = h.before;
      tail = h.after ++ low_groups n;
      spelled = h.text_is ∙ append_assoc (joined_by_colons h.left ++ (58 ∷ 58 ∷ [])) (with_colons h.right) (dotted_tail n);
      head_groups = subst (λ t. IsGroups false t h.before) (led_joined h.left) (plain_groups [] h.before h.left h.before_are);
      tail_groups = mixed_groups n h.after h.right h.after_are;
      room = omega (arith, h.some, six, two);
      value = ap (λ gs. gs ++ low_groups n) h.high_are ∙ append_assoc (h.before ++ replicate h.zeros 0) h.after (low_groups n)
          ∙ ap (λ k. (h.before ++ replicate k 0) ++ (h.after ++ low_groups n)) (sym gap);
    })

-- An IPv6 address in either notation
abbrev pub IsEither : ℕ → List ℕ → Type 0
IsEither n text = IsV6Address n text ⊎ IsMixedAddress n text

-- std's grammar has each text of one,
pub either_colon_hex : (n : ℕ) (text : List ℕ) → IsEither n text → IsColonHex text (groups n)
either_colon_hex n text (inl h) = v6_colon_hex n text h
either_colon_hex n text (inr (inl h)) = full_mixed n text h
either_colon_hex n text (inr (inr h)) = compressed_mixed n text h

-- ---- what is in the grammar is said

abbrev Plain : List ℕ → List ℕ → List ℕ → Type 0
Plain lead gs text = (ts : List (List ℕ)) × AreHexGroups gs ts × (text ≡ led lead ts)

-- groups, and behind them four bytes in dotted decimal
record Mixed (lead gs text : List ℕ) : Type 0 where
  pub front : List ℕ
  pub texts : List (List ℕ)
  pub a : ℕ
  pub b : ℕ
  pub c : ℕ
  pub d : ℕ
  pub front_are : AreHexGroups front texts
  pub fit : (a < 256) × (b < 256) × (c < 256) × (d < 256)
  pub groups_are : gs ≡ front ++ ((a * 256 + b) ∷ (c * 256 + d) ∷ [])
  pub text_is : text ≡ lead ++ (with_colons texts ++ dotted_text a b c d)

-- one group more before those that follow it
one_more : (lead group rest : List ℕ) (g : ℕ) (gs text : List ℕ) → text ≡ lead ++ group ++ rest → IsGroup g group → Plain (58 ∷ []) gs rest ⊎ Mixed (58 ∷ []) gs rest → Plain lead (g ∷ gs) text ⊎ Mixed lead (g ∷ gs) text
one_more lead group rest g gs text split is (inl p) = inl (group ∷ p.0, (is, p.1), split ∙ ap (λ t. (lead ++ group) ++ t) p.2)
one_more lead group rest g gs text split is (inr m) = inr (record {
  front = g ∷ m.front;
  texts = group ∷ m.texts;
  a = m.a;
  b = m.b;
  c = m.c;
  d = m.d;
  front_are = (is, m.front_are);
  fit = m.fit;
  groups_are = ap (λ l. g ∷ l) m.groups_are;
  text_is = split ∙ ap (λ t. (lead ++ group) ++ t) m.text_is ∙ sym (shift lead group (58 ∷ []) (with_colons m.texts) (dotted_text m.a m.b m.c m.d));
})

of_groups : (lead gs text : List ℕ) → IsGroupsAfter true lead text gs → Plain lead gs text ⊎ Mixed lead gs text
of_groups lead [] text h = inl ([], tt, h)
of_groups lead (g ∷ gs) text (inl h) =
    let (group, rest, split, is, later) = h in
    one_more lead group rest g gs text split (is.0.0, is.1, is.0.1) (of_groups (58 ∷ []) gs rest later)
of_groups lead (g ∷ gs) text (inr h) =
    let (last, octets, allowed, split, dotted, value) = h in
    inr (record {
      front = [];
      texts = [];
      a = dotted.a;
      b = dotted.b;
      c = dotted.c;
      d = dotted.d;
      front_are = tt;
      fit = dotted.fit;
      groups_are = value ∙ ap segments_of dotted.value;
      text_is = split ∙ ap (λ t. lead ++ t) dotted.spelled;
    })

-- where no dotted decimal may stand
plain_only : (lead gs text : List ℕ) → IsGroupsAfter false lead text gs → Plain lead gs text
plain_only lead [] text h = ([], tt, h)
plain_only lead (g ∷ gs) text (inl h) =
    let (group, rest, split, is, later) = h in
    let p = plain_only (58 ∷ []) gs rest later in
    (group ∷ p.0, ((is.0.0, is.1, is.0.1), p.1), split ∙ ap (λ t. (lead ++ group) ++ t) p.2)
plain_only lead (g ∷ gs) text (inr h) =
    let (last, octets, allowed, split, dotted, value) = h in
    absurd (let no : false ≡ true = allowed in cc)

-- Where two groups stand behind others, these are the six high ones.
six_high : (n : ℕ) (front : List ℕ) (s t : ℕ) → groups n ≡ front ++ (s ∷ t ∷ []) → (high_groups n ≡ front) × (n / 2 ^ 16 % 2 ^ 16 ≡ s) × (n / 2 ^ 0 % 2 ^ 16 ≡ t)
six_high n (a ∷ b ∷ c ∷ d ∷ e ∷ f ∷ []) s t h = (ap (λ l. take 6 l) h, ap (λ l. get_or l 6 0) h, ap (λ l. get_or l 7 0) h)
six_high n front s t h = absurd (omega (arith, ap length h, length-append front (s ∷ t ∷ [])))

full_said : (n : ℕ) (text : List ℕ) → Plain [] (groups n) text ⊎ Mixed [] (groups n) text → IsEither n text
full_said n text (inl p) = inl (inl (p.0, p.1, p.2 ∙ led_joined p.0))
full_said n text (inr m) =
    let parts = six_high n m.front (m.a * 256 + m.b) (m.c * 256 + m.d) m.groups_are in
    let tail = dotted_is n m.a m.b m.c m.d m.fit parts.1 parts.2 in
    inr (inl (m.texts, subst (λ gs. AreHexGroups gs m.texts) (sym parts.0) m.front_are, m.text_is ∙ ap (λ t. with_colons m.texts ++ t) tail))

elided_said : (n : ℕ) (text : List ℕ) (h : IsElided text (groups n)) → Plain [] h.tail h.tail_text ⊎ Mixed [] h.tail h.tail_text → IsEither n text
elided_said n text h (inl p) =
    let front = plain_only [] h.head h.head_text h.head_groups in
    let front_is = front.2 ∙ led_joined front.0 in
    let back_is = p.2 ∙ led_joined p.0 in
    inl (inr (record {
      before = h.head;
      after = h.tail;
      zeros = 8 - length h.head - length h.tail;
      some = omega (arith, h.room);
      all_are = h.value;
      left = front.0;
      right = p.0;
      before_are = front.1;
      after_are = p.1;
      text_is = h.spelled ∙ (λ i. (front_is i ++ (58 ∷ 58 ∷ [])) ++ back_is i);
    }))
elided_said n text h (inr m) =
    let front = plain_only [] h.head h.head_text h.head_groups in
    let front_is = front.2 ∙ led_joined front.0 in
    let zeros = 8 - length h.head - length h.tail in
    let before = h.head ++ replicate zeros 0 in
    let all : groups n ≡ (before ++ m.front) ++ ((m.a * 256 + m.b) ∷ (m.c * 256 + m.d) ∷ []) =
    h.value ∙ ap (λ l. before ++ l) m.groups_are ∙ sym (append_assoc before m.front ((m.a * 256 + m.b) ∷ (m.c * 256 + m.d) ∷ [])) in
    let parts = six_high n (before ++ m.front) (m.a * 256 + m.b) (m.c * 256 + m.d) all in
    let tail = dotted_is n m.a m.b m.c m.d m.fit parts.1 parts.2 in
    let back_is = m.text_is ∙ ap (λ t. with_colons m.texts ++ t) tail in
    inr (inr (record {
      before = h.head;
      after = m.front;
      zeros = zeros;
      some = omega (arith, h.room);
      high_are = parts.0;
      left = front.0;
      right = m.texts;
      before_are = front.1;
      after_are = m.front_are;
      text_is = h.spelled ∙ (λ i. (front_is i ++ (58 ∷ 58 ∷ [])) ++ back_is i) ∙ sym (append_assoc (joined_by_colons front.0 ++ (58 ∷ 58 ∷ [])) (with_colons m.texts) (dotted_tail n));
    }))

-- and nothing else.
pub is_either : (n : ℕ) (text : List ℕ) → IsColonHex text (groups n) → IsEither n text
is_either n text (inl h) = full_said n text (of_groups [] (groups n) text h.0)
is_either n text (inr h) = elided_said n text h (of_groups [] h.tail h.tail_text h.tail_groups)

-- ---- what the grammar reads has no slash, and groups of 16 bits

dotted_lacks : (text octets : List ℕ) → IsDotted text octets → Lacks 47 text
dotted_lacks text octets h =
    let read = v4_read text (record { octets = octets }) (ipv4_bits (record { octets = octets })) h refl in
    v4_lacks_slash (ipv4_bits (record { octets = octets })) text read.0 read.1

lacks_after : (ipv4 : Bool) (lead gs text : List ℕ) → Lacks 47 lead → IsGroupsAfter ipv4 lead text gs → Lacks 47 text
lacks_after ipv4 lead [] text bare h = subst (λ t. Lacks 47 t) (sym h) tt
lacks_after ipv4 lead (g ∷ gs) text bare (inl h) =
    let (group, rest, split, is, later) = h in
    let colon : Lacks 47 (58 ∷ []) = ((λ same. omega (arith, same)), tt) in
    subst (λ t. Lacks 47 t) (sym split) (both 47 (lead ++ group) rest (both 47 lead group bare (digits_lack 47 16 (lit≤ tt) group is.0.0.1)) (lacks_after ipv4 (58 ∷ []) gs rest colon later))
lacks_after ipv4 lead (g ∷ gs) text bare (inr h) =
    let (last, octets, allowed, split, dotted, value) = h in
    subst (λ t. Lacks 47 t) (sym split) (both 47 lead last bare (dotted_lacks last octets dotted))

pub colon_hex_lacks : (text gs : List ℕ) → IsColonHex text gs → Lacks 47 text
colon_hex_lacks text gs (inl h) = lacks_after true [] gs text tt h.0
colon_hex_lacks text gs (inr h) =
    let colons : Lacks 47 (58 ∷ 58 ∷ []) = ((λ same. omega (arith, same)), ((λ same. omega (arith, same)), tt)) in
    subst (λ t. Lacks 47 t) (sym h.spelled)
    (both 47 (h.head_text ++ (58 ∷ 58 ∷ [])) h.tail_text (both 47 h.head_text (58 ∷ 58 ∷ []) (lacks_after false [] h.head h.head_text tt h.head_groups) colons) (lacks_after true [] h.tail h.tail_text tt h.tail_groups))

small_group : (g : ℕ) (t : List ℕ) → IsGroup g t → g < 2 ^ 16
small_group g t h =
    let below = digits_value-lt 16 t h.0.1 in
    let most : 16 ^ length t ≤ 16 ^ 4 = pow-le-pow_right (lit≤ tt) h.1 in
    let value : digits_value 16 t ≡ g = h.2 in
    omega arith

small_both : (xs ys : List ℕ) → Small xs → Small ys → Small (xs ++ ys)
small_both [] ys h k = k
small_both (x ∷ xs) ys h k = (h.0, small_both xs ys h.1 k)

small_zeros : (n : ℕ) → Small (replicate n 0)
small_zeros zero = tt
small_zeros (suc n) = (omega arith, small_zeros n)

small_after : (ipv4 : Bool) (lead gs text : List ℕ) → IsGroupsAfter ipv4 lead text gs → Small gs
small_after ipv4 lead [] text h = tt
small_after ipv4 lead (g ∷ gs) text (inl h) =
    let (group, rest, split, is, later) = h in
    (small_group g group (is.0.0, is.1, is.0.1), small_after ipv4 (58 ∷ []) gs rest later)
small_after ipv4 lead (g ∷ gs) text (inr h) =
    let (last, octets, allowed, split, dotted, value) = h in
    let fit = dotted.fit in
    let two : Small ((dotted.a * 256 + dotted.b) ∷ (dotted.c * 256 + dotted.d) ∷ []) = (omega (arith, fit.0, fit.1), (omega (arith, fit.2, fit.3), tt)) in
    subst (λ l. Small l) (sym (value ∙ ap segments_of dotted.value)) two

small_all : (text gs : List ℕ) → IsColonHex text gs → Small gs
small_all text gs (inl h) = small_after true [] gs text h.0
small_all text gs (inr h) =
    subst (λ l. Small l) (sym h.value)
    (small_both (h.head ++ replicate (8 - length h.head - length h.tail) 0) h.tail
    (small_both h.head (replicate (8 - length h.head - length h.tail) 0) (small_after false [] h.head h.head_text h.head_groups) (small_zeros (8 - length h.head - length h.tail)))
    (small_after true [] h.tail h.tail_text h.tail_groups))

pub colon_hex_small : (text gs : List ℕ) → IsColonHex text gs → (k : ℕ) → get_or gs k 0 < 2 ^ 16
colon_hex_small text gs h = small_at gs (small_all text gs h)
