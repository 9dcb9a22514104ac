-- What is read as an element is spelled so, and what is spelled so is read.
use Rattle.std.proofs.Common.{◌≡◌, ℕ, ◌+◌, ◌-◌, ◌^◌, ◌<◌, ◌≤◌, Bool, true, false, not, ◌&&◌, ltb, eqb, List, [], ◌∷◌, ◌++◌, length, get_or, take, drop, None, refl, sym, ap, subst, ◌∙◌, arith, append_assoc, length-append, length-take, length-drop}
use Rattle.std.proofs.lemmas.Bool.{not-false, le-ltb, ltb-false, or_parts, or_from, and_right, eqb-true, eq-eqb}
use Rattle.std.proofs.lemmas.List.{take_at, drop_at, take-append-drop, drop-drop, get_or-drop}
use Rattle.der_lite.specs.Place.{Place, place_of, first_of}
use Rattle.der_lite.specs.Der.{IsBytes, tlv, length_bytes, announced, told_length, is_length, length_part, tag_of, has_der_length, length_end, content_end, is_truncated, head_rules}
use Rattle.der_lite.specs.Grammar.{inside, KeepsRules}
use Rattle.der_lite.specs.DerReading.{content_place, next_place}
use Rattle.der_lite.proofs.Rules.{kept_first}
use Rattle.der_lite.proofs.Once.{front_bytes}
use Rattle.der_lite.proofs.Lengths.{length_tells, length_spells, told_spells}

-- bytes that begin with a tag and the bytes of a length
pub record Begins (bytes : List ℕ) (tag first : ℕ) (more after : List ℕ) : Type 0 where
  pub parts : bytes ≡ tag ∷ first ∷ (more ++ after)
  pub counted : announced first ≡ length more

module _ (bytes : List ℕ) (tag first : ℕ) (more after : List ℕ) (b : Begins bytes tag first more after) where
  -- the length bytes are those
  part_is : length_part bytes ≡ first ∷ more
  part_is = rw (b.parts, b.counted) (ap (λ (l : List ℕ). first ∷ l) (take_at more after (length more) refl))

  -- the tag is that one
  tag_is : tag_of bytes ≡ tag
  tag_is = rw (b.parts) refl

  -- whether the length is rightly spelled hangs on the length bytes alone
  has_is : has_der_length bytes ≡ is_length (first ∷ more)
  unfolding has_der_length
  has_is = ap is_length part_is

  -- where the length ends
  length_end_is : length_end bytes ≡ 2 + length more
  unfolding length_end
  length_end_is = rw (b.parts, b.counted) refl

  -- where the content ends
  content_end_is : content_end bytes ≡ 2 + length more + told_length (first ∷ more)
  unfolding content_end
  content_end_is = ap (λ (l : List ℕ). length_end bytes + told_length l) part_is ∙ ap (λ (k : ℕ). k + told_length (first ∷ more)) length_end_is

-- the place behind these bytes
abbrev pub behind : ℕ → List ℕ → List ℕ → Place
behind at front rest = place_of (at + length front) rest

-- the element of this content is at p; q is the place of its content, and r the place behind it
pub record Opens (tag : ℕ) (p q r : Place) : Type 0 where
  pub short : length q.rest < 2 ^ 32
  pub parts : p.rest ≡ tlv tag q.rest ++ r.rest
  pub q_is : q ≡ inside p.at q.rest
  pub r_is : r ≡ behind p.at (tlv tag q.rest) r.rest

-- an element of this tag is whole at the front, and its length is in the fewest bytes
pub record HasHead (tag : ℕ) (bytes : List ℕ) : Type 0 where
  pub whole : is_truncated bytes ≡ false
  pub tag_is : tag_of bytes ≡ tag
  pub fewest : has_der_length bytes ≡ true

-- if each of three rules is kept, all three are
kept_again : (a b c : Bool) → a ≡ false → b ≡ true → c ≡ true → first_of ((1, a) ∷ (2, not b) ∷ (3, not c) ∷ []) ≡ None
kept_again a b c ha hb hc = rw (ha, hb, hc) refl

-- bytes that keep the rules of a head have it
pub head_kept : (tag : ℕ) (bytes : List ℕ) → KeepsRules (head_rules tag bytes) → HasHead tag bytes
unfolding head_rules
head_kept tag bytes h =
    let k = kept_first 1 (is_truncated bytes) ((2, not (eqb (tag_of bytes) tag)) ∷ (3, not (has_der_length bytes)) ∷ []) h in
    let t = kept_first 2 (not (eqb (tag_of bytes) tag)) ((3, not (has_der_length bytes)) ∷ []) k.1 in
    let l = kept_first 3 (not (has_der_length bytes)) [] t.1 in
    record { whole = k.0; tag_is = eqb-true (tag_of bytes) tag (not-false (eqb (tag_of bytes) tag) t.0); fewest = not-false (has_der_length bytes) l.0 }

-- bytes that have a head keep its rules
pub head_keeps : (tag : ℕ) (bytes : List ℕ) → HasHead tag bytes → KeepsRules (head_rules tag bytes)
unfolding head_rules
head_keeps tag bytes h = kept_again (is_truncated bytes) (eqb (tag_of bytes) tag) (has_der_length bytes) h.whole (eq-eqb (tag_of bytes) tag h.tag_is) h.fewest

-- both ends are there
pub ends_stand : (bytes : List ℕ) → is_truncated bytes ≡ false → has_der_length bytes ≡ true → (length_end bytes ≤ length bytes) × (content_end bytes ≤ length bytes)
unfolding is_truncated
ends_stand bytes h k =
    let o = or_parts (ltb (length bytes) (length_end bytes)) (has_der_length bytes && ltb (length bytes) (content_end bytes)) h in
    let second : ltb (length bytes) (content_end bytes) ≡ false = rw k at o.1 in
    (ltb-false (length bytes) (length_end bytes) o.0, ltb-false (length bytes) (content_end bytes) second)

-- bytes in which a length ends begin with a tag and the bytes of a length
begins : (bytes : List ℕ) → length_end bytes ≤ length bytes → Begins bytes (tag_of bytes) (get_or bytes 1 0) (take (announced (get_or bytes 1 0)) (drop 2 bytes)) (drop (announced (get_or bytes 1 0)) (drop 2 bytes))
unfolding length_end
begins [] h = absurd (omega arith)
begins (a ∷ []) h = absurd (omega arith)
begins (a ∷ b ∷ bytes) h =
    let k = announced b in
    record {
      parts = ap (λ (l : List ℕ). a ∷ b ∷ l) (sym (take-append-drop k bytes));
      counted = omega (arith, length-take k bytes);
    }

-- the front of bytes is bytes
pub IsBytes-take : (n : ℕ) (bytes : List ℕ) → IsBytes bytes → IsBytes (take n bytes)
IsBytes-take n bytes h = front_bytes (take n bytes) (drop n bytes) (subst (λ (l : List ℕ). IsBytes l) (sym (take-append-drop n bytes)) h)

-- what is behind a front of bytes is bytes
pub IsBytes-drop : (n : ℕ) (bytes : List ℕ) → IsBytes bytes → IsBytes (drop n bytes)
IsBytes-drop n bytes h i = rw get_or-drop (h (n + i))

-- the bytes are cut into an element and what is behind it, where the length and the content end
pub record Cut (tag : ℕ) (bytes : List ℕ) (le ce : ℕ) : Type 0 where
  pub short : length (take (ce - le) (drop le bytes)) < 2 ^ 32
  pub parts : bytes ≡ tlv tag (take (ce - le) (drop le bytes)) ++ drop ce bytes
  pub head_len : le ≡ 1 + length (length_bytes (length (take (ce - le) (drop le bytes))))
  pub all_len : ce ≡ length (tlv tag (take (ce - le) (drop le bytes)))

-- bytes that begin with a tag and the bytes of a length are cut so
cut : (tag first n le ce : ℕ) (bytes more : List ℕ) → bytes ≡ tag ∷ first ∷ (more ++ drop le bytes) → le ≡ 2 + length more → ce ≡ le + n → ce ≤ length bytes → length_bytes n ≡ first ∷ more → n < 2 ^ 32 → Cut tag bytes le ce
cut tag first n le ce bytes more parts le_is ce_is long spelled short =
    let content : List ℕ = take (ce - le) (drop le bytes) in
    let len : length content ≡ n = omega (arith, length-take (ce - le) (drop le bytes), length-drop le bytes) in
    let bytes_of_len : length_bytes (length content) ≡ first ∷ more = rw len spelled in
    let behind_it : drop (ce - le) (drop le bytes) ≡ drop ce bytes = drop-drop (ce - le) le bytes ∙ ap (λ (k : ℕ). drop k bytes) (omega arith) in
    let joined : content ++ drop ce bytes ≡ drop le bytes = rw (← behind_it) (take-append-drop (ce - le) (drop le bytes)) in
    let tlv_is : tlv tag content ≡ tag ∷ first ∷ (more ++ content) = rw bytes_of_len refl in
    record {
      short = omega arith;
      parts = parts ∙ sym (ap (λ (l : List ℕ). l ++ drop ce bytes) tlv_is ∙ ap (λ (l : List ℕ). tag ∷ first ∷ l) (append_assoc more content (drop ce bytes) ∙ ap (λ (l : List ℕ). more ++ l) joined));
      head_len = omega (arith, ap (λ (l : List ℕ). length l) bytes_of_len);
      all_len = omega (arith, ap (λ (l : List ℕ). length l) tlv_is, length-append more content);
    }

-- the element at the place
pub stands : (tag : ℕ) (p : Place) → IsBytes p.rest → KeepsRules (head_rules tag p.rest) → Opens tag p (content_place p) (next_place p)
unfolding content_place next_place
stands tag p bytes kept =
    let hd = head_kept tag p.rest kept in
    let ends = ends_stand p.rest hd.whole hd.fewest in
    let b = begins p.rest ends.0 in
    let first = get_or p.rest 1 0 in
    let more = take (announced first) (drop 2 p.rest) in
    let after = drop (announced first) (drop 2 p.rest) in
    let le_is = length_end_is p.rest (tag_of p.rest) first more after b in
    let ce_is = content_end_is p.rest (tag_of p.rest) first more after b in
    let told = told_spells first more (IsBytes-take (announced first) (drop 2 p.rest) (IsBytes-drop 2 p.rest bytes)) b.counted (sym (has_is p.rest (tag_of p.rest) first more after b) ∙ hd.fewest) in
    let after_is : after ≡ drop (length_end p.rest) p.rest = drop-drop (announced first) 2 p.rest ∙ ap (λ (k : ℕ). drop k p.rest) (omega (arith, b.counted, le_is)) in
    let parts : p.rest ≡ tag ∷ first ∷ (more ++ drop (length_end p.rest) p.rest) = b.parts ∙ rw (hd.tag_is, after_is) refl in
    let c = cut tag first (told_length (first ∷ more)) (length_end p.rest) (content_end p.rest) p.rest more parts le_is (ce_is ∙ omega arith) ends.1 told.0 told.1 in
    record {
      short = c.short;
      parts = c.parts;
      q_is = ap (λ (k : ℕ). place_of k (take (content_end p.rest - length_end p.rest) (drop (length_end p.rest) p.rest))) (omega (arith, c.head_len));
      r_is = ap (λ (k : ℕ). place_of k (drop (content_end p.rest) p.rest)) (ap (λ (k : ℕ). p.at + k) c.all_len);
    }

-- what is there again
pub record Again (tag at : ℕ) (content bytes rest : List ℕ) : Type 0 where
  pub kept : KeepsRules (head_rules tag bytes)
  pub content_is : content_place (place_of at bytes) ≡ inside at content
  pub next_is : next_place (place_of at bytes) ≡ behind at (tlv tag content) rest

again : (tag at first : ℕ) (content bytes more rest : List ℕ) → Begins bytes tag first more (content ++ rest) → length_bytes (length content) ≡ first ∷ more → told_length (first ∷ more) ≡ length content → is_length (first ∷ more) ≡ true → Again tag at content bytes rest
unfolding content_place next_place is_truncated
again tag at first content bytes more rest b spelled told fewest =
    let after = content ++ rest in
    let le_is = length_end_is bytes tag first more after b in
    let ce_is : content_end bytes ≡ 2 + length more + length content = content_end_is bytes tag first more after b ∙ ap (λ (k : ℕ). 2 + length more + k) told in
    let long : length bytes ≡ 2 + length more + length content + length rest = omega (arith, ap (λ (l : List ℕ). length l) b.parts, length-append more after, length-append content rest) in
    let whole : is_truncated bytes ≡ false = or_from (ltb (length bytes) (length_end bytes)) (has_der_length bytes && ltb (length bytes) (content_end bytes)) (le-ltb _ _ (omega arith)) (and_right (has_der_length bytes) (ltb (length bytes) (content_end bytes)) (le-ltb _ _ (omega arith))) in
    let tlv_is : tlv tag content ≡ tag ∷ first ∷ (more ++ content) = rw spelled refl in
    let tlv_len : length (tlv tag content) ≡ 2 + length more + length content = omega (arith, ap (λ (l : List ℕ). length l) tlv_is, length-append more content) in
    let front : bytes ≡ (tag ∷ first ∷ more) ++ (content ++ rest) = b.parts in
    let head_len : length (tag ∷ first ∷ more) ≡ length_end bytes = omega arith in
    let behind_head : drop (length_end bytes) bytes ≡ content ++ rest = ap (drop (length_end bytes)) front ∙ drop_at (tag ∷ first ∷ more) (content ++ rest) (length_end bytes) head_len in
    let len : length content ≡ content_end bytes - length_end bytes = omega arith in
    let taken : take (content_end bytes - length_end bytes) (drop (length_end bytes) bytes) ≡ content = ap (take (content_end bytes - length_end bytes)) behind_head ∙ take_at content rest (content_end bytes - length_end bytes) len in
    let dropped : drop (content_end bytes) bytes ≡ rest =
    ap (λ (k : ℕ). drop k bytes) (omega arith) ∙ sym (drop-drop (content_end bytes - length_end bytes) (length_end bytes) bytes)
    ∙ ap (drop (content_end bytes - length_end bytes)) behind_head ∙ drop_at content rest (content_end bytes - length_end bytes) len in
    let at_content : at + length_end bytes ≡ at + 1 + length (length_bytes (length content)) = omega (arith, ap (λ (l : List ℕ). length l) spelled) in
    let at_next : at + content_end bytes ≡ at + length (tlv tag content) = omega arith in
    record {
      kept = head_keeps tag bytes (record { whole = whole; tag_is = tag_is bytes tag first more after b; fewest = has_is bytes tag first more after b ∙ fewest });
      content_is = ap (λ (k : ℕ). place_of k (take (content_end bytes - length_end bytes) (drop (length_end bytes) bytes))) at_content ∙ ap (place_of (at + 1 + length (length_bytes (length content)))) taken;
      next_is = ap (λ (k : ℕ). place_of k (drop (content_end bytes) bytes)) at_next ∙ ap (place_of (at + length (tlv tag content))) dropped;
    }

-- a spelled element is where it is spelled
pub stands_again : (tag at : ℕ) (content rest : List ℕ) → length content < 2 ^ 32 → Again tag at content (tlv tag content ++ rest) rest
stands_again tag at content rest short =
    let t = length_tells (length content) short in
    let b : Begins (tlv tag content ++ rest) tag t.0 t.1 (content ++ rest) = record {
      parts = ap (λ (l : List ℕ). (tag ∷ l ++ content) ++ rest) t.2.spelled ∙ ap (λ (l : List ℕ). tag ∷ t.0 ∷ l) (append_assoc t.1 content rest);
      counted = t.2.counted;
    } in
    again tag at t.0 content (tlv tag content ++ rest) t.1 rest b t.2.spelled t.2.told (length_spells (length content) t.0 t.1 t.2)

-- the content of bytes is bytes
pub content_bytes : (p : Place) → IsBytes p.rest → IsBytes (content_place p).rest
unfolding content_place
content_bytes p bytes = IsBytes-take (content_end p.rest - length_end p.rest) (drop (length_end p.rest) p.rest) (IsBytes-drop (length_end p.rest) p.rest bytes)
