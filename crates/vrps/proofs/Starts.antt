-- Where groups begin, record by record.
use Rattle.std.proofs.Common.{◌≡◌, ◌∙◌, ◌⊎◌, inl, inr, ℕ, suc, ◌+◌, ◌-◌, ◌<◌, ◌≤◌, true, false, cond, List, [], ◌∷◌, ◌++◌, map, length, get_or, drop, ap, sym, subst, refl, arith}
use Rattle.std.specs.List.{All, dedup_from}
use Rattle.std.specs.List.Sorted.{IsStrictlySortedBy}
use Rattle.std.specs.Ordering.{is_eq, nat_cmp, ordering_then}
use Rattle.std.specs.declared.cmp.Ordering.{Ordering}
use Rattle.std.specs.declared.cmp.Ordering.TheVariants.{Less, Equal, Greater}
use Rattle.std.proofs.lemmas.Bool.{cases_lt}
use Rattle.std.proofs.lemmas.Cmp.{tied_back}
use Rattle.std.proofs.lemmas.List.{drop_all, drop_more, get_or-append-add, get_or_append_left, get_or_default, get_or_past, length_push}
use Rattle.std.proofs.lemmas.Map.Keys.{Less-from_sorted}
use Rattle.prefixes.specs.Payload.{Payload, IsPayload, prefix_cmp, vrp_cmp}
use Rattle.prefixes.specs.declared.prefix.IpPrefix.{IpPrefix}
use Rattle.prefixes.specs.Orders.{prefix_exact, prefix_total}
use Rattle.vrps.specs.Groups.{AreGroups, prefixes_of, same_prefix}

-- where a group begins, of the groups of the records before an end
abbrev pub begins : List ℕ → ℕ → ℕ → ℕ
begins starts end place = get_or starts place end

-- the groups of the records before an end
pub record AreGroupsTo (records : List Payload) (starts : List ℕ) (end : ℕ) : Type 0 where
  pub first : begins starts end 0 ≡ 0
  pub grow : (i : ℕ) → i < length starts → begins starts end i < begins starts end (i + 1)
  pub within : (i : ℕ) → begins starts end i ≤ end
  pub one_prefix : (i k : ℕ) (d : Payload) → begins starts end i ≤ k → k < begins starts end (i + 1) → (get_or records k d).prefix ≡ (get_or records (begins starts end i) d).prefix
  pub ascend : (i k : ℕ) (d : Payload) → i < length starts → k < begins starts end i → prefix_cmp (get_or records k d).prefix (get_or records (begins starts end i) d).prefix ≡ Less

pub none_yet : (records : List Payload) → AreGroupsTo records [] 0
none_yet records = record {
  first = refl;
  grow = λ i low. absurd (omega (arith, low));
  within = λ i. omega arith;
  one_prefix = λ i k d from to. absurd (omega (arith, to));
  ascend = λ i k d low from. absurd (omega (arith, low));
}

module _ (records : List Payload) (starts : List ℕ) (end : ℕ) (g : AreGroupsTo records starts end) where
  past_end : (i e : ℕ) → length starts ≤ i → begins starts e i ≡ e
  past_end i e past = get_or_past starts i e past

  inside : (i d e : ℕ) → i < length starts → begins starts d i ≡ begins starts e i
  inside i d e low = get_or_default starts i d e low

  -- The next record has the prefix of the one before it.
  pub same_group : 0 < end → ((d : Payload) → (get_or records end d).prefix ≡ (get_or records (end - 1) d).prefix) → AreGroupsTo records starts (end + 1)
  same_group some same =
      let not_empty : 0 < length starts = elim (cases_lt 0 (length starts)) [
        | inl h ↦ h
        | inr none ↦ absurd (let a = past_end 0 end none in let b = g.first in omega (arith, a, b, some))
      ] in
      record {
        first = inside 0 (end + 1) end not_empty ∙ g.first;
        grow = λ i low. let a = inside i (end + 1) end low in let b = g.grow i low in let c = later (i + 1) in omega (arith, a, b, c);
        within = λ i. elim (cases_lt i (length starts)) [
          | inl low ↦ let a = inside i (end + 1) end low in let b = g.within i in omega (arith, a, b)
          | inr past ↦ let a = past_end i (end + 1) past in omega (arith, a)
        ];
        one_prefix = λ i k d from to. elim (cases_lt i (length starts)) [
          | inl low ↦
              let a = inside i (end + 1) end low in
              let at : (get_or records (begins starts (end + 1) i) d).prefix ≡ (get_or records (begins starts end i) d).prefix = ap (λ n. (get_or records n d).prefix) a in
              elim (cases_lt k (begins starts end (i + 1))) [
                | inl before ↦ g.one_prefix i k d (omega (arith, a, from)) before ∙ sym at
                | inr last ↦
                    let is_end = end_of i k low last to in
                    let b = g.grow i low in
                    let c = g.within (i + 1) in
                    let prev = g.one_prefix i (end - 1) d (omega (arith, b, is_end.1)) (omega (arith, some, is_end.1)) in
                    ap (λ n. (get_or records n d).prefix) is_end.0 ∙ same d ∙ prev ∙ sym at
              ]
          | inr past ↦ absurd (let a = past_end i (end + 1) past in let b = past_end (i + 1) (end + 1) (omega (arith, past)) in omega (arith, a, b, from, to))
        ];
        ascend = λ i k d low before.
            let a = inside i (end + 1) end low in
            subst (λ n. prefix_cmp (get_or records k d).prefix (get_or records n d).prefix ≡ Less) (sym a) (g.ascend i k d low (omega (arith, a, before)));
      }
    where
      later : (i : ℕ) → begins starts end i ≤ begins starts (end + 1) i
      later i = elim (cases_lt i (length starts)) [
        | inl low ↦ let a = inside i (end + 1) end low in omega (arith, a)
        | inr past ↦ let a = past_end i (end + 1) past in let b = past_end i end past in omega (arith, a, b)
      ]

      end_of : (i k : ℕ) → i < length starts → begins starts end (i + 1) ≤ k → k < begins starts (end + 1) (i + 1) → (k ≡ end) × (begins starts end (i + 1) ≡ end)
      end_of i k low last to = elim (cases_lt (i + 1) (length starts)) [
        | inl more ↦ absurd (let a = inside (i + 1) (end + 1) end more in omega (arith, a, last, to))
        | inr past ↦ let a = past_end (i + 1) (end + 1) past in let b = past_end (i + 1) end past in (omega (arith, a, b, last, to), b)
      ]

  -- The next record has a prefix above those of all before it.
  pub new_group : ((k : ℕ) (d : Payload) → k < end → prefix_cmp (get_or records k d).prefix (get_or records end d).prefix ≡ Less) → AreGroupsTo records (starts ++ end ∷ []) (end + 1)
  new_group above = record {
    first = kept 0 (omega arith) ∙ g.first;
    grow = λ i low. elim (cases_lt i (length starts)) [
      | inl less ↦ let a = kept i (omega (arith, less)) in let b = kept (i + 1) (omega (arith, less)) in let c = g.grow i less in omega (arith, a, b, c)
      | inr last ↦ let a = at_last i low last in let b = after_last (i + 1) (omega (arith, last)) in omega (arith, a, b)
    ];
    within = λ i. elim (cases_lt (length starts) i) [
      | inl past ↦ let a = after_last i past in omega (arith, a)
      | inr low ↦ let a = kept i low in let b = g.within i in omega (arith, a, b)
    ];
    one_prefix = λ i k d from to. elim (cases_lt i (length starts)) [
      | inl less ↦
          let a = kept i (omega (arith, less)) in
          let b = kept (i + 1) (omega (arith, less)) in
          g.one_prefix i k d (omega (arith, a, from)) (omega (arith, b, to)) ∙ ap (λ n. (get_or records n d).prefix) (sym a)
      | inr past ↦ elim (cases_lt (length starts) i) [
        | inl more ↦ absurd (let a = after_last i more in let b = after_last (i + 1) (omega (arith, more)) in omega (arith, a, b, from, to))
        | inr last ↦
            let a : begins (starts ++ end ∷ []) (end + 1) i ≡ end = kept i last ∙ past_end i end past in
            let b = after_last (i + 1) (omega (arith, past)) in
            let is : k ≡ begins (starts ++ end ∷ []) (end + 1) i = omega (arith, a, b, from, to) in
            ap (λ n. (get_or records n d).prefix) is
      ]
    ];
    ascend = λ i k d low before. elim (cases_lt i (length starts)) [
      | inl less ↦
          let a = kept i (omega (arith, less)) in
          subst (λ n. prefix_cmp (get_or records k d).prefix (get_or records n d).prefix ≡ Less) (sym a) (g.ascend i k d less (omega (arith, a, before)))
      | inr last ↦
          let a = at_last i low last in
          subst (λ n. prefix_cmp (get_or records k d).prefix (get_or records n d).prefix ≡ Less) (sym a) (above k d (omega (arith, a, before)))
    ];
  }
    where
      kept : (i : ℕ) → i ≤ length starts → begins (starts ++ end ∷ []) (end + 1) i ≡ begins starts end i
      kept i low = elim (cases_lt i (length starts)) [
        | inl less ↦ get_or_append_left starts (end ∷ []) (end + 1) i less ∙ get_or_default starts i (end + 1) end less
        | inr past ↦
            let is : i ≡ length starts + 0 = omega (arith, low, past) in
            ap (λ n. get_or (starts ++ end ∷ []) n (end + 1)) is ∙ get_or-append-add starts (end ∷ []) 0 (end + 1) ∙ sym (past_end i end past)
      ]

      at_last : (i : ℕ) → i < length (starts ++ end ∷ []) → length starts ≤ i → begins (starts ++ end ∷ []) (end + 1) i ≡ end
      at_last i low past = let size = length_push starts end in kept i (omega (arith, low, size)) ∙ past_end i end past

      after_last : (i : ℕ) → length starts < i → begins (starts ++ end ∷ []) (end + 1) i ≡ end + 1
      after_last i past = let size = length_push starts end in get_or_past (starts ++ end ∷ []) i (end + 1) (omega (arith, size, past))

-- how many prefixes follow one that was counted
abbrev pub more_prefixes : IpPrefix → List IpPrefix → ℕ
more_prefixes k [] = 0
more_prefixes k (p ∷ ps) = cond (same_prefix p k) (more_prefixes k ps) (suc (more_prefixes p ps))

pub counted_from : (k : IpPrefix) (ps : List IpPrefix) → length (dedup_from same_prefix k ps) ≡ suc (more_prefixes k ps)
counted_from k [] = refl
counted_from k (p ∷ ps) =
    elim (same_prefix p k) as (λ b. length (cond b (dedup_from same_prefix k ps) (k ∷ dedup_from same_prefix p ps)) ≡ suc (cond b (more_prefixes k ps) (suc (more_prefixes p ps)))) [
      | true ↦ counted_from k ps
      | false ↦ ap suc (counted_from p ps)
    ]

-- prefixes that compare equal are equal
pub is_one : (p q : IpPrefix) → same_prefix p q ≡ true → p ≡ q
is_one p q h = prefix_exact p q (equal (prefix_cmp p q) h)
  where
    equal : (o : Ordering) → is_eq o ≡ true → o ≡ Equal
    equal Less h = absurd (let e : false ≡ true = h in cc)
    equal Equal h = refl
    equal Greater h = absurd (let e : false ≡ true = h in cc)

-- what the records from an end on add
abbrev pub Counts : List Payload → List ℕ → ℕ → Type 0
Counts records starts end =
    (end ≡ 0 → length starts ≡ 0) × ((d : Payload) → 0 < end → length starts + more_prefixes (get_or records (end - 1) d).prefix (map (λ v. v.prefix) (drop end records)) ≡ length (prefixes_of records))

-- the prefix of a record is not above that of a later one
not_above : (v w : Payload) → vrp_cmp v w ≡ Less → (prefix_cmp v.prefix w.prefix ≡ Less) ⊎ (prefix_cmp v.prefix w.prefix ≡ Equal)
not_above v w h =
    elim (prefix_cmp v.prefix w.prefix) as (λ o. prefix_cmp v.prefix w.prefix ≡ o → (prefix_cmp v.prefix w.prefix ≡ Less) ⊎ (prefix_cmp v.prefix w.prefix ≡ Equal)) [
      | Less ↦ λ is. inl is
      | Equal ↦ λ is. inr is
      | Greater ↦ λ is. absurd (let e = subst (λ o. ordering_then o (ordering_then (nat_cmp v.max_len w.max_len) (nat_cmp v.asn w.asn)) ≡ Less) is h in cc)
    ] refl

-- If a record's prefix differs from that of the one before it, it is above those of all before it.
pub above_all : (records : List Payload) → IsStrictlySortedBy vrp_cmp records → (end : ℕ) → 0 < end → end < length records → ((d : Payload) → same_prefix (get_or records end d).prefix (get_or records (end - 1) d).prefix ≡ false)
    → (k : ℕ) (d : Payload) → k < end → prefix_cmp (get_or records k d).prefix (get_or records end d).prefix ≡ Less
above_all records ascends end some within differs k d low =
    let before : prefix_cmp (get_or records (end - 1) d).prefix (get_or records end d).prefix ≡ Less = elim (not_above (get_or records (end - 1) d) (get_or records end d) (Less-from_sorted vrp_cmp records (end - 1) end d ascends (omega (arith, some)) within)) [
      | inl less ↦ less
      | inr tie ↦ absurd (let e : true ≡ false = sym (ap is_eq (tied_back prefix_total (get_or records (end - 1) d).prefix (get_or records end d).prefix tie)) ∙ differs d in cc)
    ] in
    elim (cases_lt k (end - 1)) [
      | inl less ↦ elim (not_above (get_or records k d) (get_or records (end - 1) d) (Less-from_sorted vrp_cmp records k (end - 1) d ascends less (omega (arith, within)))) [
        | inl below ↦ prefix_total.trans (get_or records k d).prefix (get_or records (end - 1) d).prefix (get_or records end d).prefix below before
        | inr tie ↦ prefix_total.congr (get_or records k d).prefix (get_or records (end - 1) d).prefix (get_or records end d).prefix tie ∙ before
      ]
      | inr last ↦ let is : k ≡ end - 1 = omega (arith, low, last) in subst (λ n. prefix_cmp (get_or records n d).prefix (get_or records end d).prefix ≡ Less) (sym is) before
    ]

-- what a record adds, if it is the first one, one of another prefix, or one of the same
pub counts_first : (records : List Payload) (starts : List ℕ) (end : ℕ) → end ≡ 0 → 0 < length records → Counts records starts end → Counts records (starts ++ end ∷ []) (end + 1)
counts_first records starts end none some h = (
  λ e. absurd (omega (arith, e)),
  λ d _.
      let size = length_push starts end in
      let empty = h.0 none in
      let back : end + 1 - 1 ≡ 0 = omega (arith, none) in
      let one : length (starts ++ end ∷ []) ≡ 1 = omega (arith, size, empty) in
      let next : end + 1 ≡ 1 = omega (arith, none) in
      (λ i. one i + more_prefixes (get_or records (back i) d).prefix (map (λ v. v.prefix) (drop (next i) records))) ∙ by_list records d some,
)
  where
    by_list : (rs : List Payload) (d : Payload) → 0 < length rs → 1 + more_prefixes (get_or rs 0 d).prefix (map (λ v. v.prefix) (drop 1 rs)) ≡ length (prefixes_of rs)
    by_list [] d some = absurd (omega (arith, some))
    by_list (r ∷ rs) d some = one_more (more_prefixes r.prefix (map (λ v. v.prefix) rs)) ∙ sym (counted_from r.prefix (map (λ v. v.prefix) rs))
      where
        one_more : (n : ℕ) → 1 + n ≡ suc n
        one_more n = omega arith

next_record : (records : List Payload) (end : ℕ) (d : Payload) (k : IpPrefix) → end < length records
    → more_prefixes k (map (λ v. v.prefix) (drop end records)) ≡ cond (same_prefix (get_or records end d).prefix k) (more_prefixes k (map (λ v. v.prefix) (drop (end + 1) records))) (suc (more_prefixes (get_or records end d).prefix (map (λ v. v.prefix) (drop (end + 1) records))))
next_record records end d k within = ap (λ l. more_prefixes k (map (λ v. v.prefix) l)) (drop_more records end d within)

pub counts_other : (records : List Payload) (starts : List ℕ) (end : ℕ) → 0 < end → end < length records → ((d : Payload) → same_prefix (get_or records end d).prefix (get_or records (end - 1) d).prefix ≡ false)
    → Counts records starts end → Counts records (starts ++ end ∷ []) (end + 1)
counts_other records starts end some within differs h = (
  λ e. absurd (omega (arith, e)),
  λ d _.
      let size = length_push starts end in
      let old = h.1 d some in
      let more = next_record records end d (get_or records (end - 1) d).prefix within ∙ ap (λ b. cond b (more_prefixes (get_or records (end - 1) d).prefix (map (λ v. v.prefix) (drop (end + 1) records))) (suc (more_prefixes (get_or records end d).prefix (map (λ v. v.prefix) (drop (end + 1) records))))) (differs d) in
      let back : end + 1 - 1 ≡ end = omega arith in
      let now = ap (λ n. more_prefixes (get_or records n d).prefix (map (λ v. v.prefix) (drop (end + 1) records))) back in
      omega (arith, size, old, more, now),
)

pub counts_same : (records : List Payload) (starts : List ℕ) (end : ℕ) → 0 < end → end < length records → ((d : Payload) → same_prefix (get_or records end d).prefix (get_or records (end - 1) d).prefix ≡ true)
    → Counts records starts end → Counts records starts (end + 1)
counts_same records starts end some within same h = (
  λ e. absurd (omega (arith, e)),
  λ d _.
      let old = h.1 d some in
      let more = next_record records end d (get_or records (end - 1) d).prefix within ∙ ap (λ b. cond b (more_prefixes (get_or records (end - 1) d).prefix (map (λ v. v.prefix) (drop (end + 1) records))) (suc (more_prefixes (get_or records end d).prefix (map (λ v. v.prefix) (drop (end + 1) records))))) (same d) in
      let back : end + 1 - 1 ≡ end = omega arith in
      let one = is_one _ _ (same d) in
      let now = ap (λ n. more_prefixes (get_or records n d).prefix (map (λ v. v.prefix) (drop (end + 1) records))) back
      ∙ ap (λ p. more_prefixes p (map (λ v. v.prefix) (drop (end + 1) records))) one in
      omega (arith, old, more, now),
)

pub all_groups : (records : List Payload) (starts : List ℕ) (end : ℕ) → end ≡ length records → All IsPayload records → AreGroupsTo records starts end → Counts records starts end → AreGroups records starts
all_groups records starts end is payloads g h =
    let at = subst (λ n. AreGroupsTo records starts n) is g in
    let counts = subst (λ n. Counts records starts n) is h in
    record {
      payloads = payloads;
      counted = by_list records payloads counts;
      first = at.first;
      grow = at.grow;
      within = at.within;
      one_prefix = at.one_prefix;
      ascend = at.ascend;
    }
  where
    by_list : (rs : List Payload) → All IsPayload rs → Counts rs starts (length rs) → length starts ≡ length (prefixes_of rs)
    by_list [] all counts = counts.0 refl
    by_list (r ∷ rs) all counts =
        let total = counts.1 r (omega arith) in
        let none = ap (λ l. more_prefixes (get_or (r ∷ rs) (suc (length rs) - 1) r).prefix (map (λ v. v.prefix) l)) (drop_all (length rs) rs (omega arith)) in
        omega (arith, total, none)
