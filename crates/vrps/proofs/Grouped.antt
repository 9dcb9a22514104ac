-- What holds of sorted groups, by their places.
use Rattle.std.proofs.Common.{◌≡◌, ◌∙◌, inl, inr, ℕ, zero, suc, ◌+◌, ◌-◌, ◌*◌, ◌^◌, ◌<◌, ◌≤◌, true, false, List, length, get_or, ap, sym, subst, refl, arith}
use Rattle.std.specs.Prelude.{nat_lt}
use Rattle.std.specs.Int.Digits.{digits_of}
use Rattle.std.specs.Ordering.{is_le}
use Rattle.std.specs.declared.cmp.Ordering.TheVariants.{Less, Equal, Greater}
use Rattle.std.proofs.Math.Nat.{mul-le-mul_left, mul-le-mul_right, pow-le-pow_right}
use Rattle.std.proofs.lemmas.Bool.{cases_lt}
use Rattle.std.proofs.lemmas.Bool.Decides.{nat_tests}
use Rattle.std.proofs.lemmas.Cmp.{alike_right}
use Rattle.std.proofs.lemmas.Int.Digits.{all_below_base_digits_of, number_digits_of, number_lt}
use Rattle.std.proofs.lemmas.List.{get_or_default}
use Rattle.std.proofs.lemmas.List.Edits.{get_or-between, length-between}
use Rattle.std.proofs.lemmas.Nat.{pow-add}
use Rattle.prefixes.specs.Address.{IsPrefix}
use Rattle.prefixes.specs.Payload.{Payload, block_of, covers, prefix_cmp, width_of}
use Rattle.prefixes.specs.declared.prefix.IpPrefix.{IpPrefix}
use Rattle.prefixes.specs.Orders.{prefix_total}
use Rattle.vrps.specs.Groups.{AreGroups, begin, group_at, prefix_at}
use Rattle.vrps.specs.Keys.{agree, cut, up_to}
use Rattle.vrps.specs.Search.{CostsDigits, CostsLengths, IsLeft, IsNextGroup, IsUpTo, NoneCovers, digit_count}
use Rattle.vrps.proofs.Blocks.{agrees_before, longer_after, shorter_before}
use Rattle.prefixes.proofs.Basics.{false_if_never}

module _ (records : List Payload) (starts : List ℕ) (g : AreGroups records starts) where
  -- where groups begin rises with their places
  rises : (i j n : ℕ) → j ≡ i + n + 1 → j ≤ length starts → begin records starts i < begin records starts j
  rises i j zero e le =
      let is : j ≡ i + 1 = omega (arith, e) in
      subst (λ m. begin records starts i < begin records starts m) (sym is) (g.grow i (omega (arith, e, le)))
  rises i j (suc n) e le =
      let before = rises i (i + n + 1) n refl (omega (arith, e, le)) in
      let last = g.grow (i + n + 1) (omega (arith, e, le)) in
      let is : j ≡ i + n + 1 + 1 = omega (arith, e) in
      subst (λ m. begin records starts i < begin records starts m) (sym is) (omega (arith, before, last))

  pub begins_below : (i j : ℕ) → i < j → j ≤ length starts → begin records starts i < begin records starts j
  begins_below i j low le = rises i j (j - i - 1) (omega (arith, low)) le

  pub begins_up_to : (i j : ℕ) → i ≤ j → j ≤ length starts → begin records starts i ≤ begin records starts j
  begins_up_to i j low le = elim (cases_lt i j) [
    | inl less ↦ let k = begins_below i j less le in omega (arith, k)
    | inr more ↦ let same : i ≡ j = omega (arith, low, more) in let k = ap (λ n. begin records starts n) same in omega (arith, k)
  ]

  -- the first record of a group
  pub first_of : (i : ℕ) (d : Payload) → i < length starts → get_or (group_at records starts i) 0 d ≡ get_or records (begin records starts i) d
  first_of i d low =
      let some = g.grow i low in
      let none : begin records starts i + 0 ≡ begin records starts i = omega arith in
      get_or-between records (begin records starts i) (begin records starts (i + 1)) 0 d (omega (arith, some)) ∙ ap (λ n. get_or records n d) none

  pub size_of : (i : ℕ) → i < length starts → 0 < length (group_at records starts i)
  size_of i low =
      let some = g.grow i low in
      let size = length-between records (begin records starts i) (begin records starts (i + 1)) (g.within (i + 1)) in
      omega (arith, some, size)

  pub begins_within : (i : ℕ) → i < length starts → begin records starts i < length records
  begins_within i low = let some = g.grow i low in let end = g.within (i + 1) in omega (arith, some, end)

  -- the group of a record
  pub place_of : (k n : ℕ) → n ≤ length starts → k < begin records starts n → (i : ℕ) × (i < n) × (begin records starts i ≤ k) × (k < begin records starts (i + 1))
  place_of k zero le low = absurd (let first = g.first in omega (arith, low, first))
  place_of k (suc n) le low = elim (cases_lt k (begin records starts n)) [
    | inl less ↦ let found = place_of k n (omega (arith, le)) less in (found.0, omega (arith, found.1), found.2, found.3)
    | inr more ↦ let one : suc n ≡ n + 1 = omega arith in (n, omega arith, more, subst (λ m. k < begin records starts m) one low)
  ]

  -- A group after one that is after a prefix is after it.
  pub stays_after : (i j : ℕ) (d : Payload) (key : IpPrefix) → up_to (prefix_at records starts i d) key ≡ false → i ≤ j → j < length starts → up_to (prefix_at records starts j d) key ≡ false
  stays_after i j d key after low within = elim (cases_lt i j) [
    | inl less ↦ later (prefix_at records starts i d) (prefix_at records starts j d) (g.ascend j (begin records starts i) d within (begins_below i j less (omega (arith, within)))) after
    | inr more ↦ let same : i ≡ j = omega (arith, low, more) in subst (λ n. up_to (prefix_at records starts n d) key ≡ false) same after
  ]
    where
      later : (p q : IpPrefix) → prefix_cmp p q ≡ Less → up_to p key ≡ false → up_to q key ≡ false
      later p q less h =
          elim (prefix_cmp q key) as (λ o. prefix_cmp q key ≡ o → is_le o ≡ false) [
            | Less ↦ λ is. absurd (let e : true ≡ false = sym (ap is_le (prefix_total.trans p q key less is)) ∙ h in cc)
            | Equal ↦ λ is. absurd (let e : true ≡ false = sym (ap is_le (sym (alike_right prefix_total q key p is) ∙ less)) ∙ h in cc)
            | Greater ↦ λ is. refl
          ] refl

  payload_at : (k : ℕ) (d : Payload) → k < length records → IsPrefix (width_of (get_or records k d).prefix) (block_of (get_or records k d).prefix)
  payload_at k d low = (g.payloads k d low).prefix

  -- What is after the cut, and is not longer than it, doesn't cover.
  pub none_after : (prefix : IpPrefix) (places lengths c found : ℕ) → IsLeft records starts prefix places lengths → lengths ≡ c + 1 → IsUpTo records starts places (cut prefix c) found
      → NoneCovers records prefix (begin records starts found) (begin records starts places)
  none_after prefix places lengths c found left is up k d low high = false_if_never _ (λ it.
      let in_places = left.in_places in
      let in_lengths = left.in_lengths in
      let in_family = left.in_family in
      let place = place_of k places left.in_places high in
      let at : found ≤ place.0 = elim (cases_lt place.0 found) [
        | inl less ↦ absurd (let past = begins_up_to (place.0 + 1) found (omega (arith, less)) (let f = up.fewer in omega (arith, f, in_places)) in omega (arith, past, low, place.3))
        | inr more ↦ more
      ] in
      let same = g.one_prefix place.0 k d place.2 place.3 in
      let after : up_to (get_or records k d).prefix (cut prefix c) ≡ false = ap (λ p. up_to p (cut prefix c)) same ∙ up.after place.0 d at place.1 in
      let longer = longer_after (get_or records k d).prefix prefix c (payload_at k d (let w = g.within places in omega (arith, high, w))) (omega (arith, is, in_lengths, in_family)) after it in
      let shorter = left.shorter k d high it in
      absurd (omega (arith, longer, shorter, is)))

  -- If none covers from one place on to a second, and from there to a third
  pub none_joined : (prefix : IpPrefix) (low middle high : ℕ) → NoneCovers records prefix low middle → NoneCovers records prefix middle high → NoneCovers records prefix low high
  none_joined prefix low middle high h j k d from to = elim (cases_lt k middle) [
    | inl less ↦ h k d from less
    | inr more ↦ j k d more to
  ]

  module _ (prefix : IpPrefix) (places lengths c found : ℕ) (left : IsLeft records starts prefix places lengths) (is : lengths ≡ c + 1)
      (up : IsUpTo records starts places (cut prefix c) found) (some : 0 < found) (d : Payload) (other : IpPrefix) (named : other ≡ prefix_at records starts (found - 1) d) where
    last_within : found - 1 < length starts
    last_within = let a = up.fewer in let b = left.in_places in omega (arith, a, b, some)

    pub last_shorter : covers other prefix ≡ true → (block_of other).len < lengths
    last_shorter it =
        let low = begins_below (found - 1) places (let f = up.fewer in omega (arith, f, some)) left.in_places in
        subst (λ p. (block_of p).len < lengths) (sym named) (left.shorter (begin records starts (found - 1)) d low (ap (λ p. covers p prefix) (sym named) ∙ it))

    last_prefix : IsPrefix (width_of other) (block_of other)
    last_prefix = subst (λ p. IsPrefix (width_of p) (block_of p)) (sym named) (payload_at (begin records starts (found - 1)) d (begins_within (found - 1) last_within))

    before_last : (k : ℕ) (e : Payload) → k < begin records starts (found - 1) → prefix_cmp (get_or records k e).prefix other ≡ Less
    before_last k e low =
        subst (λ p. prefix_cmp (get_or records k e).prefix p ≡ Less) (ap (λ v. v.prefix) (default_of (begin records starts (found - 1)) (begins_within (found - 1) last_within)) ∙ sym named)
        (g.ascend (found - 1) k e last_within low)
      where
        default_of : (m : ℕ) → m < length records → get_or records m e ≡ get_or records m d
        default_of m within = get_or_default records m e d within

    pub left_after_cover : covers other prefix ≡ true → IsLeft records starts prefix (found - 1) (block_of other).len
    left_after_cover it =
        let a = up.fewer in let b = left.in_places in let c' = left.in_lengths in
        let shorter = last_shorter it in
        record {
          in_places = omega (arith, a, b, some);
          in_family = left.in_family;
          in_lengths = omega (arith, shorter, c');
          shorter = λ k e low covers_it. shorter_before (get_or records k e).prefix other prefix (payload_at k e (let w = g.within (found - 1) in omega (arith, low, w))) last_prefix (before_last k e low) covers_it it;
        }

    pub next_group : (old : ℕ) → places ≤ old → NoneCovers records prefix (begin records starts places) (begin records starts old) → covers other prefix ≡ true → (group : List Payload) → group ≡ group_at records starts (found - 1) → IsNextGroup records starts prefix old (found - 1) group
    next_group old fewer none it group read =
        let a = up.fewer in
        let next : found - 1 + 1 ≡ found = omega (arith, some) in
        record {
          fewer = omega (arith, fewer, a, some);
          is = read;
          covers_it = λ k e low high. ap (λ p. covers p prefix) (g.one_prefix (found - 1) k e low high ∙ of_last e ∙ sym named) ∙ it;
          none_after = subst (λ n. NoneCovers records prefix (begin records starts n) (begin records starts old)) (sym next) (none_joined prefix _ _ _ (none_after prefix places lengths c found left is up) none);
        }
      where
        of_last : (e : Payload) → prefix_at records starts (found - 1) e ≡ prefix_at records starts (found - 1) d
        of_last e = ap (λ v. v.prefix) (get_or_default records (begin records starts (found - 1)) e d (begins_within (found - 1) last_within))

    pub left_after_pass : (shared : ℕ) → covers other prefix ≡ false → ((len : ℕ) → len ≤ width_of prefix → agree other prefix len ≡ nat_lt len shared)
        → (new : ℕ) → ((m : ℕ) → m < c → m < shared → m < new) → new ≤ c → IsLeft records starts prefix found new
    left_after_pass shared not_it says new least few =
        let a = up.fewer in let b = left.in_places in let c' = left.in_lengths in let f = left.in_family in
        record {
          in_places = omega (arith, a, b);
          in_family = left.in_family;
          in_lengths = omega (arith, few, c', is);
          shorter = λ k e low it.
              let within : k < begin records starts places = (let u = begins_up_to found places up.fewer left.in_places in omega (arith, low, u)) in
              let short = left.shorter k e within it in
              elim (cases_lt k (begin records starts (found - 1))) [
                | inl before ↦
                    let both = agrees_before (get_or records k e).prefix other prefix c (payload_at k e (let w = g.within places in omega (arith, within, w))) (omega (arith, is, c', f))
                    (subst (λ p. up_to p (cut prefix c) ≡ true) (sym named) (up.before d some)) (before_last k e before) it (omega (arith, short, is)) in
                    least _ both.1 (below _ _ (sym (says _ (omega (arith, short, is, c', f))) ∙ both.0))
                | inr inside ↦
                    absurd (let next : found ≡ found - 1 + 1 = omega (arith, some) in
                    let same = g.one_prefix (found - 1) k e inside (subst (λ n. k < begin records starts n) next low) in
                    let h : true ≡ false = sym it ∙ ap (λ p. covers p prefix) (same ∙ of_last e ∙ sym named) ∙ not_it in cc)
              ];
        }
      where
        of_last : (e : Payload) → prefix_at records starts (found - 1) e ≡ prefix_at records starts (found - 1) d
        of_last e = ap (λ v. v.prefix) (get_or_default records (begin records starts (found - 1)) e d (begins_within (found - 1) last_within))

        below : (a b : ℕ) → nat_lt a b ≡ true → a < b
        below a b h = grind (arith, nat_tests, h)

-- One reading more, over at most half of the places
pub half_more : (e w v places : ℕ) → 0 < w → 2 * v ≤ w → 2 ^ e * w ≤ places → (2 ^ (e + 1) * v ≤ places) × (2 ^ (e + 1) ≤ 2 * places + 1)
half_more e w v places some half few =
    let power : 2 ^ (e + 1) ≡ 2 ^ e * 2 = pow-add 2 e 1 in
    let less = mul-le-mul_left (2 ^ e) half in
    let one = mul-le-mul_left (2 ^ e) (one_of w some) in
    let left : 2 ^ e * 2 * v ≤ places = omega (arith, less, few) in
    let right : 2 ^ e * 2 ≤ 2 * places + 1 = omega (arith, one, few) in
    (subst (λ n. n * v ≤ places) (sym power) left, subst (λ n. n ≤ 2 * places + 1) (sym power) right)
  where
    one_of : (w : ℕ) → 0 < w → 1 ≤ w
    one_of w h = omega (arith, h)

pub power_rises : (i j : ℕ) → i ≤ j → 2 ^ i ≤ 2 ^ j
power_rises i j h = pow-le-pow_right two h
  where
    two : 0 < 2
    two = omega arith

-- Readings that halve the places are no more than the digits of a number that is not less.
pub digits_cover : (places n e : ℕ) → places ≤ n → 2 ^ e ≤ 2 * places + 1 → e ≤ digit_count n
digits_cover places n e le few = elim (cases_lt (digit_count n) e) [
  | inl more ↦ absurd (
      let below : n < 2 ^ digit_count n = subst (λ m. m < 2 ^ digit_count n) (number_digits_of 2 n (omega arith)) (number_lt 2 (digits_of 2 n) (all_below_base_digits_of 2 n (omega arith))) in
      let power : 2 ^ (digit_count n + 1) ≡ 2 ^ digit_count n * 2 = pow-add 2 (digit_count n) 1 in
      let large = power_rises (digit_count n + 1) e (omega (arith, more)) in
      omega (arith, below, power, large, few, le))
  | inr less ↦ less
]

-- One more length was tried.
pub one_length : (groups lengths new_lengths old new places probes last : ℕ) → CostsLengths groups lengths new_lengths old new → places ≤ groups → CostsDigits places new probes → last < new_lengths → CostsLengths groups lengths last old probes
one_length groups lengths new_lengths old new places probes last cost le digits less =
    let few = cost.few in
    let counted = cost.counted in
    let fewer = cost.fewer in
    let more = digits.counted in
    let readings : probes - new ≤ digit_count groups = digits_cover places groups (probes - new) le digits.few in
    let products = mul-le-mul_right (digit_count groups) (one_more less) in
    record {
      counted = omega (arith, counted, more);
      fewer = omega (arith, fewer, less);
      few = omega (arith, few, readings, more, products);
    }
  where
    one_more : last < new_lengths → last + 1 ≤ new_lengths
    one_more h = omega (arith, h)

pub costs_joined : (groups lengths new_lengths last old new probes : ℕ) → CostsLengths groups lengths new_lengths old new → CostsLengths groups new_lengths last new probes → CostsLengths groups lengths last old probes
costs_joined groups lengths new_lengths last old new probes one other =
    let a = one.counted in let b = other.counted in let c = one.fewer in let d = other.fewer in let e = one.few in let f = other.few in
    record { counted = omega (arith, a, b); fewer = omega (arith, c, d); few = omega (arith, e, f) }

-- If there is a group, the first search reads one.
pub some_read : (groups places lengths before now : ℕ) → (before ≡ 0 → (places ≡ groups) × (0 < lengths)) → (0 < places → 0 < lengths → before < now) → before ≤ now → 0 < groups → 0 < now
some_read groups places lengths zero now first reads counted have =
    let was = first refl in
    let all = was.0 in
    let read = reads (omega (arith, all, have)) was.1 in
    omega (arith, read)
some_read groups places lengths (suc before) now first reads counted have = omega (arith, counted)
