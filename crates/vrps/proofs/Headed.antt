-- The prefixes of groups, place by place.
use Rattle.std.proofs.Common.{◌≡◌, ◌∙◌, inl, inr, ℕ, ◌+◌, ◌-◌, ◌<◌, ◌≤◌, List, [], ◌∷◌, ◌++◌, length, map, get_or, ap, sym, subst, refl, arith}
use Rattle.std.specs.declared.cmp.Ordering.TheVariants.{Less, Greater}
use Rattle.std.proofs.lemmas.Bool.{cases_lt}
use Rattle.std.proofs.lemmas.List.{get_or-append_right, get_or-map, get_or_append_left, get_or_default, length-append, length-map, length_push}
use Rattle.prefixes.specs.Address.{Block}
use Rattle.prefixes.specs.Payload.{Payload, prefix_cmp}
use Rattle.prefixes.specs.declared.prefix.IpPrefix.{IpPrefix}
use Rattle.prefixes.specs.declared.prefix.IpPrefix.TheVariants.{V4, V6}
use Rattle.vrps.specs.Groups.{AreGroups, begin, prefix_at}
use Rattle.vrps.specs.Heads.{AreHeads, MayFollow, heads_of, v4_prefix}
use Rattle.vrps.specs.declared.groups.Heads.{Heads}
use Rattle.vrps.specs.declared.key.Head.{Head}
use Rattle.vrps.proofs.Grouped.{begins_below, begins_within}

-- the first heads are those of IPv4
pub first_head : (heads : Heads) (place : ℕ) (head : Head ℕ) → place < length heads.v4.items → head ≡ get_or heads.v4.items place head → v4_prefix head ≡ get_or (heads_of heads) place (v4_prefix head)
first_head heads place head low is =
    ap v4_prefix is ∙ sym (get_or-map v4_prefix heads.v4.items place head (v4_prefix head) low)
    ∙ sym (get_or_append_left (map v4_prefix heads.v4.items) (map V6 heads.v6.items) (v4_prefix head) place (let size = length-map heads.v4.items v4_prefix in omega (arith, size, low)))

-- the others are those of IPv6
pub other_head : (heads : Heads) (place : ℕ) (head : Block) → length heads.v4.items ≤ place → place - length heads.v4.items < length heads.v6.items
    → head ≡ get_or heads.v6.items (place - length heads.v4.items) head → V6 head ≡ get_or (heads_of heads) place (V6 head)
other_head heads place head high low is =
    ap V6 is ∙ sym (get_or-map V6 heads.v6.items (place - length heads.v4.items) head (V6 head) low)
    ∙ sym (get_or-append_right (map v4_prefix heads.v4.items) (map V6 heads.v6.items) (length heads.v4.items) place (V6 head) (length-map heads.v4.items v4_prefix) high)

pub heads_count : (heads : Heads) → length (heads_of heads) ≡ length heads.v4.items + length heads.v6.items
heads_count heads =
    let all = length-append (map v4_prefix heads.v4.items) (map V6 heads.v6.items) in
    let v4 = length-map heads.v4.items v4_prefix in
    let v6 = length-map heads.v6.items V6 in
    omega (arith, all, v4, v6)

-- the prefix of the record at which a group begins
pub first_prefix : (records : List Payload) (starts : List ℕ) (g : AreGroups records starts) (place : ℕ) (first d : Payload) → place < length starts → first ≡ get_or records (get_or starts place 0) first → first.prefix ≡ prefix_at records starts place d
first_prefix records starts g place first d low is =
    ap (λ v. v.prefix) (is ∙ ap (λ n. get_or records n first) (get_or_default starts place 0 (length records) low) ∙ get_or_default records (begin records starts place) first d (begins_within records starts g place low))

-- One head more
pub next_head : (records : List Payload) (starts : List ℕ) (places : ℕ) (heads more : List IpPrefix) (p : IpPrefix) → AreHeads records starts places heads → more ≡ heads ++ p ∷ []
    → ((d : Payload) → p ≡ prefix_at records starts places d) → AreHeads records starts (places + 1) more
next_head records starts places heads more p h is named = subst (AreHeads records starts (places + 1)) (sym is) (record {
  counted = let a = length_push heads p in let b = h.counted in omega (arith, a, b);
  each = λ place d e low. elim (cases_lt place places) [
    | inl before ↦ get_or_append_left heads (p ∷ []) e place (let b = h.counted in omega (arith, b, before)) ∙ h.each place d e before
    | inr last ↦
        let b = h.counted in
        let at : place ≡ places = omega (arith, low, last) in
        let none : place - places ≡ 0 = omega (arith, at) in
        get_or-append_right heads (p ∷ []) places place e b last ∙ ap (λ n. get_or (p ∷ []) n e) none ∙ named d ∙ ap (λ n. prefix_at records starts n d) (sym at)
  ];
})

-- After a head of IPv6 none of IPv4 comes.
pub may_follow : (records : List Payload) (starts : List ℕ) (g : AreGroups records starts) (places : ℕ) (heads : Heads) (p : IpPrefix) (d : Payload) → places < length starts → AreHeads records starts places (heads_of heads)
    → p ≡ prefix_at records starts places d → MayFollow heads p
may_follow records starts g places heads (V6 p) d low h named = tt
may_follow records starts g places heads (V4 p) d low h named = by_rest heads.v6.items refl
  where
    by_rest : (rest : List Block) → heads.v6.items ≡ rest → heads.v6.items ≡ []
    by_rest [] is = is
    by_rest (head ∷ rest) is = absurd (
        let size = ap length is in
        let count = heads_count heads in
        let counted = h.counted in
        let first : length heads.v4.items - length heads.v4.items ≡ 0 = omega arith in
        let read : head ≡ get_or heads.v6.items (length heads.v4.items - length heads.v4.items) head = sym ((λ i. get_or (is i) (first i) head)) in
        let v6 : V6 head ≡ prefix_at records starts (length heads.v4.items) d =
        other_head heads (length heads.v4.items) head (omega arith) (omega (arith, size)) read ∙ h.each (length heads.v4.items) d (V6 head) (omega (arith, size, count, counted)) in
        let before = begins_below records starts g (length heads.v4.items) places (omega (arith, size, count, counted)) (omega (arith, low)) in
        let less = g.ascend places (begin records starts (length heads.v4.items)) d low before in
        let e : Greater ≡ Less = (λ i. prefix_cmp (v6 i) (named i)) ∙ less in cc)
