-- A sweep over ascending claims: each is compared with the last one that no other covers.
use Rattle.std.proofs.Common.{◌≡◌, ◌⊎◌, inl, inr, ℕ, ◌+◌, ◌-◌, ◌<◌, ◌≤◌, ◌/◌, ◌^◌, true, false, List, [], ◌∷◌, ◌++◌, length, take, get_or, refl, sym, ap, ◌∙◌, subst, arith}
use Rattle.std.specs.Prelude.{Contains, nat_le, ⊤}
use Rattle.std.specs.List.{All}
use Rattle.std.specs.List.Sorted.{IsSorted}
use Rattle.std.specs.Cmp.{IsTotalOrder, nat_cmp_total, on_total, then_total}
use Rattle.std.specs.Ordering.{is_le, is_lt, nat_cmp, ordering_reverse, ordering_then}
use Rattle.std.specs.declared.cmp.Ordering.{Ordering}
use Rattle.std.specs.declared.cmp.Ordering.TheVariants.{Less, Equal, Greater}
use Rattle.std.proofs.lemmas.Bool.{and_parts}
use Rattle.std.proofs.lemmas.Bool.Decides.{nat_tests}
use Rattle.std.proofs.lemmas.List.{get_or-take, get_or_default, length-take, take_all, take_more}
use Rattle.std.proofs.lemmas.List.Elements.{All-contains, Contains-append_left, Contains-push, Contains-push_cases}
use Rattle.std.proofs.lemmas.List.Sorted.{ranks_by, sorted_far}
use Rattle.std.proofs.lemmas.Map.Keys.{ge_from_not_lt}
use Rattle.std.proofs.lemmas.Nat.{shr-shr}
use Rattle.prefixes.specs.Address.{Block, IsPrefix, contains, first_bits}
use Rattle.prefixes.specs.Orders.{prefix_exact, prefix_total}
use Rattle.prefixes.specs.Payload.{block_of, covers, prefix_cmp, width_of}
use Rattle.prefixes.specs.declared.prefix.IpPrefix.{IpPrefix}
use Rattle.prefixes.specs.declared.prefix.IpPrefix.TheVariants.{V4, V6}
use Rattle.prefixes.proofs.Basics.{eq_of, eq_true, not_both}
use Rattle.vrps.specs.Keys.{up_to}
use Rattle.vrps.proofs.Blocks.{covers_between, covers_up_to}
use Rattle.slurm.proofs.Chained.{true_both}
use Rattle.slurm.specs.Claims.{AsnsAgree, HasPrefix, PrefixesAgree, asn_claim_cmp, prefix_claim_cmp}
use Rattle.slurm.specs.declared.claims.AsnClaim.{AsnClaim}
use Rattle.slurm.specs.declared.claims.PrefixClaim.{PrefixClaim}

-- ---- any claims

-- Claims that cover each other so far are of one file. And what covers a later claim is covered by the root, and is of its file.
pub record Swept {C : Type 0} (Up Covers : C → C → Type 0) (file : C → ℕ) (so_far : List C) (root : C) : Type 0 where
  pub agree : (x y : C) → Contains so_far x → Contains so_far y → Covers x y → file x ≡ file y
  pub leads : (x z : C) → Contains so_far x → ((y : C) → Contains so_far y → Up y z) → Covers x z → Covers root z × (file x ≡ file root)

none_swept : {C : Type 0} (Up Covers : C → C → Type 0) (file : C → ℕ) (root : C) → Swept Up Covers file [] root
none_swept Up Covers file root = record { agree = λ x y h k it. absurd (omega (arith, h.1)); leads = λ x z h all it. absurd (omega (arith, h.1)) }

module _ {C : Type 0} (Valid : C → Type 0) (Up Covers : C → C → Type 0) (file : C → ℕ) where
  abbrev Onward : Type 0
  Onward = (x y z : C) → Valid y → Covers x y → Covers y z → Covers x z

  abbrev Between : Type 0
  Between = (x y z : C) → Valid x → Valid y → Up x y → Up y z → Covers x z → Covers x y

  abbrev Back : Type 0
  Back = (x y : C) → Valid y → Up x y → Covers y x → Covers x y

  abbrev AllUp : List C → C → Type 0
  AllUp so_far y = (x : C) → Contains so_far x → Up x y

  -- what covers a new claim, or is covered by it
  covering : Back → (so_far : List C) (root y : C) → Swept Up Covers file so_far root → Valid y → AllUp so_far y → (x : C) → Contains so_far x → Covers x y ⊎ Covers y x → Covers root y × (file x ≡ file root)
  covering back so_far root y s valid up x h (inl it) = s.leads x y h up it
  covering back so_far root y s valid up x h (inr it) = s.leads x y h up (back x y valid (up x h) it)

  -- The root covers a new claim, which is of its file.
  under : Onward → Back → (so_far : List C) (root y : C) → Swept Up Covers file so_far root → ((x : C) → Contains so_far x → Valid x) → Valid y → AllUp so_far y → Covers root y → file y ≡ file root → Swept Up Covers file (so_far ++ y ∷ []) root
  under onward back so_far root y s valid valid_y up over same =
      record {
        agree = λ x z h k it. both x z (Contains-push_cases so_far y x h) (Contains-push_cases so_far y z k) it;
        leads = λ x z h all it. one x z (Contains-push_cases so_far y x h) (λ w k. all w (Contains-append_left so_far (y ∷ []) w k)) it;
      }
    where
      found : (x : C) → Contains so_far x → Covers x y ⊎ Covers y x → Covers root y × (file x ≡ file root)
      found x h it = covering back so_far root y s valid_y up x h it

      both : (x z : C) → Contains so_far x ⊎ (y ≡ x) → Contains so_far z ⊎ (y ≡ z) → Covers x z → file x ≡ file z
      both x z (inl h) (inl k) it = s.agree x z h k it
      both x z (inl h) (inr e) it = (found x h (inl (subst (λ w. Covers x w) (sym e) it))).1 ∙ sym same ∙ ap file e
      both x z (inr e) (inl k) it = sym ((found z k (inr (subst (λ w. Covers w z) (sym e) it))).1 ∙ sym same ∙ ap file e)
      both x z (inr e) (inr f) it = ap file (sym e ∙ f)

      one : (x z : C) → Contains so_far x ⊎ (y ≡ x) → AllUp so_far z → Covers x z → Covers root z × (file x ≡ file root)
      one x z (inl h) all it = s.leads x z h all it
      one x z (inr e) all it = (onward root y z valid_y over (subst (λ w. Covers w z) (sym e) it), ap file (sym e) ∙ same)

  -- The root does not cover a new claim, which is the new root.
  beside : Between → Back → (so_far : List C) (root y : C) → Swept Up Covers file so_far root → ((x : C) → Contains so_far x → Valid x) → Valid y → AllUp so_far y → ¬ (Covers root y) → Swept Up Covers file (so_far ++ y ∷ []) y
  beside between back so_far root y s valid valid_y up never =
      record {
        agree = λ x z h k it. both x z (Contains-push_cases so_far y x h) (Contains-push_cases so_far y z k) it;
        leads = λ x z h all it. one x z (Contains-push_cases so_far y x h) (all y (Contains-push so_far y)) it;
      }
    where
      found : (x : C) → Contains so_far x → Covers x y ⊎ Covers y x → Covers root y × (file x ≡ file root)
      found x h it = covering back so_far root y s valid_y up x h it

      both : (x z : C) → Contains so_far x ⊎ (y ≡ x) → Contains so_far z ⊎ (y ≡ z) → Covers x z → file x ≡ file z
      both x z (inl h) (inl k) it = s.agree x z h k it
      both x z (inl h) (inr e) it = absurd (never (found x h (inl (subst (λ w. Covers x w) (sym e) it))).0)
      both x z (inr e) (inl k) it = absurd (never (found z k (inr (subst (λ w. Covers w z) (sym e) it))).0)
      both x z (inr e) (inr f) it = ap file (sym e ∙ f)

      one : (x z : C) → Contains so_far x ⊎ (y ≡ x) → Up y z → Covers x z → Covers y z × (file x ≡ file y)
      one x z (inl h) high it = absurd (never (found x h (inl (between x y z (valid x h) valid_y (up x h) high it))).0)
      one x z (inr e) high it = (subst (λ w. Covers w z) (sym e) it, ap file (sym e))

pub le_of : (a b : ℕ) → nat_le a b ≡ true → a ≤ b
le_of a b h = grind (arith, nat_tests)

pub le_true : (a b : ℕ) → a ≤ b → nat_le a b ≡ true
le_true a b h = grind (arith, nat_tests)

-- ---- places

module _ {C : Type 0} (xs : List C) (i : ℕ) where
  -- what is among the first ones is before the place
  among : (x : C) → i ≤ length xs → Contains (take i xs) x → (k : ℕ) × (k < i) × (get_or xs k x ≡ x)
  among x h c =
      let below : c.0 < i = omega (arith, c.1, length-take i xs, h) in
      (c.0, below, sym (get_or-take i xs c.0 x below) ∙ c.2)

  taken : (x : C) → i ≤ length xs → Contains (take i xs) x → Contains xs x
  taken x h c = let k = among x h c in (k.0, omega (arith, k.1, h), k.2)

  placed : (x : C) → i < length xs → x ≡ get_or xs i x → Contains xs x
  placed x h is = (i, h, sym is)

not_lt : (o f : Ordering) → is_lt (ordering_then o f) ≡ false → is_lt o ≡ false
not_lt Less f h = h
not_lt Equal f h = refl
not_lt Greater f h = refl

-- ---- prefixes

itself_bits : (w : ℕ) (p : Block) → contains w p p ≡ true
itself_bits w p = true_both _ _ (le_true p.len p.len (omega arith)) (eq_true (first_bits w p.addr p.len) (first_bits w p.addr p.len) refl)

covers_itself : (p : IpPrefix) → covers p p ≡ true
covers_itself (V4 p) = itself_bits 32 p
covers_itself (V6 p) = itself_bits 128 p

-- fewer of the first bits
pub fewer_bits : (w x a c : ℕ) → a ≤ c → c ≤ w → first_bits w x a ≡ first_bits w x c / 2 ^ (c - a)
fewer_bits w x a c le within =
    let split : w - a ≡ (w - c) + (c - a) = omega (arith, le, within) in
    ap (λ n. x / 2 ^ n) split ∙ sym (shr-shr x (w - c) (c - a))

block_onward : (w : ℕ) (p q r : Block) → q.len ≤ w → contains w p q ≡ true → contains w q r ≡ true → contains w p r ≡ true
block_onward w p q r within one other =
    let first = and_parts _ _ one in
    let second = and_parts _ _ other in
    let short = le_of p.len q.len first.0 in
    let long = le_of q.len r.len second.0 in
    let bits : first_bits w q.addr p.len ≡ first_bits w r.addr p.len =
    fewer_bits w q.addr p.len q.len short within ∙ ap (λ n. n / 2 ^ (q.len - p.len)) (eq_of _ _ second.1) ∙ sym (fewer_bits w r.addr p.len q.len short within) in
    true_both _ _ (le_true p.len r.len (omega (arith, short, long))) (eq_true (first_bits w p.addr p.len) (first_bits w r.addr p.len) (eq_of _ _ first.1 ∙ bits))

pub covers_onward : (p q r : IpPrefix) → IsPrefix (width_of q) (block_of q) → covers p q ≡ true → covers q r ≡ true → covers p r ≡ true
covers_onward (V4 p) (V4 q) (V4 r) h one other = block_onward 32 p q r h.in_family one other
covers_onward (V6 p) (V6 q) (V6 r) h one other = block_onward 128 p q r h.in_family one other
covers_onward (V4 p) (V4 q) (V6 r) h one other = absurd (let e : false ≡ true = other in cc)
covers_onward (V6 p) (V6 q) (V4 r) h one other = absurd (let e : false ≡ true = other in cc)
covers_onward (V4 p) (V6 q) r h one other = absurd (let e : false ≡ true = one in cc)
covers_onward (V6 p) (V4 q) r h one other = absurd (let e : false ≡ true = one in cc)

same_prefix : (p q : IpPrefix) → up_to p q ≡ true → up_to q p ≡ true → p ≡ q
same_prefix p q low high =
    elim (prefix_cmp p q) as (λ o. prefix_cmp p q ≡ o → p ≡ q) [
      | Less ↦ λ is. absurd (let e : false ≡ true = sym (ap is_le (prefix_total.antisymm q p ∙ ap ordering_reverse is)) ∙ high in cc)
      | Equal ↦ λ is. prefix_exact p q is
      | Greater ↦ λ is. absurd (let e : false ≡ true = sym (ap is_le is) ∙ low in cc)
    ] refl

covers_back : (p q : IpPrefix) → IsPrefix (width_of q) (block_of q) → up_to p q ≡ true → covers q p ≡ true → covers p q ≡ true
covers_back p q h up it = subst (λ r. covers p r ≡ true) (same_prefix p q up (covers_up_to q p h it)) (covers_itself p)

abbrev UpTo : PrefixClaim → PrefixClaim → Type 0
UpTo c d = up_to c.prefix d.prefix ≡ true

abbrev Covers : PrefixClaim → PrefixClaim → Type 0
Covers c d = covers c.prefix d.prefix ≡ true

abbrev pub PrefixesSwept : List PrefixClaim → PrefixClaim → Type 0
PrefixesSwept = Swept UpTo Covers (λ c. c.file)

prefix_claim_total : IsTotalOrder prefix_claim_cmp
prefix_claim_total = then_total (on_total (λ c. c.prefix) prefix_total) (on_total (λ c. c.file) nat_cmp_total)

not_after : (o f : Ordering) → is_lt (ordering_then o f) ≡ false → is_le (ordering_reverse o) ≡ true
not_after Less f h = absurd (cc)
not_after Equal f h = refl
not_after Greater f h = refl

module _ (cs : List PrefixClaim) (sorted : IsSorted prefix_claim_cmp cs) (valid : All HasPrefix cs) where
  up_here : (i k : ℕ) (d : PrefixClaim) → k ≤ i → i < length cs → UpTo (get_or cs k d) (get_or cs i d)
  up_here i k d le h =
      let later = sorted_far (λ x y. is_lt (prefix_claim_cmp x y)) (ranks_by prefix_claim_total (λ c. c)) cs sorted k i d le h in
      let p = (get_or cs k d).prefix in
      let q = (get_or cs i d).prefix in
      ap is_le (prefix_total.antisymm p q) ∙ not_after (prefix_cmp q p) _ later

  module _ (i : ℕ) (root y : PrefixClaim) (h : i < length cs) (is : y ≡ get_or cs i y) (s : PrefixesSwept (take i cs) root × Contains cs root) where
    before : (x : PrefixClaim) → Contains (take i cs) x → UpTo x y
    before x c =
        let k = among cs i x (omega (arith, h)) c in
        let there : get_or cs i x ≡ y = get_or_default cs i x y h ∙ sym is in
        subst (λ z. UpTo x z) there (subst (λ z. UpTo z (get_or cs i x)) k.2 (up_here i k.0 x (omega (arith, k.1)) h))

    abbrev ValidOf : (x : PrefixClaim) → Contains cs x → HasPrefix x
    ValidOf x c = All-contains HasPrefix cs x valid c

    further : take (i + 1) cs ≡ take i cs ++ y ∷ []
    further = take_more cs i y h ∙ ap (λ z. take i cs ++ z ∷ []) (sym is)

    there : Contains cs y
    there = placed cs i y h is

    pub prefix_under : covers root.prefix y.prefix ≡ true → root.file ≡ y.file → PrefixesSwept (take (i + 1) cs) root × Contains cs root
    prefix_under over same = (
      subst (λ l. PrefixesSwept l root) (sym further)
          (under HasPrefix UpTo Covers (λ c. c.file) (λ c d e hd. covers_onward c.prefix d.prefix e.prefix hd) (λ c d hc. covers_back c.prefix d.prefix hc) (take i cs) root y s.0
          (λ x c. ValidOf x (taken cs i x (omega (arith, h)) c)) (ValidOf y there) before over (sym same)),
      s.1,
    )

    pub prefix_beside : covers root.prefix y.prefix ≡ false → PrefixesSwept (take (i + 1) cs) y × Contains cs y
    prefix_beside never = (
      subst (λ l. PrefixesSwept l y) (sym further)
          (beside HasPrefix UpTo Covers (λ c. c.file) (λ c d e hc hd low high. covers_between c.prefix d.prefix e.prefix hc hd low high) (λ c d hc. covers_back c.prefix d.prefix hc) (take i cs) root y s.0
          (λ x c. ValidOf x (taken cs i x (omega (arith, h)) c)) (ValidOf y there) before (λ over. not_both _ over never)),
      there,
    )

pub prefixes_agree : (cs : List PrefixClaim) (i : ℕ) (root : PrefixClaim) → length cs ≤ i → PrefixesSwept (take i cs) root → PrefixesAgree cs
prefixes_agree cs i root e s = subst PrefixesAgree (take_all i cs e) (λ c d h k it. s.agree c d h k it)

-- ---- ASes

abbrev Below : AsnClaim → AsnClaim → Type 0
Below c d = c.asn ≤ d.asn

abbrev SameAsn : AsnClaim → AsnClaim → Type 0
SameAsn c d = c.asn ≡ d.asn

abbrev pub AsnsSwept : List AsnClaim → AsnClaim → Type 0
AsnsSwept = Swept Below SameAsn (λ c. c.file)

asn_claim_total : IsTotalOrder asn_claim_cmp
asn_claim_total = then_total (on_total (λ c. c.asn) nat_cmp_total) (on_total (λ c. c.file) nat_cmp_total)

module _ (cs : List AsnClaim) (sorted : IsSorted asn_claim_cmp cs) where
  asn_up : (i k : ℕ) (d : AsnClaim) → k ≤ i → i < length cs → Below (get_or cs k d) (get_or cs i d)
  asn_up i k d le h =
      let later = sorted_far (λ x y. is_lt (asn_claim_cmp x y)) (ranks_by asn_claim_total (λ c. c)) cs sorted k i d le h in
      ge_from_not_lt (get_or cs i d).asn (get_or cs k d).asn (not_lt (nat_cmp (get_or cs i d).asn (get_or cs k d).asn) _ later)

  module _ (i : ℕ) (root y : AsnClaim) (h : i < length cs) (is : y ≡ get_or cs i y) (s : AsnsSwept (take i cs) root × Contains cs root) where
    asn_before : (x : AsnClaim) → Contains (take i cs) x → Below x y
    asn_before x c =
        let k = among cs i x (omega (arith, h)) c in
        let there : get_or cs i x ≡ y = get_or_default cs i x y h ∙ sym is in
        subst (λ z. Below x z) there (subst (λ z. Below z (get_or cs i x)) k.2 (asn_up i k.0 x (omega (arith, k.1)) h))

    asn_further : take (i + 1) cs ≡ take i cs ++ y ∷ []
    asn_further = take_more cs i y h ∙ ap (λ z. take i cs ++ z ∷ []) (sym is)

    pub asn_under : root.asn ≡ y.asn → root.file ≡ y.file → AsnsSwept (take (i + 1) cs) root × Contains cs root
    asn_under over same = (
      subst (λ l. AsnsSwept l root) (sym asn_further)
          (under (λ c. ⊤) Below SameAsn (λ c. c.file) (λ c d e hd one other. one ∙ other) (λ c d hc up it. sym it) (take i cs) root y s.0 (λ x c. tt) tt asn_before over (sym same)),
      s.1,
    )

    pub asn_beside : ¬ (root.asn ≡ y.asn) → AsnsSwept (take (i + 1) cs) y × Contains cs y
    asn_beside never = (
      subst (λ l. AsnsSwept l y) (sym asn_further)
          (beside (λ c. ⊤) Below SameAsn (λ c. c.file) (λ c d e hc hd low high it. omega (arith, low, high, it)) (λ c d hc up it. sym it) (take i cs) root y s.0 (λ x c. tt) tt asn_before never),
      placed cs i y h is,
    )

pub asns_agree : (cs : List AsnClaim) (i : ℕ) (root : AsnClaim) → length cs ≤ i → AsnsSwept (take i cs) root → AsnsAgree cs
asns_agree cs i root e s = subst AsnsAgree (take_all i cs e) (λ c d h k it. s.agree c d h k it)
