-- Claims that clash are overlaps of files, and files of claims that agree are apart.
use Rattle.std.proofs.Common.{◌≡◌, ◌⊎◌, inl, inr, ℕ, ◌<◌, Bool, true, false, nat_lt, if◌then◌else◌, List, Some, refl, sym, ap, ◌∙◌, subst, arith}
use Rattle.std.specs.Prelude.{Contains, ◌||◌}
use Rattle.std.specs.List.{slice_get}
use Rattle.std.specs.List.Sorted.{IsPermutation}
use Rattle.std.proofs.Math.Bool.{or-true}
use Rattle.std.proofs.lemmas.Bool.Decides.{nat_tests}
use Rattle.std.proofs.lemmas.List.Sorted.{Contains-permutation, IsPermutation-sym}
use Rattle.prefixes.specs.Payload.{covers}
use Rattle.prefixes.specs.declared.asn.Asn.{Asn}
use Rattle.prefixes.specs.declared.prefix.IpPrefix.{IpPrefix}
use Rattle.slurm.specs.Claims.{AsnsAgree, AsnsClash, PrefixesAgree, PrefixesClash, asn_claim, asn_claims, asn_overlap, prefix_claim, prefix_claims, prefix_overlap}
use Rattle.slurm.specs.Scoped.{Scoped}
use Rattle.slurm.specs.Uniting.{AsnsApart, IsOverlapOf, OverlapAt, PrefixesApart, asns_of, prefixes_of, shares_address}
use Rattle.slurm.specs.declared.claims.AsnClaim.{AsnClaim}
use Rattle.slurm.specs.declared.claims.PrefixClaim.{PrefixClaim}
use Rattle.slurm.specs.declared.unite_fault.Overlap.TheVariants.{Prefixes, Bgpsec}
use Rattle.slurm.specs.declared.unite_fault.UniteFault.TheVariants as fault
use Rattle.slurm.proofs.Chained.{either_true}
use Rattle.slurm.proofs.Gathering.{claimed_by, whose}

lt_of : (a b : ℕ) → nat_lt a b ≡ true → a < b
lt_of a b h = grind (arith, nat_tests)

gt_of : (a b : ℕ) → nat_lt a b ≡ false → ¬ (a ≡ b) → b < a
gt_of a b h never = omega (arith, not_lt a b h, never)
  where
    not_lt : (a b : ℕ) → nat_lt a b ≡ false → ¬ (a < b)
    not_lt a b h k = grind (arith, nat_tests)

-- A file that claims this
record Claimed {X : Type 0} (about : Scoped → List X) (ss : List Scoped) (i : ℕ) (x : X) : Type 0 where
  file : Scoped
  file_is : slice_get ss i ≡ Some file
  is_about : Contains (about file) x

-- ---- prefixes

prefix_claimed : (ss : List Scoped) (cs : List PrefixClaim) → IsPermutation (prefix_claims ss) cs → (c : PrefixClaim) → Contains cs c → Claimed prefixes_of ss c.file c.prefix
prefix_claimed ss cs same c h =
    let w = whose prefix_claim prefixes_of 0 ss c (Contains-permutation cs (prefix_claims ss) c (IsPermutation-sym (prefix_claims ss) cs same) h) in
    let file : w.index ≡ c.file = omega (arith, ap (λ d. d.file) w.claim_is) in
    record { file = w.file; file_is = ap (λ i. slice_get ss i) (sym file) ∙ w.file_is; is_about = subst (λ p. Contains (prefixes_of w.file) p) (sym (ap (λ d. d.prefix) w.claim_is)) w.is_about }

prefixes_at : (ss : List Scoped) (i j : ℕ) (p q : IpPrefix) → Claimed prefixes_of ss i p → Claimed prefixes_of ss j q → shares_address p q ≡ true → i < j → OverlapAt ss i j (Prefixes p q)
prefixes_at ss i j p q a b shares before =
    record { in_order = before; first = a.file; first_is = a.file_is; second = b.file; second_is = b.file_is; common = (a.is_about, b.is_about, shares) }

pub prefix_overlaps : (ss : List Scoped) (cs : List PrefixClaim) (c d : PrefixClaim) → IsPermutation (prefix_claims ss) cs → PrefixesClash cs c d → IsOverlapOf ss (prefix_overlap c d)
prefix_overlaps ss cs c d same h =
    by_order (nat_lt c.file d.file) refl
  where
    one : Claimed prefixes_of ss c.file c.prefix
    one = prefix_claimed ss cs same c h.0

    other : Claimed prefixes_of ss d.file d.prefix
    other = prefix_claimed ss cs same d h.1

    by_order : (b : Bool) → nat_lt c.file d.file ≡ b → IsOverlapOf ss (if b then fault.Overlap c.file d.file (Prefixes c.prefix d.prefix) else fault.Overlap d.file c.file (Prefixes d.prefix c.prefix))
    by_order true is = prefixes_at ss c.file d.file c.prefix d.prefix one other (ap (λ b. b || covers d.prefix c.prefix) h.2) (lt_of c.file d.file is)
    by_order false is = prefixes_at ss d.file c.file d.prefix c.prefix other one (ap (λ b. covers d.prefix c.prefix || b) h.2 ∙ or-true (covers d.prefix c.prefix)) (gt_of c.file d.file is h.3)

pub prefixes_apart : (ss : List Scoped) (cs : List PrefixClaim) → IsPermutation (prefix_claims ss) cs → PrefixesAgree cs → PrefixesApart ss
prefixes_apart ss cs same agree i j p q o =
    by_cover (either_true (covers p q) (covers q p) o.common.2)
  where
    one : Contains cs (prefix_claim i p)
    one = Contains-permutation (prefix_claims ss) cs (prefix_claim i p) same (claimed_by prefix_claim prefixes_of ss i o.first p o.first_is o.common.0)

    other : Contains cs (prefix_claim j q)
    other = Contains-permutation (prefix_claims ss) cs (prefix_claim j q) same (claimed_by prefix_claim prefixes_of ss j o.second q o.second_is o.common.1)

    by_cover : (covers p q ≡ true) ⊎ (covers q p ≡ true) → ⊥
    by_cover (inl it) = let e = agree (prefix_claim i p) (prefix_claim j q) one other it in absurd (omega (arith, e, o.in_order))
    by_cover (inr it) = let e = agree (prefix_claim j q) (prefix_claim i p) other one it in absurd (omega (arith, e, o.in_order))

-- ---- ASes

asn_claimed : (ss : List Scoped) (cs : List AsnClaim) → IsPermutation (asn_claims ss) cs → (c : AsnClaim) → Contains cs c → Claimed asns_of ss c.file (record { 0 = c.asn })
asn_claimed ss cs same c h =
    let w = whose asn_claim asns_of 0 ss c (Contains-permutation cs (asn_claims ss) c (IsPermutation-sym (asn_claims ss) cs same) h) in
    let file : w.index ≡ c.file = omega (arith, ap (λ d. d.file) w.claim_is) in
    let asn : w.thing ≡ record { 0 = c.asn } = λ k. record { 0 = sym (ap (λ d. d.asn) w.claim_is) k } in
    record { file = w.file; file_is = ap (λ i. slice_get ss i) (sym file) ∙ w.file_is; is_about = subst (λ a. Contains (asns_of w.file) a) asn w.is_about }

asns_at : (ss : List Scoped) (i j : ℕ) (a : Asn) → Claimed asns_of ss i a → Claimed asns_of ss j a → i < j → OverlapAt ss i j (Bgpsec a)
asns_at ss i j a x y before = record { in_order = before; first = x.file; first_is = x.file_is; second = y.file; second_is = y.file_is; common = (x.is_about, y.is_about) }

pub asn_overlaps : (ss : List Scoped) (cs : List AsnClaim) (c d : AsnClaim) → IsPermutation (asn_claims ss) cs → AsnsClash cs c d → IsOverlapOf ss (asn_overlap c d)
asn_overlaps ss cs c d same h =
    by_order (nat_lt c.file d.file) refl
  where
    a : Asn
    a = record { 0 = c.asn }

    one : Claimed asns_of ss c.file a
    one = asn_claimed ss cs same c h.0

    other : Claimed asns_of ss d.file a
    other = subst (λ n. Claimed asns_of ss d.file (record { 0 = n })) (sym h.2) (asn_claimed ss cs same d h.1)

    by_order : (b : Bool) → nat_lt c.file d.file ≡ b → IsOverlapOf ss (if b then fault.Overlap c.file d.file (Bgpsec (record { 0 = c.asn })) else fault.Overlap d.file c.file (Bgpsec (record { 0 = c.asn })))
    by_order true is = asns_at ss c.file d.file a one other (lt_of c.file d.file is)
    by_order false is = asns_at ss d.file c.file a other one (gt_of c.file d.file is h.3)

pub asns_apart : (ss : List Scoped) (cs : List AsnClaim) → IsPermutation (asn_claims ss) cs → AsnsAgree cs → AsnsApart ss
asns_apart ss cs same agree i j a o =
    let one = Contains-permutation (asn_claims ss) cs (asn_claim i a) same (claimed_by asn_claim asns_of ss i o.first a o.first_is o.common.0) in
    let other = Contains-permutation (asn_claims ss) cs (asn_claim j a) same (claimed_by asn_claim asns_of ss j o.second a o.second_is o.common.1) in
    let e = agree (asn_claim i a) (asn_claim j a) one other refl in
    omega (arith, e, o.in_order)
