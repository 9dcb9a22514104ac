-- In a listing all of IPv4 is before all of IPv6.
use Rattle.std.proofs.Common.{◌≡◌, ◌≤◌, ◌+◌, ◌∙◌, ⊎_elim, ℕ, zero, suc, List, [], ◌∷◌, arith, ap, get_or, length, refl, subst}
use Rattle.std.specs.Prelude.{Bool, true, false, cond, not}
use Rattle.std.specs.List.{filter}
use Rattle.std.specs.List.Sorted.{IsPartitionPoint, IsPartitionedBy, IsStrictlySortedBy}
use Rattle.std.specs.declared.cmp.Ordering.TheVariants.{Less, Greater}
use Rattle.std.proofs.lemmas.Bool.{cases_lt}
use Rattle.std.proofs.lemmas.Map.Keys.{Less-from_sorted}
use Rattle.prefixes.specs.Payload.{Payload, vrp_cmp}
use Rattle.prefixes.specs.declared.prefix.IpPrefix.{IpPrefix}
use Rattle.prefixes.specs.declared.prefix.IpPrefix.TheVariants.{V4, V6}
use Rattle.rtr_daemon.specs.Families.{is_ipv4, is_ipv4_prefix}

-- What is before a VRP of IPv4 is of IPv4.
before_ipv4 : (one other : Payload) → vrp_cmp one other ≡ Less → is_ipv4 other ≡ true → is_ipv4 one ≡ true
before_ipv4 one other = by one.prefix other.prefix one.max_len other.max_len one.asn other.asn where
  by : (a b : IpPrefix) (m n x y : ℕ) → vrp_cmp (record { prefix = a; max_len = m; asn = x }) (record { prefix = b; max_len = n; asn = y }) ≡ Less → is_ipv4_prefix b ≡ true → is_ipv4_prefix a ≡ true
  by (V4 p) b m n x y less is = refl
  by (V6 p) (V4 q) m n x y less is = absurd (let no : Greater ≡ Less = less in cc)
  by (V6 p) (V6 q) m n x y less is = is

-- In a listing no VRP of IPv4 comes after one of IPv6.
pub is_parted : (vs : List Payload) → IsStrictlySortedBy vrp_cmp vs → IsPartitionedBy is_ipv4 vs
is_parted vs ascends i j d least within is =
    ⊎_elim
    (λ less. before_ipv4 (get_or vs i d) (get_or vs j d) (Less-from_sorted vrp_cmp vs i j d ascends less within) is)
    (λ not_less. subst (λ k. is_ipv4 (get_or vs k d) ≡ true) (let same : j ≡ i = omega (arith, least, not_less) in same) is)
    (cases_lt i j)

-- Where a list is parted by a test, as many elements pass it.
pub passing : {X : Type 0} (p : X → Bool) (xs : List X) (i : ℕ) → i ≤ length xs → IsPartitionPoint (λ x. p x ≡ true) (λ x. p x ≡ false) xs i → length (filter p xs) ≡ i
passing p [] i within parts = omega (arith, within)
passing p (x ∷ xs) zero within parts =
    ap (λ b. length (cond b (x ∷ filter p xs) (filter p xs))) (parts.1 0 x (omega arith) (omega arith))
    ∙ passing p xs zero (omega arith) (λ k d low high. absurd (omega (arith, high)), λ k d low high. parts.1 (suc k) d (omega arith) (omega (arith, high)))
passing p (x ∷ xs) (suc i) within parts =
    ap (λ b. length (cond b (x ∷ filter p xs) (filter p xs))) (parts.0 0 x (omega arith) (omega arith))
    ∙ ap suc (passing p xs i (omega (arith, within)) (λ k d low high. parts.0 (suc k) d (omega arith) (omega (arith, high)), λ k d low high. parts.1 (suc k) d (omega (arith, low)) (omega (arith, high))))

-- Each element passes a test, or fails it.
pub passing_or_not : {X : Type 0} (p : X → Bool) (xs : List X) → length (filter p xs) + length (filter (λ x. not (p x)) xs) ≡ length xs
passing_or_not p [] = refl
passing_or_not p (x ∷ xs) = by (p x) (passing_or_not p xs) where
  by : (b : Bool) → length (filter p xs) + length (filter (λ y. not (p y)) xs) ≡ length xs → length (cond b (x ∷ filter p xs) (filter p xs)) + length (cond (not b) (x ∷ filter (λ y. not (p y)) xs) (filter (λ y. not (p y)) xs)) ≡ suc (length xs)
  by true rest = omega (arith, rest)
  by false rest = omega (arith, rest)
