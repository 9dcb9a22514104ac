-- What a stable sort by AS numbers keeps.
use Rattle.std.proofs.Common.{◌≡◌, ◌∙◌, ℕ, Bool, true, false, cond, eqb, ltb, not, ◌&&◌, List, [], ◌∷◌, length, refl, sym, ap, inl, inr, arith}
use Rattle.std.specs.Prelude.{Option, Some, None, filter, map}
use Rattle.std.specs.declared.cmp.Ordering.TheVariants.{Less, Equal, Greater}
use Rattle.std.specs.Ordering.{nat_cmp, is_lt}
use Rattle.std.specs.Cmp.{unsigned_tied}
use Rattle.std.specs.FinMap as finite
use Rattle.std.specs.FinMap.{FinMap}
use Rattle.std.specs.FinMap.Entries.{put, by_order}
use Rattle.std.specs.List.{flat_map}
use Rattle.std.specs.List.Sorted.{IsStableByKey}
use Rattle.std.proofs.lemmas.Cmp.{nat_cmp_total}
use Rattle.std.proofs.lemmas.Bool.{cases_lt, eq-eqb, ne_eqb, lt-ltb, le-ltb}
use Rattle.prefixes.specs.Payload.{Payload}
use Rattle.prefixes.specs.declared.prefix.IpPrefix.TheVariants.{V4}
use Rattle.ccr.specs.Canonical.{as_numbers, of_as, payload_set, payload_sets, with_number}

-- ---- the AS numbers of VRPs as a finite map

abbrev Numbers : Type 0
Numbers = FinMap nat_cmp (Unit {0})

abbrev numbers : List Payload → Numbers
numbers [] = finite.empty
numbers (v ∷ vs) = finite.insert (numbers vs) v.asn tt

abbrev paired : List ℕ → List (ℕ × Unit {0})
paired ns = map (λ n. (n, tt)) ns

placed : (n m : ℕ) (ms more : List ℕ) (es : List (ℕ × Unit {0})) (b c : Bool) → es ≡ paired more
    → by_order (cond b Less (cond c Equal Greater)) ((n, tt) ∷ (m, tt) ∷ paired ms) ((m, tt) ∷ paired ms) ((m, tt) ∷ es) ≡ paired (cond b (n ∷ m ∷ ms) (cond c (m ∷ ms) (m ∷ more)))
placed n m ms more es true c h = refl
placed n m ms more es false true h = refl
placed n m ms more es false false h = ap (λ es. (m, tt) ∷ es) h

put_is : (n : ℕ) (ms : List ℕ) → put nat_cmp n tt (paired ms) ≡ paired (with_number n ms)
put_is n [] = refl
put_is n (m ∷ ms) = placed n m ms (with_number n ms) (put nat_cmp n tt (paired ms)) (ltb n m) (eqb n m) (put_is n ms)

no_entries : (es : List (ℕ × Unit {0})) → length es ≡ 0 → es ≡ []
no_entries [] e = refl
no_entries (x ∷ es) e = absurd (omega (arith, e))

entries_are : (vs : List Payload) → finite.entries (numbers vs) ≡ paired (as_numbers vs)
entries_are [] = no_entries (finite.entries (numbers [])) (sym (finite.len-entries (numbers [])) ∙ finite.len-empty nat_cmp (Unit {0}))
entries_are (v ∷ vs) = finite.entries-insert nat_cmp_total (numbers vs) v.asn tt ∙ ap (put nat_cmp v.asn tt) (entries_are vs) ∙ put_is v.asn (as_numbers vs)

unpaired : (ns : List ℕ) → map (λ (e : ℕ × Unit {0}). e.0) (paired ns) ≡ ns
unpaired [] = refl
unpaired (n ∷ ns) = ap (λ l. n ∷ l) (unpaired ns)

keys_are : (vs : List Payload) → finite.keys (numbers vs) ≡ as_numbers vs
keys_are vs = ap (map (λ e. e.0)) (entries_are vs) ∙ unpaired (as_numbers vs)

-- the map has the numbers of which there are VRPs
abbrev some : List Payload → Option (Unit {0})
some [] = None
some (v ∷ vs) = Some tt

flip : (a b : ℕ) → eqb a b ≡ eqb b a
flip a b = elim (cases_lt a b) [
  | inl less ↦ ne_eqb a b (λ e. absurd (omega (arith, less, e))) ∙ sym (ne_eqb b a (λ e. absurd (omega (arith, less, e))))
  | inr le ↦ elim (cases_lt b a) [
    | inl less ↦ ne_eqb a b (λ e. absurd (omega (arith, less, e))) ∙ sym (ne_eqb b a (λ e. absurd (omega (arith, less, e))))
    | inr other ↦ eq-eqb a b (omega (arith, le, other)) ∙ sym (eq-eqb b a (omega (arith, le, other)))
  ]
]

pick : (b : Bool) (v : Payload) (vs : List Payload) → cond b (Some tt) (some vs) ≡ some (cond b (v ∷ vs) vs)
pick true v vs = refl
pick false v vs = refl

has : (vs : List Payload) (a : ℕ) → finite.get (numbers vs) a ≡ some (of_as a vs)
has [] a = finite.get-empty nat_cmp a
has (v ∷ vs) a =
    finite.get-insert nat_cmp_total (numbers vs) v.asn tt a
    ∙ (λ i. cond ((unsigned_tied a v.asn ∙ flip a v.asn) i) (Some tt) (has vs a i))
    ∙ pick (eqb v.asn a) v (of_as a vs)

-- VRPs that are the same for each AS have the same AS numbers, and the same sets
same_numbers : (vs ws : List Payload) → ((a : ℕ) → of_as a vs ≡ of_as a ws) → as_numbers vs ≡ as_numbers ws
same_numbers vs ws h =
    let one : numbers vs ≡ numbers ws = finite.same_map nat_cmp_total finite.nat_cmp-IsAntisymmetric (numbers vs) (numbers ws) (λ a. has vs a ∙ ap some (h a) ∙ sym (has ws a)) in
    sym (keys_are vs) ∙ ap finite.keys one ∙ keys_are ws

pub same_sets : (vs ws : List Payload) → ((a : ℕ) → of_as a vs ≡ of_as a ws) → payload_sets vs ≡ payload_sets ws
unfolding payload_sets
same_sets vs ws h = λ i. flat_map (λ a. payload_set a (h a i)) (same_numbers vs ws h i)

-- ---- a stable sort

abbrev test : ℕ → ℕ → Bool
test a b = not (is_lt (nat_cmp a b)) && not (is_lt (nat_cmp b a))

lt_is : (b c : Bool) → is_lt (cond b Less (cond c Equal Greater)) ≡ b
lt_is true c = refl
lt_is false true = refl
lt_is false false = refl

tied_is : (a b : ℕ) → test a b ≡ eqb b a
tied_is a b =
    (λ i. not (lt_is (ltb a b) (eqb a b) i) && not (lt_is (ltb b a) (eqb b a) i))
    ∙ (elim (cases_lt a b) [
      | inl less ↦ ap (λ t. not t && not (ltb b a)) (lt-ltb a b less) ∙ sym (ne_eqb b a (λ e. absurd (omega (arith, less, e))))
      | inr le ↦ ap (λ t. not t && not (ltb b a)) (le-ltb a b le) ∙ elim (cases_lt b a) [
        | inl less ↦ ap (λ t. not t) (lt-ltb b a less) ∙ sym (ne_eqb b a (λ e. absurd (omega (arith, less, e))))
        | inr other ↦ ap (λ t. not t) (le-ltb b a other) ∙ sym (eq-eqb b a (omega (arith, le, other)))
      ]
    ])

-- some VRP of an AS
abbrev vrp_of : ℕ → Payload
vrp_of a = record { prefix = V4 (record { addr = 0; len = 0 }); max_len = 0; asn = a }

pub keeps_order : (vs ws : List Payload) → IsStableByKey (λ v. v.asn) nat_cmp vs ws → (a : ℕ) → of_as a ws ≡ of_as a vs
keeps_order vs ws stable a =
    ap (λ p. filter p ws) (λ i (v : Payload). sym (tied_is a v.asn) i) ∙ stable (vrp_of a) ∙ ap (λ p. filter p vs) (λ i (v : Payload). tied_is a v.asn i)
