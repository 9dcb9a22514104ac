-- The entries of a ROA are determined by the set of payloads that it validates.
use Rattle.std.proofs.Common.{◌≡◌, ◌⊎◌, ℕ, zero, suc, ◌<◌, true, false, not, eqb, get_or, List, [], ◌∷◌, length, map, Option, Some, None, refl, sym, ap, subst, ◌∙◌, inl, inr, arith}
use Rattle.std.specs.Prelude.{unwrap_or}
use Rattle.std.specs.List.{Contains, AllByRecursion}
use Rattle.std.specs.Cmp.{IsTotalOrder, nat_cmp_total, on_total, then_total}
use Rattle.std.specs.Ordering.{nat_cmp, ordering_then, ordering_reverse, is_lt}
use Rattle.std.specs.declared.cmp.Ordering.{Ordering}
use Rattle.std.specs.declared.cmp.Ordering.TheVariants.{Less, Equal, Greater}
use Rattle.std.proofs.lemmas.Bool.{eq-eqb}
use Rattle.prefixes.specs.Payload.{Payload, block_of, prefix_cmp}
use Rattle.prefixes.specs.Orders.{prefix_total}
use Rattle.payloads.specs.declared.roa_entry.RoaEntry.{RoaEntry}
use Rattle.payloads.specs.RoaEntries.{greatest_length, entry_cmp, is_prefix_length, is_superfluous, payload_of}
use Rattle.payloads.specs.RoaRefusal.{entries_refusal, roa_refusal}
use Rattle.payloads.specs.RoaValues.{RoaValue, RoaSpells, payloads_of}
use Rattle.payloads.specs.PayloadLaws.{SameSet, OnePayload}
use Rattle.payloads.proofs.RoaRefusals.{first_and_later, roa_right}
use Rattle.payloads.proofs.RoaLaws.{roa_spellings}

-- ---- the order of entries

entry_total : IsTotalOrder entry_cmp
entry_total = then_total (on_total (λ e. e.prefix) prefix_total) (on_total greatest_length nat_cmp_total)

-- two that are in one order are not in the other
not_both : (o p : Ordering) → o ≡ ordering_reverse p → o ≡ Less → p ≡ Less → ⊥
not_both o p e h k = let x : Less ≡ Greater = sym h ∙ e ∙ ap ordering_reverse k in cc

is_less : (o : Ordering) → not (is_lt o) ≡ false → o ≡ Less
is_less Less h = refl
is_less Equal h = absurd cc
is_less Greater h = absurd cc

-- the entry is below all of these
abbrev Below : RoaEntry → List RoaEntry → Type 0
Below e es = AllByRecursion (λ f. entry_cmp e f ≡ Less) es

-- each is below those after it, and no maximum length is superfluous
abbrev Rises : List RoaEntry → Type 0
Rises [] = Unit {0}
Rises (e ∷ es) = Below e es × (is_superfluous e ≡ false) × Rises es

below_more : (e f : RoaEntry) (es : List RoaEntry) → entry_cmp e f ≡ Less → Below f es → Below e es
below_more e f [] h b = tt
below_more e f (g ∷ es) h b = (entry_total.trans e f g h b.0, below_more e f es h b.1)

-- entries behind one with which nothing is wrong are above it
below_from : (index : ℕ) (e : RoaEntry) (es : List RoaEntry) → entries_refusal index (Some e) es ≡ None → Below e es
below_from index e [] h = tt
below_from index e (f ∷ es) h =
    let r = first_and_later index (Some e) f es h in
    let less : entry_cmp e f ≡ Less = is_less (entry_cmp e f) r.0.order in
    (less, below_more e f es less (below_from (suc index) f es r.1))

rises_from : (index : ℕ) (before : Option RoaEntry) (es : List RoaEntry) → entries_refusal index before es ≡ None → Rises es
rises_from index before [] h = tt
rises_from index before (e ∷ es) h =
    let r = first_and_later index before e es h in
    (below_from (suc index) e es r.1, r.0.needed, rises_from (suc index) (Some e) es r.1)

-- the entries of a ROA rise
rises : (es : List RoaEntry) → roa_refusal es ≡ None → Rises es
unfolding roa_refusal
rises [] h = tt
rises (e ∷ es) h = rises_from 0 None (e ∷ es) h

-- ---- a payload has one entry

maximum_one : (m n : Option ℕ) (k l : ℕ) → is_prefix_length m k ≡ false → is_prefix_length n l ≡ false → k ≡ l → unwrap_or m k ≡ unwrap_or n l → m ≡ n
maximum_one None None k l hm hn e h = refl
maximum_one None (Some n) k l hm hn e h = absurd (let t : eqb n l ≡ true = eq-eqb n l (sym h ∙ e) in cc)
maximum_one (Some m) None k l hm hn e h = absurd (let t : eqb m k ≡ true = eq-eqb m k (h ∙ sym e) in cc)
maximum_one (Some m) (Some n) k l hm hn e h = ap (λ (x : ℕ). Some x) h

entry_one : (asn : ℕ) (e f : RoaEntry) → is_superfluous e ≡ false → is_superfluous f ≡ false → payload_of asn e ≡ payload_of asn f → e ≡ f
entry_one asn e f he hf same =
    let prefix : e.prefix ≡ f.prefix = ap (λ (v : Payload). v.prefix) same in
    let maximum : e.max_len ≡ f.max_len = maximum_one e.max_len f.max_len (block_of e.prefix).len (block_of f.prefix).len he hf (ap (λ p. (block_of p).len) prefix) (ap (λ (v : Payload). v.max_len) same) in
    λ i. record { prefix = prefix i; max_len = maximum i }

-- ---- a set of payloads has one list of entries

cases : (v w : Payload) (ws : List Payload) → Contains (w ∷ ws) v → (w ≡ v) ⊎ Contains ws v
cases v w ws c = at c.0 c.1 c.2
  where
    at : (k : ℕ) → k < length (w ∷ ws) → get_or (w ∷ ws) k v ≡ v → (w ≡ v) ⊎ Contains ws v
    at zero l e = inl e
    at (suc k) l e = inr (k, omega arith, e)

first : (v : Payload) (vs : List Payload) → Contains (v ∷ vs) v
first v vs = (0, omega arith, refl)

later : (v w : Payload) (ws : List Payload) → Contains ws v → Contains (w ∷ ws) v
later v w ws c = (suc c.0, omega (arith, c.1), c.2)

none : (v : Payload) → Contains [] v → ⊥
none v c = absurd (omega (arith, c.1))

-- the place of an entry to that of a payload
abbrev to_payload : RoaEntry → Payload → Ordering
to_payload e v = ordering_then (prefix_cmp e.prefix v.prefix) (nat_cmp (greatest_length e) v.max_len)

module _ (asn : ℕ) where
  -- the payloads of entries
  abbrev those : List RoaEntry → List Payload
  those es = map (payload_of asn) es

  below_those : (e : RoaEntry) (es : List RoaEntry) (v : Payload) → Below e es → Contains (those es) v → to_payload e v ≡ Less
  below_those e [] v b c = absurd (none v c)
  below_those e (f ∷ es) v b c = elim (cases v (payload_of asn f) (those es) c) [
    | inl here ↦ subst (λ (w : Payload). to_payload e w ≡ Less) here b.0
    | inr c2 ↦ below_those e es v b.1 c2
  ]

  -- the first of one list is the first of the other
  same_first : (e f : RoaEntry) (es fs : List RoaEntry) → Below e es → Below f fs → Contains (those (f ∷ fs)) (payload_of asn e) → Contains (those (e ∷ es)) (payload_of asn f) → payload_of asn e ≡ payload_of asn f
  same_first e f es fs be bf ce cf = elim (cases (payload_of asn e) (payload_of asn f) (those fs) ce) [
    | inl here ↦ sym here
    | inr above ↦ elim (cases (payload_of asn f) (payload_of asn e) (those es) cf) [
      | inl here ↦ here
      | inr under ↦ absurd (not_both (entry_cmp e f) (entry_cmp f e) (entry_total.antisymm e f) (below_those e es (payload_of asn f) be under) (below_those f fs (payload_of asn e) bf above))
    ]
  ]

  -- what is behind the first of one list is behind that of the other
  behind : (e : RoaEntry) (es fs : List RoaEntry) (v : Payload) → Below e es → Contains (those es) v → Contains (payload_of asn e ∷ those fs) v → Contains (those fs) v
  behind e es fs v b c d = elim (cases v (payload_of asn e) (those fs) d) [
    | inl here ↦
        let less : entry_cmp e e ≡ Less = subst (λ (w : Payload). to_payload e w ≡ Less) (sym here) (below_those e es v b c) in
        absurd (not_both (entry_cmp e e) (entry_cmp e e) (entry_total.antisymm e e) less less)
    | inr rest ↦ rest
  ]

  one_list : (es fs : List RoaEntry) → Rises es → Rises fs → SameSet (those es) (those fs) → es ≡ fs
  one_list [] [] r q same = refl
  one_list [] (f ∷ fs) r q same = absurd (none (payload_of asn f) ((same (payload_of asn f)).1 (first (payload_of asn f) (those fs))))
  one_list (e ∷ es) [] r q same = absurd (none (payload_of asn e) ((same (payload_of asn e)).0 (first (payload_of asn e) (those es))))
  one_list (e ∷ es) (f ∷ fs) r q same =
      let here = same_first e f es fs r.0 q.0 ((same (payload_of asn e)).0 (first (payload_of asn e) (those es))) ((same (payload_of asn f)).1 (first (payload_of asn f) (those fs))) in
      let rest : SameSet (those es) (those fs) =
      λ v. (
        (λ c. behind e es fs v r.0 c (subst (λ (w : Payload). Contains (w ∷ those fs) v) (sym here) ((same v).0 (later v (payload_of asn e) (those es) c)))),
        (λ c. behind f fs es v q.0 c (subst (λ (w : Payload). Contains (w ∷ those es) v) here ((same v).1 (later v (payload_of asn f) (those fs) c)))),
      ) in
      ap (λ (g : RoaEntry). g ∷ es) (entry_one asn e f r.1 q.1 here) ∙ ap (λ (l : List RoaEntry). f ∷ l) (one_list es fs r.2 q.2 rest)

-- One authorization has one payload.
pub payload_law : OnePayload
payload_law a b roa other ba bb s t = (
  (λ same.
      let one : roa ≡ other = roa_spellings.1 b roa other (subst (λ (bytes : List ℕ). RoaSpells roa bytes) same s) t in
      (ap (λ (r : RoaValue). r.asn) one, λ v. ((λ c. subst (λ (r : RoaValue). Contains (payloads_of r) v) one c), (λ c. subst (λ (r : RoaValue). Contains (payloads_of r) v) (sym one) c)))),
  (λ h.
      let set : SameSet (payloads_of roa) (map (payload_of roa.asn) other.entries) = subst (λ (n : ℕ). SameSet (payloads_of roa) (map (payload_of n) other.entries)) (sym h.0) h.1 in
      let entries : roa.entries ≡ other.entries = one_list roa.asn roa.entries other.entries (rises roa.entries (roa_right roa a s)) (rises other.entries (roa_right other b t)) set in
      let one : roa ≡ other = λ i. record { asn = h.0 i; entries = entries i } in
      roa_spellings.0 other a b ba bb (subst (λ (r : RoaValue). RoaSpells r a) one s) t),
)
