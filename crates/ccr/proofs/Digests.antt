-- The hash that a representation carries is the digest of the set of its VRPs.
use Rattle.std.proofs.Common.{◌≡◌, ◌≢◌, ◌∙◌, ℕ, ◌<◌, ◌≤◌, Bool, true, false, not, ◌&&◌, cond, eqb, List, [], ◌∷◌, ◌++◌, length, map, Option, Some, None, refl, sym, ap, subst, inl, inr, arith}
use Rattle.std.specs.Prelude.{Result, Ok, Err, IfOk, bytes_eq}
use Rattle.std.specs.List.{AllByRecursion, last_or}
use Rattle.std.specs.List.Sorted.{IsStrictlySortedBy}
use Rattle.std.specs.Ordering.{is_lt, nat_cmp, ordering_then}
use Rattle.std.specs.declared.cmp.Ordering.{Ordering}
use Rattle.std.specs.declared.cmp.Ordering.TheVariants.{Less, Equal, Greater}
use Rattle.std.proofs.lemmas.Bool.{eqb-true, leb-false, not-false}
use Rattle.std.proofs.lemmas.List.Elements.{filter-append}
use Rattle.std.proofs.lemmas.List.Kept.{IsStrictlySortedBy-filter}
use Rattle.std.proofs.lemmas.Slice.Eq.{bytes_eq-Decides}
use Rattle.sha2.specs.Sha256.{sha256}
use Rattle.der_lite.specs.Der.{IsBytes, tlv}
use Rattle.der_lite.specs.Grammar.{EachSpells}
use Rattle.der_lite.proofs.Rules.{kept_first}
use Rattle.prefixes.specs.Payload.{Payload, prefix_cmp, vrp_cmp}
use Rattle.prefixes.specs.Orders.{vrp_exact, vrp_total}
use Rattle.payloads.specs.declared.roa_entry.RoaEntry.{RoaEntry}
use Rattle.payloads.specs.RoaEntries.{entry_cmp, greatest_length, is_not_above, payload_of}
use Rattle.payloads.specs.RoaValues.{RoaValue, payloads_of}
use Rattle.vrps.specs.VrpSet.{listing, set_of}
use Rattle.vrps.proofs.SetLaws.{has-listing, has-set_of, kept, listing-set_of, listing_ascends, same_set}
use Rattle.ccr.specs.PayloadSet as sets
use Rattle.ccr.specs.PayloadSet.{as_of, set_behind}
use Rattle.ccr.specs.Canonical.{canonical, of_as, payload_sets}
use Rattle.ccr.specs.Ccr as g
use Rattle.ccr.specs.Ccr.{all_payloads}
use Rattle.ccr.specs.declared.fault.ReadCcrError.{ReadCcrError}
use Rattle.ccr.specs.Faults.{ReadsCcr}
use Rattle.ccr.specs.Laws.{HasDigest, HashIsDigest}
use Rattle.ccr.proofs.Groups.{first_set, front_of, no_sets, weaken}
use Rattle.ccr.proofs.Sets.{last_more}
use Rattle.ccr.proofs.SetBytes.{Chain, inner_bytes, set_known, split_bytes}
use Rattle.ccr.proofs.Sorting.{same_sets}

-- ---- the VRPs of a set ascend

is_less : (o : Ordering) → not (is_lt o) ≡ false → o ≡ Less
is_less Less h = refl
is_less Equal h = absurd cc
is_less Greater h = absurd cc

less_with : (o p r : Ordering) → ordering_then o p ≡ Less → ordering_then o (ordering_then p r) ≡ Less
less_with Less p r h = refl
less_with Equal Less r h = refl
less_with Equal Equal r h = absurd cc
less_with Equal Greater r h = absurd cc
less_with Greater p r h = absurd cc

abbrev Below : Payload → List Payload → Type 0
Below v ws = AllByRecursion (λ w. vrp_cmp v w ≡ Less) ws

step : (asn : ℕ) (e f : RoaEntry) → is_not_above (Some e) f ≡ false → vrp_cmp (payload_of asn e) (payload_of asn f) ≡ Less
step asn e f h = less_with (prefix_cmp e.prefix f.prefix) (nat_cmp (greatest_length e) (greatest_length f)) (nat_cmp asn asn) (is_less (entry_cmp e f) h)

below_more : (v w : Payload) (ws : List Payload) → vrp_cmp v w ≡ Less → Below w ws → Below v ws
below_more v w [] h b = tt
below_more v w (x ∷ ws) h b = (vrp_total.trans v w x h b.0, below_more v w ws h b.1)

below_chain : (asn : ℕ) (e : RoaEntry) (es : List RoaEntry) → Chain (Some e) es → Below (payload_of asn e) (map (payload_of asn) es)
below_chain asn e [] c = tt
below_chain asn e (f ∷ es) c =
    let less = step asn e f c.0 in
    (less, below_more (payload_of asn e) (payload_of asn f) (map (payload_of asn) es) less (below_chain asn f es c.1))

sorted_chain : (asn : ℕ) (before : Option RoaEntry) (es : List RoaEntry) → Chain before es → IsStrictlySortedBy vrp_cmp (map (payload_of asn) es)
unfolding IsStrictlySortedBy
sorted_chain asn before [] c = tt
sorted_chain asn before (e ∷ es) c = (below_chain asn e es c.1, sorted_chain asn (Some e) es c.1)

-- ---- they are of its AS

ones : (asn : ℕ) (es : List RoaEntry) → AllByRecursion (λ w. w.asn ≡ asn) (map (payload_of asn) es)
ones asn [] = tt
ones asn (e ∷ es) = (refl, ones asn es)

above_ones : (a asn : ℕ) (es : List RoaEntry) (rest : List Payload) → a < asn → AllByRecursion (λ w. a < w.asn) rest → AllByRecursion (λ w. a < w.asn) (map (payload_of asn) es ++ rest)
above_ones a asn [] rest less h = h
above_ones a asn (e ∷ es) rest less h = (less, above_ones a asn es rest less h)

some_payloads : (asn : ℕ) (es : List RoaEntry) → es ≢ [] → 0 < length (map (payload_of asn) es)
some_payloads asn [] h = absurd (h refl)
some_payloads asn (e ∷ es) h = omega arith

others_none : (a asn : ℕ) (es : List RoaEntry) → eqb asn a ≡ false → of_as a (map (payload_of asn) es) ≡ []
others_none a asn [] n = refl
others_none a asn (e ∷ es) n = ap (λ (test : Bool). cond test (payload_of asn e ∷ of_as a (map (payload_of asn) es)) (of_as a (map (payload_of asn) es))) n ∙ others_none a asn es n

-- those of an AS are the set's, or come after it
of_as_sorted : (a asn : ℕ) (es : List RoaEntry) (rest : List Payload) (b : Bool) → eqb asn a ≡ b → Chain None es → AllByRecursion (λ w. asn < w.asn) rest → IsStrictlySortedBy vrp_cmp (of_as a rest)
    → IsStrictlySortedBy vrp_cmp (of_as a (map (payload_of asn) es ++ rest))
of_as_sorted a asn es rest true e c above sorted =
    let same : asn ≡ a = eqb-true asn a e in
    subst (λ (l : List Payload). IsStrictlySortedBy vrp_cmp l)
    (sym (subst (λ (n : ℕ). of_as n (map (payload_of asn) es ++ rest) ≡ map (payload_of asn) es) same (front_of asn (map (payload_of asn) es) rest (ones asn es) above)))
    (sorted_chain asn None es c)
of_as_sorted a asn es rest false e c above sorted =
    subst (λ (l : List Payload). IsStrictlySortedBy vrp_cmp l)
    (sym (filter-append (λ (v : Payload). eqb v.asn a) (map (payload_of asn) es) rest ∙ ap (λ (l : List Payload). l ++ of_as a rest) (others_none a asn es e)))
    sorted

-- ---- the sets

pub record AreSets (before : Option ℕ) (all : List RoaValue) (bytes : List ℕ) : Type 0 where
  pub is : bytes ≡ payload_sets (all_payloads all)
  pub above : (a : ℕ) → before ≡ Some a → AllByRecursion (λ w. a < w.asn) (all_payloads all)
  pub sorted : (a : ℕ) → IsStrictlySortedBy vrp_cmp (of_as a (all_payloads all))

sets_known : (before all : List RoaValue) (bytes : List ℕ) → IsBytes bytes → EachSpells set_behind before all bytes → AreSets (as_of (last_or None before)) all bytes
unfolding IsStrictlySortedBy
sets_known before [] bytes are s = record { is = s ∙ sym no_sets; above = λ a e. tt; sorted = λ a. tt }
sets_known before (set ∷ all) bytes are s =
    let parts = split_bytes bytes s.0 s.1 s.2 are in
    let k = set_known (as_of (last_or None before)) set s.0 parts.0 s.3 in
    let more = sets_known (before ++ set ∷ []) all s.1 parts.1 s.4 in
    let behind : AllByRecursion (λ w. set.asn < w.asn) (all_payloads all) = more.above set.asn (ap as_of (last_more None before set)) in
    record {
      is = s.2.parts ∙ (λ i. k.is i ++ more.is i) ∙ sym (first_set set.asn (payloads_of set) (all_payloads all) (some_payloads set.asn set.entries k.some) (ones set.asn set.entries) behind);
      above = λ a e.
          let less : a < set.asn = leb-false set.asn a (ap (λ (b : Option ℕ). sets.is_not_above b set.asn) (sym e) ∙ k.order) in
          above_ones a set.asn set.entries (all_payloads all) less (weaken a set.asn less (all_payloads all) (le_all set.asn (all_payloads all) behind));
      sorted = λ a. of_as_sorted a set.asn set.entries (all_payloads all) (eqb set.asn a) refl k.chain behind (more.sorted a);
    }
  where
    le_all : (a : ℕ) (vs : List Payload) → AllByRecursion (λ w. a < w.asn) vs → AllByRecursion (λ w. a ≤ w.asn) vs
    le_all a [] h = tt
    le_all a (v ∷ vs) h = (omega (arith, h.0), le_all a vs h.1)

-- ---- the same VRPs as a set

-- the AS of VRPs that tie
alike : (a : ℕ) (q x : Payload) → vrp_cmp q x ≡ Equal → eqb x.asn a ≡ eqb q.asn a
alike a q x e = ap (λ (w : Payload). eqb w.asn a) (sym (vrp_exact q x e))

same_of : (vs : List Payload) → ((a : ℕ) → IsStrictlySortedBy vrp_cmp (of_as a vs)) → (a : ℕ) → of_as a vs ≡ of_as a (listing (set_of vs))
same_of vs sorted a =
    let s = set_of vs in
    let xs = of_as a vs in
    let ys = of_as a (listing s) in
    let one : set_of xs ≡ set_of ys = same_set (set_of xs) (set_of ys) (λ q.
    has-set_of xs q ∙ kept (λ (v : Payload). eqb v.asn a) q (alike a q) vs ∙ ap (λ (b : Bool). b && eqb q.asn a) (sym (has-set_of vs q) ∙ has-listing s q)
    ∙ sym (kept (λ (v : Payload). eqb v.asn a) q (alike a q) (listing s)) ∙ sym (has-set_of ys q)) in
    sym (listing-set_of xs (sorted a)) ∙ ap listing one ∙ listing-set_of ys (IsStrictlySortedBy-filter vrp_cmp (λ (v : Payload). eqb v.asn a) (listing s) (listing_ascends s))

canonical_is : (vs : List Payload) → ((a : ℕ) → IsStrictlySortedBy vrp_cmp (of_as a vs)) → tlv 48 (payload_sets vs) ≡ canonical (set_of vs)
unfolding canonical
canonical_is vs sorted = ap (λ (l : List ℕ). tlv 48 l) (same_sets vs (listing (set_of vs)) (same_of vs sorted))

-- ---- down to the list

hash_is : (octets hash bytes : List ℕ) → (g.hash_of octets).Spells hash bytes → hash ≡ sha256 octets
unfolding g.hash_of
hash_is octets hash bytes s =
    s.2.0 ∙ (bytes_eq-Decides s.0 (sha256 octets)).0 (not-false (bytes_eq s.0 (sha256 octets)) (kept_first 24 (not (bytes_eq s.0 (sha256 octets))) [] s.2.1).0)

state_known : (v : g.Vrps) (bytes : List ℕ) → IsBytes bytes → g.vrp_state.Spells v bytes → HasDigest (Some v)
unfolding g.vrp_state g.payload_list
state_known v bytes are s =
    let outer = inner_bytes 162 s.0 bytes s.1 are in
    let state = s.2.1 in
    let told = state.2.1 in
    let a = told.0 in
    let m = told.1 in
    let parts = split_bytes state.0 m.0 m.1 m.2 (inner_bytes 48 state.0 s.0 state.1 outer) in
    let list = m.3.1 in
    let k = sets_known [] list.2.1.0 list.0 (inner_bytes 48 list.0 m.0 list.1 parts.0) list.2.1.1 in
    let octets : a.0.0 ≡ tlv 48 (payload_sets (all_payloads list.2.1.0)) = sym m.3.0 ∙ list.1.spelled ∙ ap (λ (l : List ℕ). tlv 48 l) k.is in
    let vrps : all_payloads list.2.1.0 ≡ a.0.1 = list.2.1.2 in
    let right : a.1 ≡ sha256 (canonical (set_of a.0.1)) =
    hash_is a.0.0 a.1 m.1 m.4 ∙ ap sha256 (octets ∙ canonical_is (all_payloads list.2.1.0) k.sorted ∙ ap (λ (l : List Payload). canonical (set_of l)) vrps) in
    subst (λ (w : g.Vrps). w.1 ≡ sha256 (canonical (set_of w.0))) told.2 right

vrps_known : (v : Option g.Vrps × (Option (List ℕ) × g.LastStates)) (bytes : List ℕ) → IsBytes bytes → g.vrp_states.Spells v bytes → HasDigest v.0
vrps_known v bytes are (inl s) =
    let m = s.1.1 in
    subst (λ (w : Option g.Vrps × (Option (List ℕ) × g.LastStates)). HasDigest w.0) s.1.2 (state_known s.1.0.0 m.0 (split_bytes bytes m.0 m.1 m.2 are).0 m.3)
vrps_known v bytes are (inr s) = subst (λ (w : Option g.Vrps × (Option (List ℕ) × g.LastStates)). HasDigest w.0) s.1.2 tt

states_known : (v : g.States) (bytes : List ℕ) → IsBytes bytes → g.states.Spells v bytes → HasDigest v.1.0
unfolding g.states
states_known v bytes are (inl s) =
    let m = s.1.1 in
    subst (λ (w : g.States). HasDigest w.1.0) s.1.2 (vrps_known s.1.0.1 m.1 (split_bytes bytes m.0 m.1 m.2 are).1 m.4)
states_known v bytes are (inr s) = subst (λ (w : g.States). HasDigest w.1.0) s.1.2 (vrps_known s.1.0 bytes are s.1.1)

pub hash_is_digest : HashIsDigest
unfolding g.CcrSpells g.content_info g.content g.representation
hash_is_digest bytes c are s =
    let m = s.2.1.1 in
    let in_info = split_bytes s.0 m.0 m.1 m.2 (inner_bytes 48 s.0 bytes s.1 are) in
    let content = m.4 in
    let rep = content.2.1 in
    let in_content = inner_bytes 160 content.0 m.1 content.1 in_info.1 in
    let told = rep.2.1 in
    let a = told.1 in
    let in_rep = split_bytes rep.0 a.0 a.1 a.2 (inner_bytes 48 rep.0 content.0 rep.1 in_content) in
    let b = a.4 in
    let in_states = split_bytes a.1 b.0 b.1 b.2 in_rep.1 in
    let known : HasDigest told.0.1.1.1.0 = states_known told.0.1.1 b.1 in_states.1 b.4 in
    subst (λ (v : g.Ccr). HasDigest v.1.1.0) s.2.1.2 (subst (λ (v : g.Ccr). HasDigest v.1.1.0) told.2 known)

pub digest_of_read : (result : Result g.Ccr ReadCcrError) (bytes : List ℕ) → IsBytes bytes → ReadsCcr (λ c. c) result bytes → IfOk result (λ c. HasDigest c.1.1.0)
digest_of_read (Ok c) bytes are s = hash_is_digest bytes c are s
digest_of_read (Err e) bytes are s = tt
