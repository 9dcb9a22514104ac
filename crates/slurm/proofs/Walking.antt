-- Filters that cover the records of a walk.
use Rattle.std.specs.Prelude.{◌≡◌, ℕ, ◌<◌, ◌≤◌, ◌+◌, ◌++◌, ◌||◌, cond, Bool, true, false, List, [], ◌∷◌, length, take, drop, filter, get_or, refl}
use Rattle.std.proofs.Common.{ap, sym, ◌∙◌, subst, arith}
use Rattle.std.specs.List.{All, AllByRecursion, list_any}
use Rattle.std.specs.List.Sorted.{IsSorted, IsStrictlySortedBy}
use Rattle.std.specs.Ordering.{is_le, ordering_index, ordering_then}
use Rattle.std.specs.declared.cmp.Ordering.{Ordering}
use Rattle.std.specs.declared.cmp.Ordering.TheVariants.{Less, Equal, Greater}
use Rattle.std.proofs.lemmas.Cmp.{alike_right}
use Rattle.std.proofs.lemmas.Map.Keys.{Less-from_sorted}
use Rattle.std.proofs.Math.Bool.{or-false}
use Rattle.std.proofs.lemmas.List.{get_or-drop, get_or_default, length-drop, take-append-drop, take_more}
use Rattle.std.proofs.lemmas.List.Elements.{All-drop, All-take, filter-append, recursion_from_All}
use Rattle.std.proofs.lemmas.List.Folds.{list_any-append, list_any_none}
use Rattle.std.proofs.lemmas.List.Sorted.{searchable_from_sorted}
use Rattle.prefixes.specs.Address.{IsPrefix}
use Rattle.prefixes.specs.Payload.{Payload, IsPayload, block_of, covers, prefix_cmp, vrp_cmp, width_of}
use Rattle.prefixes.specs.Orders.{prefix_total}
use Rattle.prefixes.specs.declared.prefix.IpPrefix.{IpPrefix}
use Rattle.prefixes.proofs.Basics.{all_both, false_if_never, not_both}
use Rattle.vrps.specs.Keys.{up_to}
use Rattle.vrps.proofs.Blocks.{covers_between, covers_up_to}
use Rattle.slurm.specs.Arranged.{Opens, covering, hit_anywhere, hit_by}
use Rattle.slurm.specs.Exceptions.{is_filtered}
use Rattle.slurm.specs.declared.filter.PrefixFilter.{PrefixFilter}
use Rattle.slurm.specs.declared.index.Index.{Index}

-- ---- the order of prefixes

pub up_to_trans : (p q r : IpPrefix) → up_to p q ≡ true → up_to q r ≡ true → up_to p r ≡ true
up_to_trans p q r low high =
    elim (prefix_cmp p q) as (λ o. prefix_cmp p q ≡ o → is_le o ≡ true → up_to p r ≡ true) [
      | Less ↦ λ is h. before is
      | Equal ↦ λ is h. ap is_le (prefix_total.congr p q r is) ∙ high
      | Greater ↦ λ is h. absurd (cc)
    ] refl low
  where
    before : prefix_cmp p q ≡ Less → up_to p r ≡ true
    before is =
        elim (prefix_cmp q r) as (λ o. prefix_cmp q r ≡ o → is_le o ≡ true → up_to p r ≡ true) [
          | Less ↦ λ other h. ap is_le (prefix_total.trans p q r is other)
          | Equal ↦ λ other h. ap is_le (sym (alike_right prefix_total q r p other) ∙ is)
          | Greater ↦ λ other h. absurd (cc)
        ] refl high

abbrev pub HasPrefix : IpPrefix → Type 0
HasPrefix f = IsPrefix (width_of f) (block_of f)

-- what covers a later prefix, and is not after an earlier one, covers that too
earlier : (f : IpPrefix) (p q : IpPrefix) → HasPrefix f → IsPrefix (width_of p) (block_of p) → up_to f p ≡ true → up_to p q ≡ true → covers f q ≡ true → covers f p ≡ true
earlier f p q h k low high it = covers_between f p q h k low high it

-- ---- those that cover

-- Of those that are not after a prefix, those that cover a later one are among those that cover it.
pub covering_later : (p q : IpPrefix) (fs : List IpPrefix) → IsPrefix (width_of p) (block_of p) → up_to p q ≡ true → AllByRecursion HasPrefix fs → AllByRecursion (λ f. up_to f p ≡ true) fs
    → covering q (covering p fs) ≡ covering q fs
covering_later p q [] k high all low = refl
covering_later p q (f ∷ fs) k high all low =
    elim (covers f p) as (λ b. covers f p ≡ b → covering q (cond b (f ∷ covering p fs) (covering p fs)) ≡ covering q (f ∷ fs)) [
      | true ↦ λ is. ap (λ gs. cond (covers f q) (f ∷ gs) gs) (covering_later p q fs k high all.1 low.1)
      | false ↦ λ is. covering_later p q fs k high all.1 low.1 ∙ ap (λ b. cond b (f ∷ covering q fs) (covering q fs)) (sym (false_if_never (covers f q) (λ it. not_both _ (earlier f p q all.0 k low.0 high it) is)))
    ] refl

-- The filters that are opened so far cover what the first ones of all cover, from the prefix on.
pub record IsOpen (fs : List IpPrefix) (next : ℕ) (opened : List IpPrefix) (p : IpPrefix) : Type 0 where
  pub not_after : AllByRecursion (λ f. up_to f p ≡ true) (take next fs)
  pub covers_it : covering p opened ≡ covering p (take next fs)

all_after : (p q : IpPrefix) (fs : List IpPrefix) → up_to p q ≡ true → AllByRecursion (λ f. up_to f p ≡ true) fs → AllByRecursion (λ f. up_to f q ≡ true) fs
all_after p q [] high h = tt
all_after p q (f ∷ fs) high h = (up_to_trans f p q h.0 high, all_after p q fs high h.1)

all_taken : (n : ℕ) (fs : List IpPrefix) → All HasPrefix fs → AllByRecursion HasPrefix (take n fs)
all_taken n fs h = recursion_from_All HasPrefix (take n fs) (All-take HasPrefix n fs h)

-- One record further: those that are not after its prefix are opened, and those that do not cover it closed.
module _ (fs : List IpPrefix) (all : All HasPrefix fs) (p : IpPrefix) (k : IsPrefix (width_of p) (block_of p)) (next to : ℕ) (old new now : List IpPrefix) (s : IsOpen fs next old p) (o : Opens fs p next old to new) (closed : now ≡ covering p new) where
  pub covers_now : now ≡ covering p (take to fs)
  covers_now =
      closed ∙ ap (covering p) o.opened ∙ filter-append (λ f. covers f p) old o.more ∙ ap (λ gs. gs ++ covering p o.more) s.covers_it
      ∙ sym (filter-append (λ f. covers f p) (take next fs) o.more) ∙ ap (covering p) (sym o.taken)

  pub opens_on : (q : IpPrefix) → up_to p q ≡ true → IsOpen fs to now q
  opens_on q high =
      let low : AllByRecursion (λ f. up_to f p ≡ true) (take to fs) =
      subst (λ gs. AllByRecursion (λ f. up_to f p ≡ true) gs) (sym o.taken) (all_both (λ f. up_to f p ≡ true) (take next fs) o.more s.not_after o.not_after) in
      record {
        not_after = all_after p q (take to fs) high low;
        covers_it = ap (covering q) covers_now ∙ covering_later p q (take to fs) k high (all_taken to fs all) low;
      }

  -- the others are after it
  pub none_left : IsSorted prefix_cmp fs → (v : Payload) → v.prefix ≡ p → list_any (λ f. covers f v.prefix) (drop to fs) ≡ false
  none_left sorted v is =
      list_any_none (λ f. covers f v.prefix) (drop to fs) (λ j d below. never j d below)
    where
      greater : (c : Ordering) → is_le c ≡ false → 2 ≤ ordering_index c
      greater Less h = absurd (cc)
      greater Equal h = absurd (cc)
      greater Greater h = omega arith

      after : (c : Ordering) → 2 ≤ ordering_index c → is_le c ≡ false
      after Less h = absurd (omega arith)
      after Equal h = absurd (omega arith)
      after Greater h = refl

      is_after : (j : ℕ) (d : IpPrefix) → j < length (drop to fs) → up_to (get_or (drop to fs) j d) p ≡ false
      is_after j d below =
          let long = length-drop to fs in
          let rises = searchable_from_sorted prefix_total (λ f. f) fs p sorted to (to + j) d (omega arith) (omega (arith, long, below)) in
          let first = greater (prefix_cmp (get_or fs to d) p) (o.stops d (omega (arith, long, below))) in
          ap (λ f. up_to f p) (get_or-drop to fs j d) ∙ after (prefix_cmp (get_or fs (to + j) d) p) (omega (arith, rises, first))

      never : (j : ℕ) (d : IpPrefix) → j < length (drop to fs) → covers (get_or (drop to fs) j d) v.prefix ≡ false
      never j d below =
          let f = get_or (drop to fs) j d in
          let valid : HasPrefix f = All-drop HasPrefix to fs all j d below in
          let uncovered : covers f p ≡ false = false_if_never (covers f p) (λ it. not_both _ (covers_up_to f p valid it) (is_after j d below)) in
          ap (λ q. covers f q) is ∙ uncovered

  any_covering : (v : Payload) (gs : List IpPrefix) → v.prefix ≡ p → list_any (λ f. covers f v.prefix) (covering p gs) ≡ list_any (λ f. covers f v.prefix) gs
  any_covering v [] is = refl
  any_covering v (f ∷ gs) is =
      elim (covers f p) as (λ b. covers f p ≡ b → list_any (λ g. covers g v.prefix) (cond b (f ∷ covering p gs) (covering p gs)) ≡ list_any (λ g. covers g v.prefix) (f ∷ gs)) [
        | true ↦ λ it. ap (λ b. covers f v.prefix || b) (any_covering v gs is)
        | false ↦ λ it. any_covering v gs is ∙ ap (λ b. b || list_any (λ g. covers g v.prefix) gs) (sym (ap (λ q. covers f q) is ∙ it))
      ] refl

  -- A record is hit by those that cover it.
  pub hit_now : IsSorted prefix_cmp fs → (v : Payload) → v.prefix ≡ p → list_any (λ f. covers f v.prefix) now ≡ list_any (λ f. covers f v.prefix) fs
  hit_now sorted v is =
      ap (list_any (λ f. covers f v.prefix)) covers_now ∙ any_covering v (take to fs) is
      ∙ sym (or-false (list_any (λ f. covers f v.prefix) (take to fs))) ∙ ap (λ b. list_any (λ f. covers f v.prefix) (take to fs) || b) (sym (none_left sorted v is))
      ∙ sym (list_any-append (λ f. covers f v.prefix) (take to fs) (drop to fs)) ∙ ap (list_any (λ f. covers f v.prefix)) (take-append-drop to fs)

-- ---- the records

-- of ascending records the prefix of one is not after that of a later one
pub prefix_rises : (vs : List Payload) (i j : ℕ) (d : Payload) → IsStrictlySortedBy vrp_cmp vs → i < j → j < length vs → up_to (get_or vs i d).prefix (get_or vs j d).prefix ≡ true
prefix_rises vs i j d h low high = by_parts (prefix_cmp (get_or vs i d).prefix (get_or vs j d).prefix) _ (Less-from_sorted vrp_cmp vs i j d h low high)
  where
    by_parts : (a b : Ordering) → ordering_then a b ≡ Less → is_le a ≡ true
    by_parts Less b e = refl
    by_parts Equal b e = refl
    by_parts Greater b e = absurd (cc)

-- A record stands behind those before it.
pub all_before : (vs : List Payload) (i : ℕ) (v : Payload) → IsStrictlySortedBy vrp_cmp vs → i < length vs → v ≡ get_or vs i v → (k : ℕ) (d : Payload) → k < i → up_to (get_or vs k d).prefix v.prefix ≡ true
all_before vs i v h within is k d below = ap (λ w. up_to (get_or vs k d).prefix w.prefix) (is ∙ get_or_default vs i v d within) ∙ prefix_rises vs k i d h below within

-- The records so far that some filter matches; and the filters at hand are those that cover what is not before these records.
pub record Ahead (gs : List PrefixFilter) (fs : List IpPrefix) (vs : List Payload) (i next : ℕ) (opened : List IpPrefix) (matched : List Payload) : Type 0 where
  pub so_far : matched ≡ filter (is_filtered gs) (take i vs)
  pub within : next ≤ length fs
  pub at_hand : (p : IpPrefix) → ((k : ℕ) (d : Payload) → k < i → up_to (get_or vs k d).prefix p ≡ true) → IsOpen fs next opened p

one_more : (p : Payload → Bool) (vs ws us : List Payload) (i : ℕ) (v : Payload) (b : Bool) → i < length vs → v ≡ get_or vs i v → ws ≡ filter p (take i vs) → b ≡ p v → us ≡ ws ++ cond b (v ∷ []) [] → us ≡ filter p (take (i + 1) vs)
one_more p vs ws us i v b h is was hit now =
    now ∙ (λ k. was k ++ cond (hit k) (v ∷ []) []) ∙ sym (filter-append p (take i vs) (v ∷ [])) ∙ ap (filter p) (sym (take_more vs i v h ∙ ap (λ w. take i vs ++ w ∷ []) (sym is)))

pub one_ahead : (gs : List PrefixFilter) (ix : Index) (vs : List Payload) (i next to : ℕ) (v : Payload) (p : IpPrefix) (old new now : List IpPrefix) (matched after : List Payload) (hit : Bool)
    → ((w : Payload) → hit_by ix w ≡ is_filtered gs w) → IsSorted prefix_cmp ix.by_prefix.items → All HasPrefix ix.by_prefix.items
    → IsStrictlySortedBy vrp_cmp vs → i < length vs → v ≡ get_or vs i v → p ≡ v.prefix → IsPayload v
    → Ahead gs ix.by_prefix.items vs i next old matched → Opens ix.by_prefix.items p next old to new → now ≡ covering p new
    → hit ≡ (list_any (λ f. covers f v.prefix) now || hit_anywhere ix v) → after ≡ matched ++ cond hit (v ∷ []) [] → Ahead gs ix.by_prefix.items vs (i + 1) to now after
one_ahead gs ix vs i next to v p old new now matched after hit says sorted all ascends h is prefix payload a o closed hits_it pushed =
    let fs = ix.by_prefix.items in
    let valid : IsPrefix (width_of p) (block_of p) = subst (λ q. IsPrefix (width_of q) (block_of q)) (sym prefix) payload.prefix in
    let s : IsOpen fs next old p = a.at_hand p (λ k d below. subst (λ q. up_to (get_or vs k d).prefix q ≡ true) (sym prefix) (all_before vs i v ascends h is k d below)) in
    let told : hit ≡ is_filtered gs v = hits_it ∙ ap (λ b. b || hit_anywhere ix v) (hit_now fs all p valid next to old new now s o closed sorted v (sym prefix)) ∙ says v in
    record {
      so_far = one_more (is_filtered gs) vs matched after i v hit h is a.so_far told pushed;
      within = o.within;
      at_hand = λ q seen. opens_on fs all p valid next to old new now s o closed q (subst (λ r. up_to r q ≡ true) (ap (λ w. w.prefix) (sym is) ∙ sym prefix) (seen i v (omega arith)));
    }
