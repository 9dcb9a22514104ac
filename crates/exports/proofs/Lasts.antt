-- The last second at which each payload of an export counts.
use Rattle.std.proofs.Common.{◌≡◌, ℕ, zero, suc, ◌+◌, ◌-◌, ◌^◌, ◌<◌, ◌≤◌, ◌++◌, cond, Bool, true, false, nat_lt, List, [], ◌∷◌, length, replicate, take, get_or, set, Option, Some, None, refl, sym, ap, subst, ◌∙◌, arith}
use Rattle.std.specs.Prelude.{◌==◌, nat_le, max, filter, map, slice_get, ◌&&◌, ◌||◌}
use Rattle.std.specs.List.{list_all, list_any}
use Rattle.std.proofs.lemmas.Bool.Decides.{nat_tests}
use Rattle.std.proofs.lemmas.List.{length-replicate, length-set, length-take-le, map-append, take_more}
use Rattle.std.proofs.lemmas.List.Elements.{filter-append}
use Rattle.std.proofs.lemmas.List.Folds.{list_any-append, list_any_at}
use Rattle.std.proofs.lemmas.Option.{get_or_from_slice_get, slice_get-get_or, slice_get_within}
use Rattle.std.specs.Cmp.{tied_itself}
use Rattle.std.specs.List.Sorted.{IsStrictlySortedBy}
use Rattle.std.specs.Ordering.{is_eq}
use Rattle.std.specs.declared.cmp.Ordering.TheVariants.{Equal}
use Rattle.prefixes.specs.Orders.{vrp_exact, vrp_total}
use Rattle.prefixes.specs.Payload.{Payload, vrp_cmp}
use Rattle.vrps.specs.VrpSet.{VrpSet, has, listing, set_of, size}
use Rattle.vrps.proofs.Listed.{size_of_listing}
use Rattle.vrps.proofs.SetLaws.{has-set_of, listing_ascends, same_set, same_vrp, set_of-listing}
use Rattle.exports.specs.Entry.{counts_at, current, is_after}
use Rattle.exports.specs.Export.{lasting}
use Rattle.exports.specs.Lasting.{AreLasts, counting, last_at, last_second, last_seconds}
use Rattle.exports.specs.declared.entry.ExportEntry.{ExportEntry}

-- ---- the last seconds of entries

-- An entry that counts does so up to its last second.
upto_last : (now t : ℕ) (end : Option ℕ) → now ≤ t → t < 2 ^ 64 → is_after now end ≡ true → nat_le t (last_second end) ≡ is_after t end
upto_last now t None later small h = let le : nat_le t 18446744073709551615 ≡ true = grind (arith, nat_tests) in le
upto_last now t (Some s) later small h = let some : now < s = grind (arith, nat_tests) in by_test (nat_lt t s) refl some
  where
    by_test : (b : Bool) → nat_lt t s ≡ b → now < s → nat_le t (s - 1) ≡ nat_lt t s
    by_test true is some = let before : t < s = grind (arith, nat_tests) in let le : t ≤ s - 1 = omega (arith, before) in let yes : nat_le t (s - 1) ≡ true = grind (arith, nat_tests) in yes ∙ sym is
    by_test false is some = let by : s ≤ t = grind (arith, nat_tests) in let over : s - 1 < t = omega (arith, by, some) in let no : nat_le t (s - 1) ≡ false = grind (arith, nat_tests) in no ∙ sym is

-- One that does not count does not count later.
pub never_again : (now t : ℕ) (end : Option ℕ) → now ≤ t → is_after now end ≡ false → is_after t end ≡ false
never_again now t None later h = h
never_again now t (Some s) later h = let by : s ≤ now = grind (arith, nat_tests) in let over : s ≤ t = omega (arith, by, later) in let no : nat_lt t s ≡ false = grind (arith, nat_tests) in no

-- By their last seconds those of some entries count that count then.
pub counting_current : (now t : ℕ) (es : List ExportEntry) → now ≤ t → t < 2 ^ 64 → counting t (current now es) (last_seconds now es) ≡ current t es
counting_current now t [] later small = refl
counting_current now t (e ∷ es) later small = by_test (counts_at now e) refl (counting_current now t es later small)
  where
    ends : (b : Bool) → cond b (e.payload ∷ current t es) (current t es) ≡ map (λ x. x.payload) (cond b (e ∷ filter (counts_at t) es) (filter (counts_at t) es))
    ends true = refl
    ends false = refl

    by_test : (b : Bool) → counts_at now e ≡ b → counting t (current now es) (last_seconds now es) ≡ current t es
        → counting t (map (λ x. x.payload) (cond b (e ∷ filter (counts_at now) es) (filter (counts_at now) es))) (map (λ x. last_second x.expires) (cond b (e ∷ filter (counts_at now) es) (filter (counts_at now) es)))
        ≡ map (λ x. x.payload) (cond (counts_at t e) (e ∷ filter (counts_at t) es) (filter (counts_at t) es))
    by_test true is more = (λ i. cond (upto_last now t e.expires later small is i) (e.payload ∷ more i) (more i)) ∙ ends (counts_at t e)
    by_test false is more = more ∙ ap (λ b. map (λ x. x.payload) (cond b (e ∷ filter (counts_at t) es) (filter (counts_at t) es))) (sym (never_again now t e.expires later is))

pub last_seconds-append : (now : ℕ) (es fs : List ExportEntry) → last_seconds now (es ++ fs) ≡ last_seconds now es ++ last_seconds now fs
last_seconds-append now es fs = ap (map (λ e. last_second e.expires)) (filter-append (counts_at now) es fs) ∙ map-append (λ e. last_second e.expires) (filter (counts_at now) es) (filter (counts_at now) fs)

pub last_seconds-lasting : (now : ℕ) (vs : List Payload) → last_seconds now (map lasting vs) ≡ replicate (length vs) 18446744073709551615
last_seconds-lasting now [] = refl
last_seconds-lasting now (v ∷ vs) = ap (λ ns. 18446744073709551615 ∷ ns) (last_seconds-lasting now vs)

-- ---- what counts of a list

counting-zero : (vs : List Payload) (lasts : List ℕ) → counting 0 vs lasts ≡ vs
counting-zero [] lasts = refl
counting-zero (v ∷ vs) [] = refl
counting-zero (v ∷ vs) (last ∷ lasts) = let yes : nat_le 0 last ≡ true = grind (arith, nat_tests) in (λ i. cond (yes i) (v ∷ counting-zero vs lasts i) (counting-zero vs lasts i))

counting-over : (t : ℕ) (vs : List Payload) → 0 < t → counting t vs (replicate (length vs) 0) ≡ []
counting-over t [] some = refl
counting-over t (v ∷ vs) some = let no : nat_le t 0 ≡ false = grind (arith, nat_tests) in ap (λ b. cond b (v ∷ counting t vs (replicate (length vs) 0)) (counting t vs (replicate (length vs) 0))) no ∙ counting-over t vs some

counting-never : (t : ℕ) (vs : List Payload) (lasts : List ℕ) → t < 2 ^ 64 → list_all (λ last. last == 18446744073709551615) lasts ≡ true → counting t vs lasts ≡ vs
counting-never t [] lasts small all = refl
counting-never t (v ∷ vs) [] small all = refl
counting-never t (v ∷ vs) (last ∷ lasts) small all = by_test (last == 18446744073709551615) refl all (λ rest. counting-never t vs lasts small rest)
  where
    by_test : (b : Bool) → (last == 18446744073709551615) ≡ b → (b && list_all (λ last. last == 18446744073709551615) lasts) ≡ true → (list_all (λ last. last == 18446744073709551615) lasts ≡ true → counting t vs lasts ≡ vs)
        → cond (nat_le t last) (v ∷ counting t vs lasts) (counting t vs lasts) ≡ v ∷ vs
    by_test true is all more = let yes : nat_le t last ≡ true = grind (arith, nat_tests) in ap (λ b. cond b (v ∷ counting t vs lasts) (counting t vs lasts)) yes ∙ ap (λ ws. v ∷ ws) (more all)
    by_test false is all more = absurd (let no : false ≡ true = all in cc)

all_never : (n : ℕ) → list_all (λ last. last == 18446744073709551615) (replicate n 18446744073709551615) ≡ true
all_never zero = refl
all_never (suc n) = all_never n

-- One payload more
counting-push : (t : ℕ) (ws : List Payload) (lasts : List ℕ) (v : Payload) → t < 2 ^ 64 → counting t (ws ++ v ∷ []) lasts ≡ counting t ws lasts ++ cond (nat_le t (last_at lasts (length ws))) (v ∷ []) []
counting-push t [] [] v small = let yes : nat_le t 18446744073709551615 ≡ true = grind (arith, nat_tests) in ap (λ b. cond b (v ∷ []) []) (sym yes)
counting-push t [] (last ∷ lasts) v small = refl
counting-push t (w ∷ ws) [] v small = let yes : nat_le t 18446744073709551615 ≡ true = grind (arith, nat_tests) in ap (λ b. w ∷ ws ++ cond b (v ∷ []) []) (sym yes)
counting-push t (w ∷ ws) (last ∷ lasts) v small = by_test (nat_le t last) (counting-push t ws lasts v small)
  where
    by_test : (b : Bool) → counting t (ws ++ v ∷ []) lasts ≡ counting t ws lasts ++ cond (nat_le t (last_at lasts (length ws))) (v ∷ []) []
        → cond b (w ∷ counting t (ws ++ v ∷ []) lasts) (counting t (ws ++ v ∷ []) lasts) ≡ cond b (w ∷ counting t ws lasts) (counting t ws lasts) ++ cond (nat_le t (last_at lasts (length ws))) (v ∷ []) []
    by_test true more = ap (λ us. w ∷ us) more
    by_test false more = more

pub counting-more : (t : ℕ) (vs : List Payload) (lasts : List ℕ) (i : ℕ) (v : Payload) → t < 2 ^ 64 → slice_get vs i ≡ Some v
    → counting t (take (i + 1) vs) lasts ≡ counting t (take i vs) lasts ++ cond (nat_le t (last_at lasts i)) (v ∷ []) []
counting-more t vs lasts i v small is =
    let inside = slice_get_within vs i v is in
    ap (λ ws. counting t ws lasts) (take_more vs i v inside ∙ ap (λ x. take i vs ++ x ∷ []) (get_or_from_slice_get vs i v v is))
    ∙ counting-push t (take i vs) lasts v small
    ∙ ap (λ n. counting t (take i vs) lasts ++ cond (nat_le t (last_at lasts n)) (v ∷ []) []) (length-take-le i vs (omega (arith, inside)))

-- ---- a last second is raised

any_of : (b : Bool) (q v : Payload) (vs : List Payload) → list_any (same_vrp q) (cond b (v ∷ vs) vs) ≡ ((b && same_vrp q v) || list_any (same_vrp q) vs)
any_of true q v vs = refl
any_of false q v vs = refl

either : (a b s r : Bool) → (((a || b) && s) || r) ≡ (((a && s) || r) || (b && s))
either true true true r = refl
either true true false true = refl
either true true false false = refl
either true false true r = refl
either true false false true = refl
either true false false false = refl
either false true true true = refl
either false true true false = refl
either false true false true = refl
either false true false false = refl
either false false s true = refl
either false false s false = refl

or_both : (a b c : Bool) → (a || (b || c)) ≡ ((a || b) || c)
or_both true b c = refl
or_both false b c = refl

upto_max : (t a b : ℕ) → nat_le t (max a b) ≡ (nat_le t a || nat_le t b)
upto_max t a b = grind (arith, nat_tests)

raised : (t : ℕ) (vs : List Payload) (lasts : List ℕ) (i : ℕ) (v q : Payload) (d last : ℕ) → length lasts ≡ length vs → slice_get vs i ≡ Some v
    → list_any (same_vrp q) (counting t vs (set lasts i (max (get_or lasts i d) last))) ≡ (list_any (same_vrp q) (counting t vs lasts) || (nat_le t last && same_vrp q v))
raised t [] lasts i v q d last long is = absurd (cc)
raised t (w ∷ vs) [] i v q d last long is = absurd (omega (arith, long))
raised t (w ∷ vs) (l ∷ lasts) zero v q d last long is =
    let same : w ≡ v = cc in
    any_of (nat_le t (max l last)) q w (counting t vs lasts)
    ∙ ap (λ b. (b && same_vrp q w) || list_any (same_vrp q) (counting t vs lasts)) (upto_max t l last)
    ∙ either (nat_le t l) (nat_le t last) (same_vrp q w) (list_any (same_vrp q) (counting t vs lasts))
    ∙ (λ i. sym (any_of (nat_le t l) q w (counting t vs lasts)) i || (nat_le t last && same_vrp q (same i)))
raised t (w ∷ vs) (l ∷ lasts) (suc i) v q d last long is =
    let more = raised t vs lasts i v q d last (omega (arith, long)) is in
    any_of (nat_le t l) q w (counting t vs (set lasts i (max (get_or lasts i d) last)))
    ∙ ap (λ b. (nat_le t l && same_vrp q w) || b) more
    ∙ or_both (nat_le t l && same_vrp q w) (list_any (same_vrp q) (counting t vs lasts)) (nat_le t last && same_vrp q v)
    ∙ ap (λ b. b || (nat_le t last && same_vrp q v)) (sym (any_of (nat_le t l) q w (counting t vs lasts)))

any_one : (b : Bool) (q v : Payload) → list_any (same_vrp q) (cond b (v ∷ []) []) ≡ (b && same_vrp q v)
any_one true q v = last (same_vrp q v)
  where
    last : (s : Bool) → (s || false) ≡ s
    last true = refl
    last false = refl
any_one false q v = refl

-- ---- the members of the set of some records

pub found_at : (vs : List Payload) (i : ℕ) (v : Payload) → i < length vs → ((d : Payload) → vrp_cmp (get_or vs i d) v ≡ Equal) → slice_get vs i ≡ Some v
found_at vs i v inside same = slice_get-get_or vs i v inside ∙ ap (λ x. Some x) (vrp_exact (get_or vs i v) v (same v))

-- The members ascend, and each record is one.
pub members_ascend : (members records : List Payload) → members ≡ listing (set_of records) → IsStrictlySortedBy vrp_cmp members
members_ascend members records is = subst (λ vs. IsStrictlySortedBy vrp_cmp vs) (sym is) (listing_ascends (set_of records))

pub is_member : (members records : List Payload) (i : ℕ) (v : Payload) → members ≡ listing (set_of records) → slice_get records i ≡ Some v → has (set_of members) v ≡ true
is_member members records i v is here =
    ap (λ vs. has (set_of vs) v) is ∙ ap (λ s. has s v) (set_of-listing (set_of records)) ∙ has-set_of records v
    ∙ list_any_at (same_vrp v) records i v (slice_get_within records i v here) (ap (same_vrp v) (get_or_from_slice_get records i v v here) ∙ ap is_eq (tied_itself vrp_total v))

-- Those of the records so far count up to the greatest of their last seconds.
pub record Raised (members records : List Payload) (of_each : List ℕ) (found : List ℕ) : Type 0 where
  pub long : length found ≡ length members
  pub same : (t : ℕ) → 0 < t → t < 2 ^ 64 → set_of (counting t members found) ≡ set_of (counting t records of_each)

pub begun : (members : List Payload) (of_each found : List ℕ) → found ≡ replicate (length members) 0 → Raised members [] of_each found
begun members of_each found is = record { long = ap length is ∙ length-replicate (length members) 0; same = λ t some small. ap set_of (ap (counting t members) is ∙ counting-over t members some) }

pub one_more : (members records : List Payload) (of_each found : List ℕ) (index place : ℕ) (v : Payload) (d : ℕ) → Raised members (take index records) of_each found → slice_get records index ≡ Some v → slice_get members place ≡ Some v
    → Raised members (take (index + 1) records) of_each (set found place (max (get_or found place d) (last_at of_each index)))
one_more members records of_each found index place v d so_far here there = record {
  long = length-set found place (max (get_or found place d) (last_at of_each index)) ∙ so_far.long;
  same = λ t some small.
      let more = cond (nat_le t (last_at of_each index)) (v ∷ []) [] in
      same_set _ _ (λ q.
      has-set_of (counting t members (set found place (max (get_or found place d) (last_at of_each index)))) q
      ∙ raised t members found place v q d (last_at of_each index) so_far.long there
      ∙ ap (λ b. b || (nat_le t (last_at of_each index) && same_vrp q v)) (sym (has-set_of (counting t members found) q) ∙ ap (λ s. has s q) (so_far.same t some small) ∙ has-set_of (counting t (take index records) of_each) q)
      ∙ ap (λ b. list_any (same_vrp q) (counting t (take index records) of_each) || b) (sym (any_one (nat_le t (last_at of_each index)) q v))
      ∙ sym (list_any-append (same_vrp q) (counting t (take index records) of_each) more)
      ∙ ap (λ ws. list_any (same_vrp q) ws) (sym (counting-more t records of_each index v small here))
      ∙ sym (has-set_of (counting t (take (index + 1) records) of_each) q));
}

pub all_raised : (members records : List Payload) (of_each found : List ℕ) → members ≡ listing (set_of records) → Raised members records of_each found → AreLasts records of_each (set_of records) found
all_raised members records of_each found is h = record {
  one_each = h.long ∙ ap length is ∙ size_of_listing (set_of records);
  same = λ t small. ap (λ vs. set_of (counting t vs found)) (sym is) ∙ by_moment t small;
}
  where
    by_moment : (t : ℕ) → t < 2 ^ 64 → set_of (counting t members found) ≡ set_of (counting t records of_each)
    by_moment zero small = ap set_of (counting-zero members found ∙ is) ∙ set_of-listing (set_of records) ∙ ap set_of (sym (counting-zero records of_each))
    by_moment (suc t) small = h.same (suc t) (omega arith) small

-- Records that do not end
pub are_never : (records : List Payload) (of_each never : List ℕ) (s : VrpSet) → list_all (λ last. last == 18446744073709551615) of_each ≡ true → s ≡ set_of records → never ≡ replicate (size s) 18446744073709551615 → AreLasts records of_each s never
are_never records of_each never s all is are = record {
  one_each = ap length are ∙ length-replicate (size s) 18446744073709551615;
  same = λ t small.
      ap set_of (counting-never t (listing s) never small (ap (list_all (λ last. last == 18446744073709551615)) are ∙ all_never (size s)))
      ∙ set_of-listing s ∙ is ∙ ap set_of (sym (counting-never t records of_each small all));
}
