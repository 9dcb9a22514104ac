-- From the first end on more entries do not count, so the bytes are another export; and an export with its end is one thing.
use Rattle.std.proofs.Common.{◌≡◌, ℕ, zero, suc, ◌+◌, ◌<◌, ◌≤◌, cond, Bool, true, false, nat_lt, List, [], ◌∷◌, Option, Some, None, refl, sym, ap, subst, ◌∙◌, inl, inr, arith}
use Rattle.std.specs.Prelude.{◌⊎◌, ◌↔◌, ◌||◌, Contains, filter, map, not}
use Rattle.std.specs.List.{cons_option, list_any}
use Rattle.std.proofs.Math.Bool.{or-true}
use Rattle.std.proofs.lemmas.Bool.Decides.{nat_tests}
use Rattle.std.proofs.lemmas.List.Sums.{sum_by-cons}
use Rattle.prefixes.specs.Payload.{Payload}
use Rattle.vrps.specs.VrpSet.{listing, set_of, size}
use Rattle.vrps.proofs.SetLaws.{has-set_of, same_vrp}
use Rattle.vrps.proofs.Sizes.{size_le}
use Rattle.exports.specs.Entry.{counts_at, current, expired, is_after}
use Rattle.exports.specs.Export.{IsExport, Lists}
use Rattle.exports.specs.ExportLaws.{LaterExports}
use Rattle.exports.specs.Lasting.{counting}
use Rattle.exports.specs.Until.{IsBefore, IsExportUntil, IsFirst, endings}
use Rattle.exports.specs.declared.entry.ExportEntry.{ExportEntry}
use Rattle.exports.specs.declared.export.Export.{Export}
use Rattle.exports.specs.declared.export.TimedExport.{TimedExport}
use Rattle.exports.proofs.Ends.{endings-cons, lasts}
use Rattle.exports.proofs.Lasts.{never_again}
use Rattle.exports.proofs.Once.{OneMeaning}
use Rattle.exports.proofs.Outcomes.{one_lists, one_value}

-- ---- how many do not count

-- one that does not count
abbrev missing : Bool → ℕ
missing counts = cond (not counts) 1 0

expired-cons : (now : ℕ) (e : ExportEntry) (es : List ExportEntry) → expired now (e ∷ es) ≡ missing (counts_at now e) + expired now es
expired-cons now e es = sum_by-cons (λ x. cond (not (counts_at now x)) 1 0) e es

-- What does not count does not count later.
no_less : (now t : ℕ) (end : Option ℕ) → now ≤ t → missing (is_after now end) ≤ missing (is_after t end)
no_less now t None later = omega arith
no_less now t (Some s) later = by_tests (nat_lt now s) (nat_lt t s) refl refl
  where
    by_tests : (a b : Bool) → nat_lt now s ≡ a → nat_lt t s ≡ b → missing a ≤ missing b
    by_tests true b first second = omega arith
    by_tests false false first second = omega arith
    by_tests false true first second = let no : s ≤ now = grind (arith, nat_tests) in let yes : t < s = grind (arith, nat_tests) in absurd (omega (arith, no, yes, later))

expired-more : (now t : ℕ) (es : List ExportEntry) → now ≤ t → expired now es ≤ expired t es
expired-more now t [] later = omega arith
expired-more now t (e ∷ es) later = omega (arith, expired-cons now e es, expired-cons t e es, no_less now t e.expires later, expired-more now t es later)

-- An entry that ends by then counts now and not then, or it is another one.
abbrev Over : ℕ → ℕ → Option ℕ → Type 0
Over now t end = (is_after now end ≡ true) × (is_after t end ≡ false)

ends_here : (now t s : ℕ) (end : Option ℕ) (rest : List ℕ) → s ≤ t → Contains (cond (is_after now end) (cons_option end rest) rest) s → Over now t end ⊎ Contains rest s
ends_here now t s None rest by h = inr h
ends_here now t s (Some u) rest by h = by_test (nat_lt now u) refl h
  where
    by_test : (b : Bool) → nat_lt now u ≡ b → Contains (cond b (u ∷ rest) rest) s → Over now t (Some u) ⊎ Contains rest s
    by_test false first h = inr h
    by_test true first (zero, inside, is) = inl (first, (let over : nat_lt t u ≡ false = grind (arith, nat_tests) in over))
    by_test true first (suc k, inside, is) = inr (k, omega (arith, inside), is)

-- One entry more, of those that end here or not
one_more : (now t : ℕ) (e : ExportEntry) (es : List ExportEntry) → now ≤ t → Over now t e.expires ⊎ (expired now es < expired t es) → expired now (e ∷ es) < expired t (e ∷ es)
one_more now t e es later (inl over) =
    let none : missing (counts_at now e) ≡ 0 = ap missing over.0 in
    let one : missing (counts_at t e) ≡ 1 = ap missing over.1 in
    omega (arith, expired-cons now e es, expired-cons t e es, none, one, expired-more now t es later)
one_more now t e es later (inr more) = omega (arith, expired-cons now e es, expired-cons t e es, no_less now t e.expires later, more)

expired-grows : (now t s : ℕ) (es : List ExportEntry) → now ≤ t → s ≤ t → Contains (endings now es) s → expired now es < expired t es
expired-grows now t s [] later by h = absurd (omega (arith, h.1))
expired-grows now t s (e ∷ es) later by h =
    one_more now t e es later (among (λ there. expired-grows now t s es later by there) (ends_here now t s e.expires (endings now es) by (subst (λ ts. Contains ts s) (endings-cons now e es) h)))
  where
    among : (Contains (endings now es) s → expired now es < expired t es) → Over now t e.expires ⊎ Contains (endings now es) s → Over now t e.expires ⊎ (expired now es < expired t es)
    among more (inl over) = inl over
    among more (inr there) = inr (more there)

-- ---- the law

still_before : (now t : ℕ) (until : Option ℕ) (es : List ExportEntry) → now ≤ t → IsFirst (endings now es) until → expired t es ≡ expired now es → IsBefore t until
still_before now t None es later first same = tt
still_before now t (Some end) es later first same = by_test (nat_lt t end) refl
  where
    by_test : (b : Bool) → nat_lt t end ≡ b → t < end
    by_test true is = grind (arith, nat_tests)
    by_test false is = let over : end ≤ t = grind (arith, nat_tests) in let more = expired-grows now t end es later over first.0 in absurd (omega (arith, more, same))

then_before : OneMeaning → (bytes : List ℕ) (now : ℕ) (x : TimedExport) → IsExportUntil bytes now x → (t : ℕ) → now ≤ t → IsExport bytes t x.export → IsBefore t x.until
then_before one bytes now x is t later then =
    let value = one_value bytes then.value is.export.value then.reads is.export.reads in
    let entries = one_lists one is.export.value then.entries is.export.entries (subst (λ d. Lists d then.entries) value then.lists) is.export.lists in
    still_before now t x.until is.export.entries later is.until (ap (expired t) (sym entries) ∙ sym then.expired_is ∙ is.export.expired_is)

pub same_until : OneMeaning → (bytes : List ℕ) (now : ℕ) (x : TimedExport) → IsExportUntil bytes now x → (t : ℕ) → now ≤ t → (IsExport bytes t x.export ↔ IsBefore t x.until)
same_until one bytes now x is t later = (then_before one bytes now x is t later, lasts bytes now x is t later)

-- ---- what counts later

-- What counts later counts now.
counts_now : (now t : ℕ) (q : Payload) (es : List ExportEntry) → now ≤ t → list_any (same_vrp q) (current t es) ≡ true → list_any (same_vrp q) (current now es) ≡ true
counts_now now t q [] later h = h
counts_now now t q (e ∷ es) later h = by_tests (counts_at now e) (counts_at t e) (λ no. never_again now t e.expires later no) (counts_now now t q es later) h
  where
    by_tests : (a b : Bool) → (a ≡ false → b ≡ false) → (list_any (same_vrp q) (current t es) ≡ true → list_any (same_vrp q) (current now es) ≡ true)
        → list_any (same_vrp q) (map (λ x. x.payload) (cond b (e ∷ filter (counts_at t) es) (filter (counts_at t) es))) ≡ true
        → list_any (same_vrp q) (map (λ x. x.payload) (cond a (e ∷ filter (counts_at now) es) (filter (counts_at now) es))) ≡ true
    by_tests true true never rest h = by_same (same_vrp q e.payload) h
      where
        by_same : (s : Bool) → (s || list_any (same_vrp q) (current t es)) ≡ true → (s || list_any (same_vrp q) (current now es)) ≡ true
        by_same true h = refl
        by_same false h = rest h
    by_tests true false never rest h = ap (λ b. same_vrp q e.payload || b) (rest h) ∙ or-true (same_vrp q e.payload)
    by_tests false true never rest h = absurd (let no : true ≡ false = never refl in cc)
    by_tests false false never rest h = rest h

no_more : (now t : ℕ) (es : List ExportEntry) → now ≤ t → size (set_of (current t es)) ≤ size (set_of (current now es))
no_more now t es later = size_le (set_of (current t es)) (set_of (current now es)) (λ q one. has-set_of (current now es) q ∙ counts_now now t q es later (sym (has-set_of (current t es) q) ∙ one))

pub later_exports : OneMeaning → LaterExports
later_exports one bytes now x is t later small = (stays, same)
  where
    es : List ExportEntry
    es = is.export.entries

    stays : (y : Export) × IsExport bytes t y
    stays = (
      record { set = set_of (current t es); expired = expired t es; built = x.export.built },
      record {
        value = is.export.value;
        reads = is.export.reads;
        names_once = is.export.names_once;
        entries = es;
        lists = is.export.lists;
        set_is = refl;
        within_limit = let fewer = no_more now t es later in let sizes : size x.export.set ≡ size (set_of (current now es)) = ap (λ s. size s) is.export.set_is in omega (arith, fewer, sizes, is.export.within_limit);
        expired_is = refl;
        built_is = is.export.built_is;
      },
    )

    same : (y : Export) → IsExport bytes t y → y.set ≡ set_of (counting t (listing x.export.set) x.lasts.items)
    same y then =
        let value = one_value bytes then.value is.export.value then.reads is.export.reads in
        let entries = one_lists one is.export.value then.entries es (subst (λ d. Lists d then.entries) value then.lists) is.export.lists in
        then.set_is ∙ ap (λ l. set_of (current t l)) entries ∙ sym (is.later t later small)
