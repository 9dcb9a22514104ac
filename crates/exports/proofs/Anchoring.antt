-- The trust anchors of an export, from what was gathered of its entries.
use Rattle.std.proofs.Common.{◌≡◌, ℕ, zero, suc, ◌++◌, cond, Bool, true, false, List, [], ◌∷◌, length, map, replicate, take, Option, Some, None, option_map, refl, sym, ap, subst, ◌∙◌, arith}
use Rattle.std.specs.Prelude.{Contains, filter, filter_map, slice_get, string_bytes, unwrap_or}
use Rattle.serde_json.specs.Data.{Data, null, boolean, number, string, array, object, Items, no_items}
use Rattle.serde_json.specs.Find.{as_array}
use Rattle.prefixes.specs.Payload.{Payload}
use Rattle.exports.specs.Anchors.{IsExportAnchored, anchor_names, anchor_of, anchored, anchors_in, anchors_of, different, number_in}
use Rattle.exports.specs.Entry.{counts_at, current}
use Rattle.exports.specs.Export.{Lists, ReadsOnce, lasting, roas}
use Rattle.exports.specs.Gathering.{Gathers, IsLasting}
use Rattle.exports.specs.Names.{with_names}
use Rattle.exports.specs.Numbering.{Anchors, AreNumbers, names_of, number_at}
use Rattle.exports.specs.PlainForm.{AreListed, before}
use Rattle.exports.specs.declared.entry.ExportEntry.{ExportEntry}
use Rattle.exports.specs.declared.export.ExportCounted.{ExportCounted}
use Rattle.exports.specs.declared.gathered.EntryRecords.{EntryRecords}
use Rattle.exports.proofs.Naming.{numbered_more}

-- ---- entries and names

pub anchors_before : (ds : List Data) → map anchor_of ds ≡ anchors_of (before ds no_items)
anchors_before [] = refl
anchors_before (d ∷ ds) = ap (λ names. anchor_of d ∷ names) (anchors_before ds)

pub anchors_in_roas : (d : Data) (ds : Items) → roas d ≡ Some ds → anchors_of ds ≡ anchors_in d
anchors_in_roas d ds is = ap (λ o. unwrap_or (option_map anchors_of o) []) (sym is)

pub as_many : (ds : List Data) (es : List ExportEntry) → AreListed ds es → length (map anchor_of ds) ≡ length es
as_many [] [] h = refl
as_many (d ∷ ds) (e ∷ es) h = ap suc (as_many ds es h.1)
as_many [] (e ∷ es) h = absurd h
as_many (d ∷ ds) [] h = absurd h

anchored-append : (now : ℕ) (es fs : List ExportEntry) (names more : List (Option (List ℕ))) → length names ≡ length es → anchored now (es ++ fs) (names ++ more) ≡ anchored now es names ++ anchored now fs more
anchored-append now [] fs [] more long = refl
anchored-append now [] fs (name ∷ names) more long = absurd (omega (arith, long))
anchored-append now (e ∷ es) fs [] more long = absurd (omega (arith, long))
anchored-append now (e ∷ es) fs (name ∷ names) more long = by_test (counts_at now e) (anchored-append now es fs names more (omega (arith, long)))
  where
    by_test : (b : Bool) → anchored now (es ++ fs) (names ++ more) ≡ anchored now es names ++ anchored now fs more
        → cond b ((e.payload, name) ∷ anchored now (es ++ fs) (names ++ more)) (anchored now (es ++ fs) (names ++ more)) ≡ cond b ((e.payload, name) ∷ anchored now es names) (anchored now es names) ++ anchored now fs more
    by_test true rest = ap (λ ps. (e.payload, name) ∷ ps) rest
    by_test false rest = rest

current_anchored : (now : ℕ) (es : List ExportEntry) (names : List (Option (List ℕ))) → current now es ≡ map (λ p. p.0) (anchored now es names)
current_anchored now [] names = refl
current_anchored now (e ∷ es) [] = by_test (counts_at now e) (current_anchored now es [])
  where
    by_test : (b : Bool) → current now es ≡ map (λ p. p.0) (anchored now es [])
        → map (λ x. x.payload) (cond b (e ∷ filter (counts_at now) es) (filter (counts_at now) es)) ≡ map (λ p. p.0) (cond b ((e.payload, None) ∷ anchored now es []) (anchored now es []))
    by_test true rest = ap (λ vs. e.payload ∷ vs) rest
    by_test false rest = rest
current_anchored now (e ∷ es) (name ∷ names) = by_test (counts_at now e) (current_anchored now es names)
  where
    by_test : (b : Bool) → current now es ≡ map (λ p. p.0) (anchored now es names)
        → map (λ x. x.payload) (cond b (e ∷ filter (counts_at now) es) (filter (counts_at now) es)) ≡ map (λ p. p.0) (cond b ((e.payload, name) ∷ anchored now es names) (anchored now es names))
    by_test true rest = ap (λ vs. e.payload ∷ vs) rest
    by_test false rest = rest

-- One more entry was gathered.
pub anchors_more : (now : ℕ) (es : List ExportEntry) (names : List (Option (List ℕ))) (e : ExportEntry) (name : Option (List ℕ)) (g h : EntryRecords) → length names ≡ length es → Anchors now es names g
    → names_of h ≡ with_names (names_of g) (anchored now (e ∷ []) (name ∷ [])) → h.anchors.items ≡ g.anchors.items ++ map (λ p. number_in (names_of h) p.1) (anchored now (e ∷ []) (name ∷ []))
    → Anchors now (es ++ e ∷ []) (names ++ name ∷ []) h
anchors_more now es names e name g h long so_far more numbers =
    let all = sym (anchored-append now es (e ∷ []) names (name ∷ []) long) in
    let both = numbered_more (counts_at now e) (anchored now es names) e.payload name (names_of g) (names_of h) g.anchors.items h.anchors.items so_far.named so_far.numbers more numbers in
    record { named = both.0 ∙ ap anchor_names all; numbers = both.1 ∙ ap (λ ps. map (λ p. number_in (anchor_names ps) p.1) ps) all }

-- ---- payload lists

none_named : (now : ℕ) (vs : List Payload) → filter_map (λ p. p.1) (anchored now (map lasting vs) []) ≡ []
none_named now [] = refl
none_named now (v ∷ vs) = none_named now vs

no_numbers : (now : ℕ) (names : List (List ℕ)) (vs : List Payload) → replicate (length vs) 255 ≡ map (λ p. number_in names p.1) (anchored now (map lasting vs) [])
no_numbers now names [] = refl
no_numbers now names (v ∷ vs) = ap (λ ns. 255 ∷ ns) (no_numbers now names vs)

no_names : {A : Type 0} (f : A → List ℕ) (xs : List A) → length xs ≡ 0 → map f xs ≡ []
no_names f [] none = refl
no_names f (x ∷ xs) none = absurd (omega (arith, none))

none_in_list : (d : Data) (ds : Items) → Some ds ≡ as_array d → anchors_in d ≡ []
none_in_list null ds e = refl
none_in_list (boolean b) ds e = refl
none_in_list (number n) ds e = refl
none_in_list (string s) ds e = refl
none_in_list (array xs) ds e = refl
none_in_list (object ms) ds e = absurd (cc)

pub list_anchors : (now : ℕ) (d : Data) (ds : Items) (g : EntryRecords) → Some ds ≡ as_array d → IsLasting g → Anchors now (map lasting g.records.items) (anchors_in d) g
list_anchors now d ds g is for_ever = subst (λ names. Anchors now (map lasting g.records.items) names g) (sym (none_in_list d ds is)) (record {
  named = no_names string_bytes g.names.names.items for_ever.names ∙ ap (λ ns. take 32 (different ns)) (sym (none_named now g.records.items));
  numbers = for_ever.anchors ∙ no_numbers now (anchor_names (anchored now (map lasting g.records.items) [])) g.records.items;
})

-- ---- the trust anchors of a set

pick : (names : List (List ℕ)) (ps : List (Payload × Option (List ℕ))) (j : ℕ) (v : Payload) → slice_get (map (λ p. p.0) ps) j ≡ Some v
    → (name : Option (List ℕ)) × Contains ps (v, name) × (number_at (map (λ p. number_in names p.1) ps) j ≡ number_in names name)
pick names [] j v is = absurd (cc)
pick names (p ∷ ps) zero v is = let same : p.0 ≡ v = cc in (p.1, (0, omega arith, ap (λ x. (x, p.1)) same), refl)
pick names (p ∷ ps) (suc j) v is = let r = pick names ps j v is in (r.0, (suc r.1.0, omega (arith, r.1.1), r.1.2), r.2)

pub is_anchored : (bytes : List ℕ) (now : ℕ) (d : Data) (es : List ExportEntry) (g : EntryRecords) (x : ExportCounted) → ReadsOnce bytes d → Lists d es → Gathers now es g → Anchors now es (anchors_in d) g
    → AreNumbers g.records.items g.anchors.items x.lasting.export.set x.anchors.of_each.items → x.anchors.names ≡ g.names.names → IsExportAnchored bytes now x
is_anchored bytes now d es g x reads lists gathered anchors numbers names = record {
  value = d;
  reads = reads.0;
  entries = es;
  lists = lists;
  anchors = record {
    names = ap (λ n. map string_bytes n.items) names ∙ anchors.named;
    one_each = numbers.one_each;
    each = λ i v k at numbered.
        let ps = anchored now es (anchors_in d) in
        let found = numbers.each i v k at numbered in
        let payloads : g.records.items ≡ map (λ p. p.0) ps = gathered.records ∙ current_anchored now es (anchors_in d) in
        let r = pick (anchor_names ps) ps found.0 v (ap (λ vs. slice_get vs found.0) (sym payloads) ∙ found.1) in
        (r.0, r.1, found.2 ∙ ap (λ ns. number_at ns found.0) anchors.numbers ∙ r.2);
  };
}
