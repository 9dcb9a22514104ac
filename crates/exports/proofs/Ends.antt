-- The first second at which an entry that counts ends, and that nothing changes before it.
use Rattle.std.proofs.Common.{◌≡◌, ℕ, ◌+◌, ◌<◌, ◌≤◌, ◌++◌, cond, Bool, true, false, nat_lt, List, [], ◌∷◌, Option, Some, None, Result, Ok, Err, refl, sym, ap, ap₂, subst, ◌∙◌, arith}
use Rattle.std.specs.Prelude.{All, IfOk, MatchBool, ◌^◌, filter, filter_map, map, min, not}
use Rattle.std.specs.List.{cons_option}
use Rattle.std.proofs.lemmas.Bool.Decides.{nat_tests}
use Rattle.std.proofs.lemmas.List.Elements.{All-append, All-cons, All-nil, All-tail, All-weaker, Contains-append_left, Contains-append_right}
use Rattle.std.proofs.lemmas.List.Sums.{sum_by-cons}
use Rattle.prefixes.proofs.Basics.{lt_true}
use Rattle.serde_json.specs.Data.{Data, null, boolean, number, string, array, object, Items}
use Rattle.serde_json.specs.Find.{as_array}
use Rattle.std.specs.Str.{IsUtf8}
use Rattle.exports.specs.Anchors.{IsExportAnchored, anchors_in}
use Rattle.exports.specs.Ignored.{IsExportCounted}
use Rattle.exports.specs.Numbering.{Anchors, AreNumbers}
use Rattle.exports.specs.PlainForm.{HasElements, ReadsParts, TellsEntries}
use Rattle.exports.specs.declared.fault.ExportFault.TheVariants.{NotJson, NoRoas, Entry, TooMany, Memory, Repeated}
use Rattle.exports.specs.declared.streaming.Entries.{Entries}
use Rattle.exports.specs.declared.streaming.ExportMembers.{ExportMembers}
use Rattle.vrps.specs.VrpSet.{set_of, size}
use Rattle.exports.specs.Built.{IsBuilt, buildtime, generated}
use Rattle.exports.specs.Entry.{counts_at, current, expired, is_after}
use Rattle.exports.specs.Export.{HasFault, IsExport, Lists, ReadsOnce}
use Rattle.exports.specs.Repeats.{Repeats}
use Rattle.exports.specs.Gathering.{Gathers, SetFails}
use Rattle.exports.specs.Lasting.{AreLasts, IsExportLasting, counting}
use Rattle.exports.specs.Until.{IsBefore, IsExportUntil, IsFirst, endings}
use Rattle.exports.specs.declared.entry.ExportEntry.{ExportEntry}
use Rattle.exports.specs.declared.export.ExportCounted.{ExportCounted}
use Rattle.exports.specs.declared.export.ExportLasting.{ExportLasting}
use Rattle.exports.specs.declared.ignored.Elements.{Elements}
use Rattle.exports.specs.declared.export.TimedExport.{TimedExport}
use Rattle.exports.specs.declared.fault.ExportFault.{ExportFault}
use Rattle.exports.specs.declared.gathered.EntryRecords.{EntryRecords}
use Rattle.exports.proofs.Anchoring.{is_anchored}
use Rattle.exports.proofs.Elements.{ignored_of}
use Rattle.exports.proofs.Lasts.{counting_current}

-- ---- the first of two lists of seconds

first_left : (ts us : List ℕ) (s t : ℕ) → s ≤ t → IsFirst ts (Some s) → IsFirst us (Some t) → IsFirst (ts ++ us) (Some s)
first_left ts us s t le h k = (Contains-append_left ts us s h.0, All-append (λ x. s ≤ x) ts us h.1 (All-weaker (λ x. t ≤ x) (λ x. s ≤ x) (λ x far. omega (arith, le, far)) us k.1))

first_right : (ts us : List ℕ) (s t : ℕ) → t ≤ s → IsFirst ts (Some s) → IsFirst us (Some t) → IsFirst (ts ++ us) (Some t)
first_right ts us s t le h k = (Contains-append_right ts us t k.0, All-append (λ x. t ≤ x) ts us (All-weaker (λ x. s ≤ x) (λ x. t ≤ x) (λ x far. omega (arith, le, far)) ts h.1) k.1)

pub first_of_both : (ts us : List ℕ) (s t m : ℕ) → m ≡ min s t → IsFirst ts (Some s) → IsFirst us (Some t) → IsFirst (ts ++ us) (Some m)
first_of_both ts us s t m is h k = by_test (nat_lt s t) refl
  where
    by_test : (b : Bool) → nat_lt s t ≡ b → IsFirst (ts ++ us) (Some m)
    by_test true is_less = let same : s ≡ m = grind (arith, nat_tests) in subst (λ x. IsFirst (ts ++ us) (Some x)) same (first_left ts us s t (grind (arith, nat_tests)) h k)
    by_test false is_less = let same : t ≡ m = grind (arith, nat_tests) in subst (λ x. IsFirst (ts ++ us) (Some x)) same (first_right ts us s t (grind (arith, nat_tests)) h k)

first_of_one : (end : Option ℕ) → IsFirst (cons_option end []) end
first_of_one None = refl
first_of_one (Some t) = ((0, omega arith, refl), All-cons (λ x. t ≤ x) t [] (omega arith) (All-nil (λ x. t ≤ x)))

-- The first of an entry that counts is its expiry, and of one that does not there is none.
pub ends_of_one : (now : ℕ) (e : ExportEntry) → true ≡ counts_at now e → IsFirst (endings now (e ∷ [])) e.expires
ends_of_one now e counts = subst (λ b. IsFirst (filter_map (λ x. x.expires) (cond b (e ∷ []) [])) e.expires) counts (first_of_one e.expires)

-- ---- before that second nothing changes

-- The seconds of one entry more
pub endings-cons : (now : ℕ) (e : ExportEntry) (es : List ExportEntry) → endings now (e ∷ es) ≡ cond (counts_at now e) (cons_option e.expires (endings now es)) (endings now es)
endings-cons now e es = by_count (counts_at now e)
  where
    by_count : (b : Bool) → filter_map (λ x. x.expires) (cond b (e ∷ filter (counts_at now) es) (filter (counts_at now) es)) ≡ cond b (cons_option e.expires (endings now es)) (endings now es)
    by_count true = refl
    by_count false = refl

-- An entry counts then as it does now, and the others end later too.
abbrev Still : ℕ → ℕ → Option ℕ → List ℕ → Type 0
Still now t end rest = (is_after t end ≡ is_after now end) × All (λ s. t < s) rest

still : (now t : ℕ) (end : Option ℕ) (rest : List ℕ) → now ≤ t → All (λ s. t < s) (cond (is_after now end) (cons_option end rest) rest) → Still now t end rest
still now t None rest later all = (refl, all)
still now t (Some s) rest later all = by_test (nat_lt now s) refl all
  where
    by_test : (b : Bool) → nat_lt now s ≡ b → All (λ s. t < s) (cond b (s ∷ rest) rest) → (nat_lt t s ≡ nat_lt now s) × All (λ s. t < s) rest
    by_test true is all = (lt_true t s (all 0 0 (omega arith)) ∙ sym is, All-tail (λ s. t < s) s rest all)
    by_test false is all = let no : nat_lt t s ≡ false = grind (arith, nat_tests) in (no ∙ sym is, all)

kept : (now t : ℕ) (es : List ExportEntry) → now ≤ t → All (λ s. t < s) (endings now es) → (filter (counts_at t) es ≡ filter (counts_at now) es) × (expired t es ≡ expired now es)
kept now t [] later all = (refl, refl)
kept now t (e ∷ es) later all =
    let head = still now t e.expires (endings now es) later (subst (λ ts. All (λ s. t < s) ts) (endings-cons now e es) all) in
    let rest = kept now t es later head.1 in (
      ap₂ (λ b xs. cond b (e ∷ xs) xs) head.0 rest.0,
      sum_by-cons (λ x. cond (not (counts_at t x)) 1 0) e es ∙ ap₂ (λ b n. cond (not b) 1 0 + n) head.0 rest.1 ∙ sym (sum_by-cons (λ x. cond (not (counts_at now x)) 1 0) e es),
    )

all_after : (t : ℕ) (until : Option ℕ) (ts : List ℕ) → IsFirst ts until → IsBefore t until → All (λ s. t < s) ts
all_after t None ts none before = subst (λ us. All (λ s. t < s) us) (sym none) (All-nil (λ s. t < s))
all_after t (Some end) ts first before = All-weaker (λ s. end ≤ s) (λ s. t < s) (λ s far. omega (arith, before, far)) ts first.1

-- At each second before the first end the bytes are the same export.
pub lasts : (bytes : List ℕ) (now : ℕ) (x : TimedExport) → IsExportUntil bytes now x → (t : ℕ) → now ≤ t → IsBefore t x.until → IsExport bytes t x.export
lasts bytes now x is t later before =
    let same = kept now t is.export.entries later (all_after t x.until (endings now is.export.entries) is.until before) in
    record {
      value = is.export.value;
      reads = is.export.reads;
      names_once = is.export.names_once;
      entries = is.export.entries;
      lists = is.export.lists;
      set_is = is.export.set_is ∙ ap (λ es. set_of (map (λ e. e.payload) es)) (sym same.0);
      within_limit = is.export.within_limit;
      expired_is = is.export.expired_is ∙ sym same.1;
      built_is = is.export.built_is;
    }

pub if_lasts : (bytes : List ℕ) (now : ℕ) (r : Result TimedExport ExportFault) → IfOk r (λ x. IsExportUntil bytes now x)
    → IfOk r (λ x. (t : ℕ) → now ≤ t → IsBefore t x.until → IsExport bytes t x.export)
if_lasts bytes now (Ok x) h = lasts bytes now x h
if_lasts bytes now (Err e) h = tt

-- ---- an export of what was gathered

pub record Made (g : EntryRecords) (built : Option ℕ) (x : ExportLasting) : Type 0 where
  pub set : (x.export.set ≡ set_of g.records.items) × (size x.export.set ≤ 16777215)
  pub lasts : AreLasts g.records.items g.lasts.items x.export.set x.lasts.items
  pub rest : (x.export.expired ≡ g.expired) × (x.export.built ≡ built) × (x.until ≡ g.until)

-- By its last seconds that counts then of what was gathered that the entries list then.
later_counts : (now t : ℕ) (es : List ExportEntry) (g : EntryRecords) → Gathers now es g → now ≤ t → t < 2 ^ 64 → counting t g.records.items g.lasts.items ≡ current t es
later_counts now t es g is later small = (λ i. counting t (is.records i) (is.lasts i)) ∙ counting_current now t es later small

pub is_made : (bytes : List ℕ) (now : ℕ) (d : Data) (g : EntryRecords) (built : Option ℕ) (x : ExportLasting) → ReadsOnce bytes d → (es : List ExportEntry) × Lists d es × Gathers now es g × Anchors now es (anchors_in d) g → IsBuilt (generated d) (buildtime d) built → Made g built x → IsExportLasting bytes now x
is_made bytes now d g built x reads found is made = record {
  export = record {
    value = d;
    reads = reads.0;
    names_once = reads.1;
    entries = found.0;
    lists = found.1;
    set_is = made.set.0 ∙ ap set_of found.2.records;
    within_limit = made.set.1;
    expired_is = made.rest.0 ∙ found.2.expired;
    built_is = subst (λ b. IsBuilt (generated d) (buildtime d) b) (sym made.rest.1) is;
  };
  until = subst (λ end. IsFirst (endings now found.0) end) (sym made.rest.2) found.2.until;
  one_each = made.lasts.one_each;
  later = λ t later small. made.lasts.same t small ∙ ap set_of (later_counts now t found.0 g found.2 later small);
}

-- If there is no set of what was gathered, the bytes have that fault.
pub set_fails : (bytes : List ℕ) (now : ℕ) (d : Data) (g : EntryRecords) (f : ExportFault) → ReadsOnce bytes d → (es : List ExportEntry) × Lists d es × Gathers now es g × Anchors now es (anchors_in d) g → SetFails g.records.items f → HasFault bytes now f
set_fails bytes now d g NotJson reads found fails = absurd fails
set_fails bytes now d g NoRoas reads found fails = absurd fails
set_fails bytes now d g (Entry i w) reads found fails = absurd fails
set_fails bytes now d g TooMany reads found fails = (d, reads, (found.0, found.1, subst (λ vs. 16777215 < size (set_of vs)) found.2.records fails))
set_fails bytes now d g Memory reads found fails = tt
set_fails bytes now d g Repeated reads found fails = absurd fails

-- What was read of a text in its plain form, and what is wrong with it
pub entries_of : (text : List ℕ) (now : ℕ) (p : ExportMembers) (e : Option Entries) → IsUtf8 text → ReadsParts now text p → p.repeats ≡ false → p.entries ≡ e
    → (d : Data) × ReadsOnce text d × TellsEntries now d e × IsBuilt (generated d) (buildtime d) p.built × HasElements d p.elements
entries_of text now p e utf8 told once has = (
  told.value,
  ((utf8, told.reads), subst (λ b. MatchBool b (Repeats text) (¬ (Repeats text))) once told.repeats),
  subst (λ x. TellsEntries now told.value x) has told.parts.entries,
  told.parts.built,
  told.parts.elements,
)

-- With what is not served of them
pub is_counted : (bytes : List ℕ) (now : ℕ) (d : Data) (e : Elements) (g : EntryRecords) (built : Option ℕ) (x : ExportCounted) → ReadsOnce bytes d → (es : List ExportEntry) × Lists d es × Gathers now es g × Anchors now es (anchors_in d) g → IsBuilt (generated d) (buildtime d) built
    → HasElements d e → Made g built x.lasting → x.ignored.aspas ≡ e.aspas → x.ignored.router_keys ≡ e.bgpsec_keys + e.router_keys → IsExportCounted bytes now x
is_counted bytes now d e g built x reads found is has made aspas keys =
    record { lasting = is_made bytes now d g built x.lasting reads found is made; value = d; reads = reads.0; ignored = ignored_of d e x.ignored has aspas keys }

-- With its trust anchors
pub with_anchors : (bytes : List ℕ) (now : ℕ) (d : Data) (g : EntryRecords) (x : ExportCounted) → ReadsOnce bytes d → (es : List ExportEntry) × Lists d es × Gathers now es g × Anchors now es (anchors_in d) g
    → AreNumbers g.records.items g.anchors.items x.lasting.export.set x.anchors.of_each.items × (x.anchors.names ≡ g.names.names) → IsExportAnchored bytes now x
with_anchors bytes now d g x reads found made = is_anchored bytes now d found.0 g x reads found.1 found.2 found.3 made.0 made.1

-- With its last seconds forgotten
pub forgotten : (bytes : List ℕ) (now : ℕ) (x : ExportLasting) → IsExportLasting bytes now x → IsExportUntil bytes now (record { export = x.export; until = x.until })
forgotten bytes now x is = record { export = is.export; until = is.until }

-- An array does not say when it was made.
pub no_time : (d : Data) (ds : Items) → Some ds ≡ as_array d → IsBuilt (generated d) (buildtime d) None
no_time null ds e = λ t f m says. absurd (cc)
no_time (boolean b) ds e = λ t f m says. absurd (cc)
no_time (number n) ds e = λ t f m says. absurd (cc)
no_time (string s) ds e = λ t f m says. absurd (cc)
no_time (array xs) ds e = λ t f m says. absurd (cc)
no_time (object ms) ds e = absurd (cc)
