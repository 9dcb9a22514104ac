-- What bytes are is one thing: an export, or of one fault.
use Rattle.std.proofs.Common.{◌≡◌, ℕ, List, Option, Some, None, refl, sym, ap, ap₂, subst, ◌∙◌, inl, inr, arith, map}
use Rattle.der_lite.specs.Moments.{CivilMoment, moment_of}
use Rattle.der_lite.specs.Seconds.{seconds_of}
use Rattle.der_lite.proofs.MomentLaws.{text_said}
use Rattle.serde_json.specs.Data.{Data, null, boolean, number, string, array, object, Items}
use Rattle.serde_json.specs.Find.{as_array}
use Rattle.serde_json.specs.Read as json
use Rattle.vrps.specs.VrpSet.{set_of, size}
use Rattle.payload_lists.specs.PayloadList as lists
use Rattle.payload_lists.proofs.Entries.{one_some}
use Rattle.payload_lists.proofs.PlainLists.{one_list}
use Rattle.exports.specs.Built.{IsBuilt, IsTimeOf, SaysTime, buildtime, generated}
use Rattle.exports.specs.Entry.{AreEntries, FailsAt, current, expired}
use Rattle.exports.specs.Export.{HasFault, HasRoas, IsExport, IsList, Lists, Reads, lasting, roas}
use Rattle.exports.specs.declared.entry.ExportEntry.{ExportEntry}
use Rattle.exports.specs.declared.export.Export.{Export}
use Rattle.exports.specs.declared.fault.EntryFault.{EntryFault}
use Rattle.exports.specs.declared.fault.ExportFault.{ExportFault}
use Rattle.exports.specs.declared.fault.ExportFault.TheVariants.{NotJson, NoRoas, Entry, TooMany, Memory, Repeated}
use Rattle.exports.proofs.Once.{OneMeaning, none_fails, one_entries, one_fails}
use Rattle.exports.proofs.Times.{plain_time}

pub one_value : (bytes : List ℕ) (d e : Data) → Reads bytes d → Reads bytes e → d ≡ e
one_value bytes d e h k = one_some d e (json.read bytes) h.1 k.1

-- ---- the moment

one_moment : (t : List ℕ) (m n : CivilMoment) → SaysTime m t → SaysTime n t → m ≡ n
one_moment t m n h k = sym (text_said m h.real) ∙ ap moment_of (sym (plain_time t m h.text_is) ∙ plain_time t n k.text_is) ∙ text_said n k.real

one_time : (text : Option (List ℕ)) (a b : Option ℕ) → IsTimeOf text a → IsTimeOf text b → a ≡ b
one_time text None None h k = refl
one_time text None (Some n) h k = absurd (h k.0 k.1 k.2.0 k.2.1)
one_time text (Some n) None h k = absurd (k h.0 h.1 h.2.0 h.2.1)
one_time text (Some n) (Some m) h k =
    let same = one_moment h.0 h.2.0 k.2.0 h.2.1 (subst (λ t. SaysTime k.2.0 t) (one_some k.0 h.0 text k.1 h.1) k.2.1) in
    ap (λ x. Some x) (h.2.2 ∙ ap seconds_of same ∙ sym k.2.2)

one_built : (n : Option ℕ) (text : Option (List ℕ)) (a b : Option ℕ) → IsBuilt n text a → IsBuilt n text b → a ≡ b
one_built (Some n) text a b h k = h ∙ sym k
one_built None text a b h k = one_time text a b h k

-- ---- the entries

not_both : {P : Type 0} (d : Data) (ds es : Items) → as_array d ≡ Some ds → roas d ≡ Some es → P
not_both null ds es h k = absurd (cc)
not_both (boolean b) ds es h k = absurd (cc)
not_both (number n) ds es h k = absurd (cc)
not_both (string s) ds es h k = absurd (cc)
not_both (array xs) ds es h k = absurd (cc)
not_both (object ms) ds es h k = absurd (cc)

one_of_list : OneMeaning → (d : Data) (es fs : List ExportEntry) → IsList d es → IsList d fs → es ≡ fs
one_of_list one d es fs h k =
    let items = one_some k.items h.items (as_array d) k.is_array h.is_array in
    let same = one_list one.of_lists h.items h.payloads k.payloads h.listed (subst (λ ds. lists.AreEntries ds k.payloads) items k.listed) in
    h.entries_are ∙ ap (map lasting) (sym same) ∙ sym k.entries_are

one_of_roas : OneMeaning → (d : Data) (es fs : List ExportEntry) → HasRoas d es → HasRoas d fs → es ≡ fs
one_of_roas one d es fs h k =
    let items = one_some k.items h.items (roas d) k.roas_are h.roas_are in
    one_entries one.of_entries h.items es fs h.entries (subst (λ ds. AreEntries ds fs) items k.entries)

pub one_lists : OneMeaning → (d : Data) (es fs : List ExportEntry) → Lists d es → Lists d fs → es ≡ fs
one_lists one d es fs (inl h) (inl k) = one_of_list one d es fs h k
one_lists one d es fs (inl h) (inr k) = not_both d h.items k.items h.is_array k.roas_are
one_lists one d es fs (inr h) (inl k) = not_both d k.items h.items k.is_array h.roas_are
one_lists one d es fs (inr h) (inr k) = one_of_roas one d es fs h k

-- ---- exports

pub one_export : OneMeaning → (bytes : List ℕ) (now : ℕ) (x y : Export) → IsExport bytes now x → IsExport bytes now y → x ≡ y
one_export one bytes now x y h k =
    let value = one_value bytes k.value h.value k.reads h.reads in
    let entries = one_lists one h.value h.entries k.entries h.lists (subst (λ d. Lists d k.entries) value k.lists) in
    let set = h.set_is ∙ ap (λ es. set_of (current now es)) entries ∙ sym k.set_is in
    let count = h.expired_is ∙ ap (λ es. expired now es) entries ∙ sym k.expired_is in
    let built = one_built (generated h.value) (buildtime h.value) x.built y.built h.built_is (subst (λ d. IsBuilt (generated d) (buildtime d) y.built) value k.built_is) in
    λ i. record { set = set i; expired = count i; built = built i }

not_neither : {P : Type 0} (d : Data) (es : List ExportEntry) → Lists d es → roas d ≡ None → ((fs : List ExportEntry) → ¬ (IsList d fs)) → P
not_neither d es (inl h) none no_list = absurd (no_list es h)
not_neither d es (inr h) none no_list = let no : Some h.items ≡ None = sym h.roas_are ∙ none in absurd (cc)

not_failing : {P : Type 0} → OneMeaning → (d : Data) (es : List ExportEntry) (ds : Items) (i : ℕ) (w : EntryFault) → Lists d es → roas d ≡ Some ds → FailsAt ds i w → P
not_failing one d es ds i w (inl h) are fails = not_both d h.items ds h.is_array are
not_failing one d es ds i w (inr h) are fails =
    let same = one_some h.items ds (roas d) h.roas_are are in absurd (none_fails one.of_entries ds es i w (subst (λ xs. AreEntries xs es) same h.entries) fails)

pub no_fault : OneMeaning → (bytes : List ℕ) (now : ℕ) (x : Export) (f : ExportFault) → IsExport bytes now x → HasFault bytes now f → f ≡ Memory
no_fault one bytes now x NotJson h k = absurd (k h.value h.reads)
no_fault one bytes now x Repeated h k = absurd (h.names_once k.2)
no_fault one bytes now x NoRoas h k =
    let lists_it = subst (λ d. Lists d h.entries) (one_value bytes h.value k.0 h.reads k.1.0) h.lists in not_neither k.0 h.entries lists_it k.2 k.3
no_fault one bytes now x (Entry i w) h k =
    let lists_it = subst (λ d. Lists d h.entries) (one_value bytes h.value k.0 h.reads k.1.0) h.lists in not_failing one k.0 h.entries k.2.0 i w lists_it k.2.1 k.2.2
no_fault one bytes now x TooMany h k =
    let lists_it = subst (λ d. Lists d h.entries) (one_value bytes h.value k.0 h.reads k.1.0) h.lists in
    let same = one_lists one k.0 h.entries k.2.0 lists_it k.2.1 in
    let sizes : size x.set ≡ size (set_of (current now k.2.0)) = ap (λ s. size s) (h.set_is ∙ ap (λ es. set_of (current now es)) same) in
    absurd (omega (arith, sizes, h.within_limit, k.2.2))
no_fault one bytes now x Memory h k = refl

-- ---- faults

entries_differ : {P : Type 0} → OneMeaning → (bytes : List ℕ) (now i : ℕ) (w : EntryFault) → HasFault bytes now (Entry i w) → HasFault bytes now NoRoas → P
entries_differ one bytes now i w h k =
    let same = one_value bytes h.0 k.0 h.1.0 k.1.0 in
    let no : Some h.2.0 ≡ None = sym h.2.1 ∙ ap roas same ∙ k.2 in absurd (cc)

entry_and_many : {P : Type 0} → OneMeaning → (bytes : List ℕ) (now i : ℕ) (w : EntryFault) → HasFault bytes now (Entry i w) → HasFault bytes now TooMany → P
entry_and_many one bytes now i w h k =
    let lists_it = subst (λ d. Lists d k.2.0) (one_value bytes k.0 h.0 k.1.0 h.1.0) k.2.1 in not_failing one h.0 k.2.0 h.2.0 i w lists_it h.2.1 h.2.2

neither_and_many : {P : Type 0} (bytes : List ℕ) (now : ℕ) → HasFault bytes now NoRoas → HasFault bytes now TooMany → P
neither_and_many bytes now h k =
    let lists_it = subst (λ d. Lists d k.2.0) (one_value bytes k.0 h.0 k.1.0 h.1.0) k.2.1 in not_neither h.0 k.2.0 lists_it h.2 h.3

pub one_fault : OneMeaning → (bytes : List ℕ) (now : ℕ) (f g : ExportFault) → HasFault bytes now f → HasFault bytes now g → ¬ (f ≡ Memory) → ¬ (g ≡ Memory) → f ≡ g
one_fault one bytes now Memory g h k a b = absurd (a refl)
one_fault one bytes now NotJson Memory h k a b = absurd (b refl)
one_fault one bytes now NotJson NotJson h k a b = refl
one_fault one bytes now NotJson Repeated h k a b = absurd (h k.0 k.1)
one_fault one bytes now NotJson NoRoas h k a b = absurd (h k.0 k.1.0)
one_fault one bytes now NotJson (Entry i w) h k a b = absurd (h k.0 k.1.0)
one_fault one bytes now NotJson TooMany h k a b = absurd (h k.0 k.1.0)
one_fault one bytes now Repeated Memory h k a b = absurd (b refl)
one_fault one bytes now Repeated NotJson h k a b = absurd (k h.0 h.1)
one_fault one bytes now Repeated Repeated h k a b = refl
one_fault one bytes now Repeated NoRoas h k a b = absurd (k.1.1 h.2)
one_fault one bytes now Repeated (Entry i w) h k a b = absurd (k.1.1 h.2)
one_fault one bytes now Repeated TooMany h k a b = absurd (k.1.1 h.2)
one_fault one bytes now NoRoas Memory h k a b = absurd (b refl)
one_fault one bytes now NoRoas NotJson h k a b = absurd (k h.0 h.1.0)
one_fault one bytes now NoRoas Repeated h k a b = absurd (h.1.1 k.2)
one_fault one bytes now NoRoas NoRoas h k a b = refl
one_fault one bytes now NoRoas (Entry i w) h k a b = entries_differ one bytes now i w k h
one_fault one bytes now NoRoas TooMany h k a b = neither_and_many bytes now h k
one_fault one bytes now (Entry i w) Memory h k a b = absurd (b refl)
one_fault one bytes now (Entry i w) NotJson h k a b = absurd (k h.0 h.1.0)
one_fault one bytes now (Entry i w) Repeated h k a b = absurd (h.1.1 k.2)
one_fault one bytes now (Entry i w) NoRoas h k a b = entries_differ one bytes now i w h k
one_fault one bytes now (Entry i w) (Entry j v) h k a b =
    let items = one_some k.2.0 h.2.0 (roas h.0) (ap roas (one_value bytes h.0 k.0 h.1.0 k.1.0) ∙ k.2.1) h.2.1 in
    let both = one_fails one.of_entries h.2.0 i j w v h.2.2 (subst (λ ds. FailsAt ds j v) items k.2.2) in ap₂ (λ n x. Entry n x) both.0 both.1
one_fault one bytes now (Entry i w) TooMany h k a b = entry_and_many one bytes now i w h k
one_fault one bytes now TooMany Memory h k a b = absurd (b refl)
one_fault one bytes now TooMany NotJson h k a b = absurd (k h.0 h.1.0)
one_fault one bytes now TooMany Repeated h k a b = absurd (h.1.1 k.2)
one_fault one bytes now TooMany NoRoas h k a b = neither_and_many bytes now k h
one_fault one bytes now TooMany (Entry i w) h k a b = entry_and_many one bytes now i w k h
one_fault one bytes now TooMany TooMany h k a b = refl
