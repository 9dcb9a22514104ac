-- A list in its plain form is a payload list, and of no other set.
use Rattle.std.proofs.Common.{◌≡◌, ℕ, ◌<◌, ◌≤◌, List, [], ◌∷◌, Some, Result, Ok, Err, refl, ap, ◌∙◌, ap₂, subst}
use Rattle.std.specs.Prelude.{IfOk}
use Rattle.std.specs.Str.{IsUtf8}
use Rattle.serde_json.specs.Data.{Data, null, boolean, number, string, object, Items, no_items, item, array}
use Rattle.serde_json.specs.Find.{as_array}
use Rattle.serde_json.specs.Read as json
use Rattle.prefixes.specs.Text.{OneReading, Says}
use Rattle.prefixes.specs.Payload.{Payload}
use Rattle.vrps.specs.VrpSet.{VrpSet, set_of, size}
use Rattle.payload_lists.specs.PayloadList.{AreEntries, IsEntry, IsPayloadList}
use Rattle.payload_lists.specs.declared.listing.ListFault.{ListFault}
use Rattle.payload_lists.proofs.Entries.{lists, one_some, same_list, too_many}

-- What a text says, as JSON: an array of entries of these payloads
abbrev pub IsListed : List ℕ → List Payload → Type 0
IsListed text vs = (ds : Items) × (json.read text ≡ Some (array ds)) × AreEntries ds vs

one_entry : OneReading → (d : Data) (v w : Payload) → IsEntry d v → IsEntry d w → w ≡ v
one_entry one d v w hv hw =
    let asn = one_some w.asn v.asn _ hw.asn hv.asn in
    let max_len = one_some w.max_len v.max_len _ hw.max_len hv.max_len in
    let text = one_some hw.text hv.text _ hw.has_text hv.has_text in
    let prefix = one hv.text w.prefix v.prefix (subst (λ t. Says w.prefix t) text hw.prefix.says) hv.prefix.says in
    λ i. record { prefix = prefix i; max_len = max_len i; asn = asn i }

pub one_list : OneReading → (ds : Items) (vs ws : List Payload) → AreEntries ds vs → AreEntries ds ws → ws ≡ vs
one_list one no_items [] [] hv hw = refl
one_list one no_items [] (w ∷ ws) hv hw = absurd hw
one_list one no_items (v ∷ vs) ws hv hw = absurd hv
one_list one (item d ds) (v ∷ vs) (w ∷ ws) hv hw = ap₂ (λ x xs. x ∷ xs) (one_entry one d v w hv.0 hw.0) (one_list one ds vs ws hv.1 hw.1)
one_list one (item d ds) (v ∷ vs) [] hv hw = absurd hw
one_list one (item d ds) [] ws hv hw = absurd hv

pub listed_is : (text : List ℕ) (vs : List Payload) (result : Result VrpSet ListFault) → IsUtf8 text → IsListed text vs → IfOk result (λ s. (s ≡ set_of vs) × (size s ≤ 16777215)) → IfOk result (λ s. IsPayloadList text s)
listed_is text vs (Err e) utf8 h made = tt
listed_is text vs (Ok s) utf8 h made =
    record { utf8 = utf8; value = array h.0; reads = h.1; items = h.0; is_array = refl; lists = lists h.0 vs s h.2 made.0 made.1 }

pub listed_no : OneReading → (text : List ℕ) (vs : List Payload) → IsListed text vs → 16777215 < size (set_of vs) → (s : VrpSet) → IsPayloadList text s → ⊥
listed_no one text vs h many s is = too_many h.0 vs s (λ ws others. one_list one h.0 vs ws h.2 others) many (same_list text s (array h.0) h.0 is h.1 refl)

-- What a text says is an array of no entries of payloads, if it is an array.
abbrev pub IsRefused : List ℕ → Type 0
IsRefused text = (ds : Items) → json.read text ≡ Some (array ds) → (vs : List Payload) → ¬ (AreEntries ds vs)

array_is : (d : Data) (ds : Items) → as_array d ≡ Some ds → d ≡ array ds
array_is (array xs) ds e = cc
array_is null ds e = absurd (cc)
array_is (boolean b) ds e = absurd (cc)
array_is (number n) ds e = absurd (cc)
array_is (string s) ds e = absurd (cc)
array_is (object ms) ds e = absurd (cc)

pub refused_no : (text : List ℕ) → IsRefused text → (s : VrpSet) → IsPayloadList text s → ⊥
refused_no text h s is = h is.items (is.reads ∙ ap (λ d. Some d) (array_is is.value is.items is.is_array)) is.lists.records is.lists.entries
