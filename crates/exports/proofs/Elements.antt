-- The elements of arrays that are counted.
use Rattle.std.proofs.Common.{◌≡◌, ◌+◌, ◌∙◌, ℕ, suc, List, [], ◌∷◌, length, Option, Some, None, Result, Ok, Err, refl, sym, ap, ap₂, arith}
use Rattle.std.specs.Prelude.{IfOk, MatchOption, codes, option_map, unwrap_or}
use Rattle.json.specs.Token.{Token}
use Rattle.serde_json.specs.Data.{Data, array, object, no_items, Items, Members, no_members, put}
use Rattle.serde_json.specs.Find.{as_array}
use Rattle.serde_json.proofs.Views.{get_member-put, get_member-put_other}
use Rattle.exports.specs.Ignored.{IsIgnored, element_count, elements_at, item_count}
use Rattle.exports.specs.PlainForm.{HasElements, ReadsCounted, ReadsItems, ReadsNoItems, ReadsNone, before}
use Rattle.exports.specs.declared.ignored.Elements.{Elements}
use Rattle.exports.specs.declared.ignored.Ignored.{Ignored}
use Rattle.exports.proofs.PlainSteps.{array_read, no_array}

-- No elements
abbrev pub none : Elements
none = record { aspas = 0; bgpsec_keys = 0; router_keys = 0 }

-- An object without members has none, and so has what is no object.
pub none_at_first : HasElements (object no_members) none
none_at_first = (refl, refl, refl)

pub none_of_an_array : (ds : Items) → HasElements (array ds) none
none_of_an_array ds = (refl, refl, refl)

-- ---- one member more

counted_put : (k : List ℕ) (d : Data) (ms : Members) → elements_at k (object (put k d ms)) ≡ element_count d
counted_put k d ms = ap (λ o. unwrap_or (option_map element_count o) 0) (get_member-put k d ms)

counted_kept : (q k : List ℕ) (d : Data) (ms : Members) → (q ≡ k → ⊥) → elements_at q (object ms) ≡ elements_at q (object (put k d ms))
counted_kept q k d ms other = sym (ap (λ o. unwrap_or (option_map element_count o) 0) (get_member-put_other q k d ms other))

-- The names have different lengths.
abbrev Differ : List ℕ → List ℕ → Type 0
Differ k l = k ≡ l → ⊥

aspas_keys : Differ (codes "aspas") (codes "bgpsec_keys")
aspas_keys e = let no : 5 ≡ 11 = ap length e in omega (arith, no)

aspas_router : Differ (codes "aspas") (codes "routerKeys")
aspas_router e = let no : 5 ≡ 10 = ap length e in omega (arith, no)

keys_router : Differ (codes "bgpsec_keys") (codes "routerKeys")
keys_router e = let no : 11 ≡ 10 = ap length e in omega (arith, no)

pub with_aspas : (ms : Members) (d : Data) (e : Elements) (n : ℕ) → HasElements (object ms) e → n ≡ element_count d → HasElements (object (put (codes "aspas") d ms)) (record e { aspas = n })
with_aspas ms d e n h is = (
  is ∙ sym (counted_put (codes "aspas") d ms),
  h.1 ∙ counted_kept (codes "bgpsec_keys") (codes "aspas") d ms (λ x. aspas_keys (sym x)),
  h.2 ∙ counted_kept (codes "routerKeys") (codes "aspas") d ms (λ x. aspas_router (sym x)),
)

pub with_bgpsec_keys : (ms : Members) (d : Data) (e : Elements) (n : ℕ) → HasElements (object ms) e → n ≡ element_count d → HasElements (object (put (codes "bgpsec_keys") d ms)) (record e { bgpsec_keys = n })
with_bgpsec_keys ms d e n h is = (
  h.0 ∙ counted_kept (codes "aspas") (codes "bgpsec_keys") d ms aspas_keys,
  is ∙ sym (counted_put (codes "bgpsec_keys") d ms),
  h.2 ∙ counted_kept (codes "routerKeys") (codes "bgpsec_keys") d ms (λ x. keys_router (sym x)),
)

pub with_router_keys : (ms : Members) (d : Data) (e : Elements) (n : ℕ) → HasElements (object ms) e → n ≡ element_count d → HasElements (object (put (codes "routerKeys") d ms)) (record e { router_keys = n })
with_router_keys ms d e n h is = (
  h.0 ∙ counted_kept (codes "aspas") (codes "routerKeys") d ms aspas_router,
  h.1 ∙ counted_kept (codes "bgpsec_keys") (codes "routerKeys") d ms keys_router,
  is ∙ sym (counted_put (codes "routerKeys") d ms),
)

-- A member of another name has no part in it.
pub with_other : (k : List ℕ) (ms : Members) (d : Data) (e : Elements) → Differ k (codes "aspas") → Differ k (codes "bgpsec_keys") → Differ k (codes "routerKeys") → HasElements (object ms) e → HasElements (object (put k d ms)) e
with_other k ms d e aspas keys router h = (
  h.0 ∙ counted_kept (codes "aspas") k d ms (λ x. aspas (sym x)),
  h.1 ∙ counted_kept (codes "bgpsec_keys") k d ms (λ x. keys (sym x)),
  h.2 ∙ counted_kept (codes "routerKeys") k d ms (λ x. router (sym x)),
)

roas_aspas : Differ (codes "roas") (codes "aspas")
roas_aspas e = let no : 4 ≡ 5 = ap length e in omega (arith, no)

roas_keys : Differ (codes "roas") (codes "bgpsec_keys")
roas_keys e = let no : 4 ≡ 11 = ap length e in omega (arith, no)

roas_router : Differ (codes "roas") (codes "routerKeys")
roas_router e = let no : 4 ≡ 10 = ap length e in omega (arith, no)

metadata_aspas : Differ (codes "metadata") (codes "aspas")
metadata_aspas e = let no : 8 ≡ 5 = ap length e in omega (arith, no)

metadata_keys : Differ (codes "metadata") (codes "bgpsec_keys")
metadata_keys e = let no : 8 ≡ 11 = ap length e in omega (arith, no)

metadata_router : Differ (codes "metadata") (codes "routerKeys")
metadata_router e = let no : 8 ≡ 10 = ap length e in omega (arith, no)

pub with_roas : (ms : Members) (d : Data) (e : Elements) → HasElements (object ms) e → HasElements (object (put (codes "roas") d ms)) e
with_roas ms d e h = with_other (codes "roas") ms d e roas_aspas roas_keys roas_router h

pub with_metadata : (ms : Members) (d : Data) (e : Elements) → HasElements (object ms) e → HasElements (object (put (codes "metadata") d ms)) e
with_metadata ms d e h = with_other (codes "metadata") ms d e metadata_aspas metadata_keys metadata_router h

-- ---- a value

count_before : (ds : List Data) → item_count (before ds no_items) ≡ length ds
count_before [] = refl
count_before (d ∷ ds) = ap suc (count_before ds)

pub array_counted : (old ts new : List Token) (n : ℕ) → old ≡ Token.begin_array ∷ ts → ReadsItems 125 (λ js ds. length ds ≡ n) ts new → ReadsCounted old new n
array_counted old ts new n first read =
    array_read 125 (λ js ds. length ds ≡ n) (λ j d. n ≡ element_count d) old ts new first read (λ js ds h. sym h ∙ sym (count_before ds))

-- whether or not it is to be read
pub array_form : {E : Type 0} (old ts new : List Token) (r : Result (Option ℕ) E) → old ≡ Token.begin_array ∷ ts
    → IfOk r (λ found. MatchOption found (ReadsNoItems 125 ts) (λ n. ReadsItems 125 (λ js ds. length ds ≡ n) ts new))
    → IfOk r (λ found. MatchOption found (ReadsNone 126 old) (λ n. ReadsCounted old new n))
array_form old ts new (Err e) first h = tt
array_form old ts new (Ok None) first h = no_array 125 old ts first h
array_form old ts new (Ok (Some n)) first h = array_counted old ts new n first h

pub no_elements : (d : Data) → as_array d ≡ None → 0 ≡ element_count d
no_elements d none = sym (ap (λ o. unwrap_or (option_map item_count o) 0) none)

-- ---- what is not served

pub ignored_of : (d : Data) (e : Elements) (i : Ignored) → HasElements d e → i.aspas ≡ e.aspas → i.router_keys ≡ e.bgpsec_keys + e.router_keys → IsIgnored d i
ignored_of d e i h aspas keys = record { aspas = aspas ∙ h.0; router_keys = keys ∙ ap₂ (λ a b. a + b) h.1 h.2 }
