-- What is gathered of entries, one after the other.
use Rattle.std.proofs.Common.{◌≡◌, ℕ, ◌+◌, ◌++◌, cond, List, [], ◌∷◌, map, refl, sym, ap, ◌∙◌, subst, Option, Some, None, inl}
use Rattle.std.specs.Prelude.{filter, filter_map, not}
use Rattle.std.proofs.lemmas.List.{map-append}
use Rattle.std.proofs.lemmas.List.Elements.{filter-append, filter_map-append}
use Rattle.std.proofs.lemmas.List.Sums.{sum_by-append}
use Rattle.serde_json.specs.Data.{Data, Items}
use Rattle.exports.specs.Anchors.{anchors_in}
use Rattle.exports.specs.Entry.{counts_at, current, expired}
use Rattle.exports.specs.Export.{Lists, lasting}
use Rattle.exports.specs.Gathering.{Gathers, IsLasting}
use Rattle.exports.specs.Lasting.{last_seconds}
use Rattle.exports.specs.Numbering.{Anchors}
use Rattle.exports.specs.Until.{IsFirst, endings}
use Rattle.exports.specs.declared.entry.ExportEntry.{ExportEntry}
use Rattle.exports.proofs.Anchoring.{list_anchors}
use Rattle.exports.proofs.Lasts.{last_seconds-append, last_seconds-lasting}
use Rattle.exports.specs.declared.gathered.EntryRecords.{EntryRecords}
use Rattle.prefixes.specs.Payload.{Payload}
use Rattle.payload_lists.specs.PayloadList as lists
use Rattle.serde_json.specs.Find.{as_array}

pub current-append : (now : ℕ) (es fs : List ExportEntry) → current now (es ++ fs) ≡ current now es ++ current now fs
current-append now es fs = ap (map (λ e. e.payload)) (filter-append (counts_at now) es fs) ∙ map-append (λ e. e.payload) (filter (counts_at now) es) (filter (counts_at now) fs)

pub expired-append : (now : ℕ) (es fs : List ExportEntry) → expired now (es ++ fs) ≡ expired now es + expired now fs
expired-append now es fs = sum_by-append (λ e. cond (not (counts_at now e)) 1 0) es fs

pub endings-append : (now : ℕ) (es fs : List ExportEntry) → endings now (es ++ fs) ≡ endings now es ++ endings now fs
endings-append now es fs = ap (filter_map (λ e. e.expires)) (filter-append (counts_at now) es fs) ∙ filter_map-append (λ e. e.expires) (filter (counts_at now) es) (filter (counts_at now) fs)

pub gather_more : (now : ℕ) (es : List ExportEntry) (e : ExportEntry) (g h : EntryRecords) → Gathers now es g → h.records.items ≡ g.records.items ++ current now (e ∷ []) → h.lasts.items ≡ g.lasts.items ++ last_seconds now (e ∷ []) → h.expired ≡ g.expired + expired now (e ∷ [])
    → ((ts : List ℕ) → IsFirst ts g.until → IsFirst (ts ++ endings now (e ∷ [])) h.until) → Gathers now (es ++ e ∷ []) h
gather_more now es e g h so_far records lasts count ends = record {
  records = records ∙ ap (λ vs. vs ++ current now (e ∷ [])) so_far.records ∙ sym (current-append now es (e ∷ []));
  lasts = lasts ∙ ap (λ ns. ns ++ last_seconds now (e ∷ [])) so_far.lasts ∙ sym (last_seconds-append now es (e ∷ []));
  expired = count ∙ ap (λ n. n + expired now (e ∷ [])) so_far.expired ∙ sym (expired-append now es (e ∷ []));
  until = subst (λ ts. IsFirst ts h.until) (sym (endings-append now es (e ∷ []))) (ends (endings now es) so_far.until);
}

-- ---- entries without expiry

current-lasting : (now : ℕ) (vs : List Payload) → current now (map lasting vs) ≡ vs
current-lasting now [] = refl
current-lasting now (v ∷ vs) = ap (λ ws. v ∷ ws) (current-lasting now vs)

expired-lasting : (now : ℕ) (vs : List Payload) → expired now (map lasting vs) ≡ 0
expired-lasting now [] = refl
expired-lasting now (v ∷ vs) = expired-lasting now vs

endings-lasting : (now : ℕ) (vs : List Payload) → endings now (map lasting vs) ≡ []
endings-lasting now [] = refl
endings-lasting now (v ∷ vs) = endings-lasting now vs

first_of_none : (ts : List ℕ) (until : Option ℕ) → until ≡ None → ts ≡ [] → IsFirst ts until
first_of_none ts None h none = none
first_of_none ts (Some t) h none = absurd (cc)

-- What was gathered of a payload list are its entries.
pub gather_list : (d : Data) (ds : Items) (now : ℕ) (g : EntryRecords) → Some ds ≡ as_array d → lists.AreEntries ds g.records.items → IsLasting g → (es : List ExportEntry) × Lists d es × Gathers now es g × Anchors now es (anchors_in d) g
gather_list d ds now g array are for_ever = (
  map lasting g.records.items,
  inl (record { items = ds; is_array = sym array; payloads = g.records.items; listed = are; entries_are = refl }),
  record {
    records = sym (current-lasting now g.records.items);
    lasts = for_ever.lasts ∙ sym (last_seconds-lasting now g.records.items);
    expired = for_ever.expired ∙ sym (expired-lasting now g.records.items);
    until = first_of_none (endings now (map lasting g.records.items)) g.until for_ever.until (endings-lasting now g.records.items);
  },
  list_anchors now d ds g array for_ever,
)
