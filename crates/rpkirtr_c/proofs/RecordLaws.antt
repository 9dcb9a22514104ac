-- Records of lists, and their payloads.
use Rattle.std.proofs.Common.{ℕ, ◌+◌, ◌<◌, List, [], ◌∷◌, ◌++◌, length, get_or, take, refl, sym, ap, append_assoc, ◌∙◌}
use Rattle.std.proofs.lemmas.List.{append-nil, get_or_default, map-append, take_more}
use Rattle.std.proofs.lemmas.Grind.{flat_map-append}
use Rattle.std.proofs.lemmas.List.Elements.{All-nil, All-push}
use Rattle.prefixes.specs.Payload.{Payload, IsPayload}
use Rattle.rpkirtr_c.specs.Indexes.{AreRecords, IsFaultIn, IsRecordFault, records_in}
use Rattle.rpkirtr_c.specs.Spelled.{SpellsRecord, record_of}
use Rattle.rpkirtr_c.specs.declared.index.IndexFault.{IndexFault}
use Rattle.rpkirtr_c.specs.declared.index.IndexFault.TheVariants.{Bad, TooMany, Memory}
use Rattle.rpkirtr_c.specs.declared.lists.CList.{CList}
use Rattle.rpkirtr_c.specs.declared.values.CRecord.{CRecord}

pub none_are : AreRecords [] []
none_are = (All-nil IsPayload, refl)

-- The payload of one more record
pub one_more : (vs : List Payload) (before records : List CRecord) (i : ℕ) (d : CRecord) (v : Payload) → AreRecords vs (before ++ take i records) → i < length records → SpellsRecord (get_or records i d) v
    → AreRecords (vs ++ v ∷ []) (before ++ take (i + 1) records)
one_more vs before records i d v are low spells = (
  All-push IsPayload vs v are.0 spells.0,
  map-append record_of vs (v ∷ []) ∙ (λ k. are.1 k ++ sym spells.1 k ∷ []) ∙ append_assoc before (take i records) (get_or records i d ∷ [])
      ∙ ap (λ xs. before ++ xs) (sym (take_more records i d low)),
)

-- The payloads of the records of one more list
pub next_list : (vs : List Payload) (lists : List CList) (at : ℕ) (d : CList) → at < length lists → AreRecords vs (records_in (take at lists) ++ (get_or lists at d).records.now)
    → AreRecords vs (records_in (take (at + 1) lists))
next_list vs lists at d low are = (
  are.0,
  are.1 ∙ ap (λ xs. records_in (take at lists) ++ xs) (sym (append-nil (get_or lists at d).records.now))
      ∙ sym (flat_map-append (λ (l : CList). l.records.now) (take at lists) (get_or lists at d ∷ [])) ∙ ap records_in (sym (take_more lists at d low)),
)

-- A fault of one list is one of the lists, at its index.
pub list_fault : (vs : List Payload) (lists : List CList) (at : ℕ) (d : CList) (fault : IndexFault) → AreRecords vs (records_in (take at lists)) → at < length lists
    → IsRecordFault (get_or lists at d).records.now fault → IsFaultIn lists at fault
list_fault vs lists at d (Bad i) are low h = ((vs, are), get_or lists at d, low, get_or_default lists at d (get_or lists at d) low, h)
list_fault vs lists at d TooMany are low h = absurd h
list_fault vs lists at d Memory are low h = tt
