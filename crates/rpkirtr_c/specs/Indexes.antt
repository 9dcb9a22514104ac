-- Indexes over records in C.
use Rattle.std.specs.Prelude.{◌≡◌, ℕ, ◌<◌, ℤ, List, length, map, get_or, take, Option, Some, None, ⊤}
use Rattle.std.specs.List.{All, flat_map}
use Rattle.prefixes.specs.Payload.{Payload, IsPayload}
use Rattle.vrps.specs.VrpSet.{size, set_of}
use Rattle.rpkirtr_c.specs.Answers.{number}
use Rattle.rpkirtr_c.specs.Spelled.{SpellsRecord, record_of}
use Rattle.rpkirtr_c.specs.declared.index.IndexFault.{IndexFault}
use Rattle.rpkirtr_c.specs.declared.index.IndexFault.TheVariants.{Bad, TooMany, Memory}
use Rattle.rpkirtr_c.specs.declared.judge.Judge.{Judge}
use Rattle.rpkirtr_c.specs.declared.lists.CList.{CList}
use Rattle.rpkirtr_c.specs.declared.call_status.CallStatus.{CallStatus}
use Rattle.rpkirtr_c.specs.declared.call_status.CallStatus.TheVariants.{Done, Live, NoMemory, BadRecord, OutOfRange}
use Rattle.rpkirtr_c.specs.declared.values.CRecord.{CRecord}

-- the records of these payloads, in their order
abbrev pub AreRecords : List Payload → List CRecord → Type 0
AreRecords vs records = All IsPayload vs × (map record_of vs ≡ records)

-- These are records of payloads.
abbrev pub HavePayloads : List CRecord → Type 0
HavePayloads records = (vs : List Payload) × AreRecords vs records

-- At this index is the first record of no payload.
abbrev pub IsBadAt : List CRecord → ℕ → Type 0
IsBadAt records i = HavePayloads (take i records) × (q : CRecord) × (i < length records) × (q ≡ get_or records i q) × ((v : Payload) → ¬ (SpellsRecord q v))

-- why there is no index over records
abbrev pub IsFaultOf : List CRecord → IndexFault → Type 0
IsFaultOf records (Bad i) = IsBadAt records i
IsFaultOf records TooMany = (vs : List Payload) × AreRecords vs records × (16777215 < size (set_of vs))
IsFaultOf records Memory = ⊤

-- why the payloads of records are not listed
abbrev pub IsRecordFault : List CRecord → IndexFault → Type 0
IsRecordFault records (Bad i) = IsBadAt records i
IsRecordFault records TooMany = ⊥
IsRecordFault records Memory = ⊤

-- why there is no set of these payloads
abbrev pub IsSetFault : List Payload → IndexFault → Type 0
IsSetFault vs (Bad i) = ⊥
IsSetFault vs TooMany = 16777215 < size (set_of vs)
IsSetFault vs Memory = ⊤

-- The index is over these records: what is listed twice counts once.
abbrev pub IsOver : List CRecord → Judge → Type 0
IsOver records t = (vs : List Payload) × AreRecords vs records × (t.index ≡ set_of vs)

abbrev pub fault_status : IndexFault → CallStatus
fault_status (Bad i) = BadRecord
fault_status TooMany = OutOfRange
fault_status Memory = NoMemory

abbrev pub bad_of : IndexFault → ℕ
bad_of (Bad i) = i
bad_of TooMany = 0
bad_of Memory = 0

-- An index over the records is made in an empty handle, or it stays empty for a fault, which is written. A live handle stays as it is.
abbrev pub NewIndex : List CRecord → Option Judge → Option Judge → ℤ → ℕ → Type 0
NewIndex records None (Some t) answer bad = (answer ≡ number Done) × IsOver records t × (bad ≡ 0)
NewIndex records None None answer bad = (fault : IndexFault) × IsFaultOf records fault × (answer ≡ number (fault_status fault)) × (bad ≡ bad_of fault)
NewIndex records (Some s) (Some t) answer bad = (answer ≡ number Live) × (t ≡ s) × (bad ≡ 0)
NewIndex records (Some s) None answer bad = ⊥

-- the records of these lists, one list after the other
abbrev pub records_in : List CList → List CRecord
records_in lists = flat_map (λ (l : CList). l.records.now) lists

-- why there is no index over lists: at this one
abbrev pub IsFaultIn : List CList → ℕ → IndexFault → Type 0
IsFaultIn lists at (Bad i) = HavePayloads (records_in (take at lists)) × (l : CList) × (at < length lists) × (l ≡ get_or lists at l) × IsBadAt l.records.now i
IsFaultIn lists at TooMany = IsFaultOf (records_in lists) TooMany
IsFaultIn lists at Memory = ⊤

abbrev pub list_of : ℕ → IndexFault → ℕ
list_of at (Bad i) = at
list_of at TooMany = 0
list_of at Memory = 0

-- An index over the records of these lists is made in an empty handle. For a fault it stays empty, and the indexes of the list and of the
-- record in it are written. A live handle stays as it is.
abbrev pub NewIndexOf : List CList → Option Judge → Option Judge → ℤ → ℕ → ℕ → Type 0
NewIndexOf lists None (Some t) answer list bad = (answer ≡ number Done) × IsOver (records_in lists) t × (list ≡ 0) × (bad ≡ 0)
NewIndexOf lists None None answer list bad =
    (at : ℕ) × (fault : IndexFault) × IsFaultIn lists at fault × (answer ≡ number (fault_status fault)) × (list ≡ list_of at fault) × (bad ≡ bad_of fault)
NewIndexOf lists (Some s) (Some t) answer list bad = (answer ≡ number Live) × (t ≡ s) × (list ≡ 0) × (bad ≡ 0)
NewIndexOf lists (Some s) None answer list bad = ⊥
