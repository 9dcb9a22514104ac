-- What the functions that read give.
use Rattle.std.specs.Prelude.{◌≡◌, ℕ, ◌+◌, ◌-◌, List, [], ◌∷◌, ◌++◌, length, take, Result, Ok, Err}
use Rattle.der_lite.specs.Place.{Place, Fault}
use Rattle.payloads.specs.declared.roa_entry.RoaEntry.{RoaEntry}
use Rattle.payloads.specs.declared.fault.GrammarFault.{GrammarFault}
use Rattle.payloads.specs.declared.fault.PayloadFault.{PayloadFault}
use Rattle.payloads.specs.declared.fault.PayloadFault.TheVariants.{At, Memory}
use Rattle.payloads.specs.Faults.{kind_number, grammar_fault_of}
use Rattle.payloads.specs.Manifest.{ListedFile, ManifestValue, ManifestSpells, ManifestFaultAt}
use Rattle.payloads.specs.RoaValues.{RoaValue, RoaSpells, RoaFaultAt}

-- What was read and the cursor's new place, or the first fault.
abbrev pub GivesNext : {X V : Type 0} → (X → V) → Result X GrammarFault → Place → Result (V × Place) Fault → Type 0
GivesNext view (Ok x) new read = read ≡ Ok (view x, new)
GivesNext view (Err e) new read = read ≡ Err (grammar_fault_of e)

-- What was read to the end, or the first fault.
abbrev pub GivesAll : {X V : Type 0} → (X → V) → Result X GrammarFault → Result V Fault → Type 0
GivesAll view (Ok x) read = read ≡ Ok (view x)
GivesAll view (Err e) read = read ≡ Err (grammar_fault_of e)

-- How many entries came so far, for how many there is room, and the first of them, as many as there is room for.
pub record Progress : Type 0 where
  pub count : ℕ
  pub room : ℕ
  pub listed : List RoaEntry

-- More entries came. They are listed behind the others, as long as there is room.
pub record Grows (old new : Progress) (more : List RoaEntry) : Type 0 where
  pub counted : new.count ≡ old.count + length more
  pub room : new.room ≡ old.room
  pub kept : new.listed ≡ old.listed ++ take (old.room - length old.listed) more

-- What was read, of which these entries were listed; or the first fault.
abbrev pub ListsEntries : {X V : Type 0} → (X → V → Type 0) → (V → List RoaEntry) → Result X GrammarFault → Progress → Progress → Result V Fault → Type 0
ListsEntries {X} {V} Is entries (Ok x) old new read = (v : V) × (read ≡ Ok v) × Is x v × Grows old new (entries v)
ListsEntries Is entries (Err e) old new read = read ≡ Err (grammar_fault_of e)

-- What was read, and the cursor's new place; or the first fault; or memory ran out.
abbrev pub GivesOrMemory : {X V : Type 0} → (X → V) → Result X PayloadFault → Place → Result (V × Place) Fault → Type 0
GivesOrMemory view (Ok x) new read = read ≡ Ok (view x, new)
GivesOrMemory view (Err (At e)) new read = read ≡ Err (grammar_fault_of e)
GivesOrMemory view (Err Memory) new read = Unit {0}

-- What was read to the end; or the first fault; or memory ran out.
abbrev pub GivesAllOrMemory : {X V : Type 0} → (X → V) → Result X PayloadFault → Result V Fault → Type 0
GivesAllOrMemory view (Ok x) read = read ≡ Ok (view x)
GivesAllOrMemory view (Err (At e)) read = read ≡ Err (grammar_fault_of e)
GivesAllOrMemory view (Err Memory) read = Unit {0}

-- The file was read behind the others, and the cursor is behind it; or the first fault; or memory ran out.
abbrev pub ListsFile : Result (Unit {0}) PayloadFault → List ListedFile → List ListedFile → Place → Result (ListedFile × Place) Fault → Type 0
ListsFile (Ok _) old new next read = (file : ListedFile) × (read ≡ Ok (file, next)) × (new ≡ old ++ file ∷ [])
ListsFile (Err (At e)) old new next read = read ≡ Err (grammar_fault_of e)
ListsFile (Err Memory) old new next read = Unit {0}

-- The files were read to the end; or the first fault; or memory ran out.
abbrev pub ListsFiles : Result (Unit {0}) PayloadFault → List ListedFile → Result (List ListedFile) Fault → Type 0
ListsFiles (Ok _) files read = read ≡ Ok files
ListsFiles (Err (At e)) files read = read ≡ Err (grammar_fault_of e)
ListsFiles (Err Memory) files read = Unit {0}

-- The bytes spell this manifest; or this fault is their first; or memory ran out.
abbrev pub DecodesManifest : Result ManifestValue PayloadFault → List ℕ → Type 0
DecodesManifest (Ok manifest) bytes = ManifestSpells manifest bytes
DecodesManifest (Err (At fault)) bytes = ManifestFaultAt bytes fault.offset (kind_number fault.kind)
DecodesManifest (Err Memory) bytes = Unit {0}

-- The bytes spell this ROA; or this fault is their first; or they spell one and memory ran out.
abbrev pub Decodes : Result RoaValue PayloadFault → List ℕ → Type 0
Decodes (Ok roa) bytes = RoaSpells roa bytes
Decodes (Err (At fault)) bytes = RoaFaultAt bytes fault.offset (kind_number fault.kind)
Decodes (Err Memory) bytes = (roa : RoaValue) × RoaSpells roa bytes
