-- What is served: what all sources have together, with local exceptions.
use Rattle.std.specs.Prelude.{◌≡◌, ◌⊎◌, ◌<◌, ◌≤◌, ℕ, ◌+◌, ◌^◌, cond, nat_le, nat_lt, length, map, take, unwrap_or, count_by, filter, replicate, slice_set, Bool, true, false, not, ◌&&◌, ◌||◌, ◌==◌, List, [], ◌∷◌, Option, Some, None, Result, Ok, Err, string_bytes, ⊤}
use Rattle.std.specs.List.{All, list_any, slice_get}
use Rattle.der_lite.specs.Moments.{CivilMoment}
use Rattle.der_lite.specs.Seconds.{seconds_of}
use Rattle.prefixes.specs.Payload.{Payload, block_of}
use Rattle.vrps.specs.VrpSet.{VrpSet, empty, has, listing, set_of, size, union, without}
use Rattle.exports.specs.Anchors.{IsExportAnchored}
use Rattle.exports.specs.Export.{HasFault}
use Rattle.exports.specs.Ignored.{IsExportCounted}
use Rattle.exports.specs.Lasting.{IsExportLasting, counting}
use Rattle.exports.specs.declared.export.ExportCounted.{ExportCounted}
use Rattle.exports.specs.declared.export.ExportLasting.{ExportLasting}
use Rattle.exports.specs.declared.ignored.Ignored.{Ignored}
use Rattle.points.specs.InUse.{Points, Lists}
use Rattle.slurm.specs.Exceptions.{excepted, exceptions_of, is_filtered}
use Rattle.slurm.specs.Ignored.{ignored_of}
use Rattle.slurm.specs.Scoped.{ReadsScoped, Scoped}
use Rattle.slurm.specs.SlurmFile.{ReadsSlurm}
use Rattle.slurm.specs.Uniting.{Unites}
use Rattle.slurm.specs.declared.fault.SlurmFault.{SlurmFault}
use Rattle.slurm.specs.declared.fault.SlurmFault.TheVariants.{Memory}
use Rattle.slurm.specs.declared.scoped.Ignored.{Ignored as IgnoredExceptions}
use Rattle.slurm.specs.declared.unite_fault.UniteFault.TheVariants as unite
use Rattle.ccr.specs.Ccr.{Vrps, begins_as_ccr}
use Rattle.sources.specs.ByAnchor.{AreLeft, HasNoAnchors}
use Rattle.sources.specs.Ccrs.{IsCcrRefused, Says, last_of}
use Rattle.sources.specs.declared.fault.SlurmSetFault.{SlurmSetFault}
use Rattle.sources.specs.declared.fault.SlurmSetFault.TheVariants.{File, Unite}
use Rattle.sources.specs.declared.fault.TakeFault.{TakeFault}
use Rattle.sources.specs.declared.fault.TakeFault.TheVariants.{NoSuchFile, Export, Ccr}
use Rattle.sources.specs.declared.fault.TakeSetFault.{TakeSetFault}
use Rattle.sources.specs.declared.fault.TakeSetFault.TheVariants as set
use Rattle.sources.specs.declared.listed.Listed.{Listed}
use Rattle.sources.specs.declared.slurms.AppliedSlurms.{AppliedSlurms}
use Rattle.sources.specs.declared.sources.Sources.{Sources}

-- the set of a file's payloads that count at a moment, in seconds since 1970
abbrev pub counting_at : ℕ → Listed → VrpSet
counting_at at l = set_of (counting at (listing l.set) l.lasts.items)

-- a set, and the payloads of each of these files that count at a moment
abbrev pub with_lists : ℕ → VrpSet → List Listed → VrpSet
with_lists at s [] = s
with_lists at s (l ∷ ls) = with_lists at (union s (counting_at at l)) ls

-- with local exceptions, if there are any
abbrev pub excepted_by : Option AppliedSlurms → VrpSet → VrpSet
excepted_by None s = s
excepted_by (Some e) s = excepted (exceptions_of e.slurm) s

-- A payload of length 0, for 0.0.0.0/0 or ::/0, is about all addresses of its family.
abbrev pub has_length_0 : Payload → Bool
has_length_0 v = (block_of v.prefix).len == 0

-- the payloads of length 0 of a set, if they are left out
abbrev pub left_out_of : Bool → VrpSet → List Payload
left_out_of false s = []
left_out_of true s = filter has_length_0 (listing s)

-- without these
abbrev pub narrowed : Bool → VrpSet → VrpSet
narrowed leaves s = without s (set_of (left_out_of leaves s))

-- The payloads that publication points have in use at a moment, and those of files that count then, with local exceptions, and without
-- payloads of length 0 if these are left out
pub record IsServed (points : Points) (lists : List Listed) (exceptions : Option AppliedSlurms) (leaves : Bool) (now : CivilMoment) (t : VrpSet) : Type 0 where
  pub used : List Payload
  pub in_use : Lists used points now
  pub is : t ≡ narrowed leaves (excepted_by exceptions (with_lists (seconds_of now) (set_of used) lists))

-- The payloads that publication points have in use at a moment and those of files that count then are more than a set may have. Or the local
-- exceptions make more than that of them.
pub record PassesLimit (points : Points) (lists : List Listed) (exceptions : Option AppliedSlurms) (now : CivilMoment) : Type 0 where
  pub used : List Payload
  pub in_use : Lists used points now
  pub passes : (16777215 < size (with_lists (seconds_of now) (set_of used) lists)) ⊎ (16777215 < size (excepted_by exceptions (with_lists (seconds_of now) (set_of used) lists)))

-- some file says the payload, which counts at the moment
abbrev pub is_listed : ℕ → List Listed → Payload → Bool
is_listed at ls v = list_any (λ l. has (counting_at at l) v) ls

-- local exceptions leave the payload out
abbrev pub is_left_out : Option AppliedSlurms → Payload → Bool
is_left_out None v = false
is_left_out (Some e) v = is_filtered e.slurm.filters.items v

-- local exceptions say the payload
abbrev pub is_asserted : Option AppliedSlurms → Payload → Bool
is_asserted None v = false
is_asserted (Some e) v = has e.slurm.assertions v

-- This number of payloads is left out.
pub record LeavesOut (points : Points) (lists : List Listed) (exceptions : Option AppliedSlurms) (leaves : Bool) (now : CivilMoment) (n : ℕ) : Type 0 where
  pub used : List Payload
  pub in_use : Lists used points now
  pub is : n ≡ length (left_out_of leaves (excepted_by exceptions (with_lists (seconds_of now) (set_of used) lists)))

-- The files and publication points give this number of payloads together, before local exceptions are applied.
pub record Gives (points : Points) (lists : List Listed) (now : CivilMoment) (n : ℕ) : Type 0 where
  pub used : List Payload
  pub in_use : Lists used points now
  pub is : n ≡ size (with_lists (seconds_of now) (set_of used) lists)

-- A payload is in use at a publication point or counts in a file, and local exceptions do not leave it out; or they say it.
abbrev pub is_wanted : ℕ → List Payload → List Listed → Option AppliedSlurms → Payload → Bool
is_wanted at used lists exceptions v = ((has (set_of used) v || is_listed at lists v) && not (is_left_out exceptions v)) || is_asserted exceptions v

-- Exactly such payloads are served, but for those of length 0 if these are left out.
pub record HasServed (points : Points) (lists : List Listed) (exceptions : Option AppliedSlurms) (leaves : Bool) (now : CivilMoment) (t : VrpSet) : Type 0 where
  pub used : List Payload
  pub in_use : Lists used points now
  pub those : (v : Payload) → has t v ≡ (is_wanted (seconds_of now) used lists exceptions v && not (leaves && has_length_0 v))

-- some of these last seconds are before a moment
abbrev pub is_any_before : ℕ → List ℕ → Bool
is_any_before at lasts = list_any (λ last. nat_lt last at) lasts

-- What is kept of a file: the set of its export at the moment, the last second and the trust anchor of each payload, and how many of its
-- entries are not served.
pub record IsTaken (bytes : List ℕ) (now : ℕ) (expired : ℕ) (l : Listed) : Type 0 where
  pub read : ExportLasting
  pub is : IsExportLasting bytes now read
  pub set_is : l.set ≡ read.export.set
  pub lasts_are : l.lasts.items ≡ read.lasts.items
  pub built_is : l.built ≡ read.export.built
  pub expired_is : expired ≡ read.export.expired
  pub counted : ExportCounted
  pub is_counted : IsExportCounted bytes now counted
  pub ignored_is : l.ignored ≡ counted.ignored
  pub is_anchored : IsExportAnchored bytes now counted
  pub is_read : counted.lasting ≡ read
  pub anchors_are : l.anchors ≡ counted.anchors

-- Nothing of a file is left out.
abbrev pub none_ignored : Ignored
none_ignored = record { aspas = 0; router_keys = 0 }

-- What is kept of a canonical cache representation: its VRPs, which count until it is older than the maximum age. If it is already, none is kept, and all
-- have expired.
pub record IsTakenCcr (max_age : Option ℕ) (bytes : List ℕ) (now : ℕ) (expired : ℕ) (l : Listed) : Type 0 where
  pub age : ℕ
  pub age_is : max_age ≡ Some age
  pub made : ℕ
  pub vrps : Vrps
  pub says : Says bytes made vrps
  pub set_is : l.set ≡ cond (nat_le now (last_of made age)) (set_of vrps.0) empty
  pub lasts_are : l.lasts.items ≡ replicate (size l.set) (last_of made age)
  pub expired_is : expired ≡ cond (nat_le now (last_of made age)) 0 (size (set_of vrps.0))
  pub built_is : l.built ≡ Some made
  pub ignored_is : l.ignored ≡ none_ignored
  pub anchors_are : HasNoAnchors l.anchors

-- What is kept of the content of a file. If it begins as a canonical cache representation does, it is one. Otherwise it is an export.
abbrev pub IsLoaded : Option ℕ → List ℕ → ℕ → ℕ → Listed → Type 0
IsLoaded max_age bytes now expired l =
    ((begins_as_ccr bytes ≡ false) × IsTaken bytes now expired l) ⊎ ((begins_as_ccr bytes ≡ true) × IsTakenCcr max_age bytes now expired l)

-- Why the content of a file is not read.
abbrev pub IsUnread : Option ℕ → List ℕ → ℕ → TakeFault → Type 0
IsUnread max_age bytes now (Export fault) = (begins_as_ccr bytes ≡ false) × HasFault bytes now fault
IsUnread max_age bytes now (Ccr fault) = (begins_as_ccr bytes ≡ true) × IsCcrRefused max_age bytes fault
IsUnread max_age bytes now fault = ⊥

-- Why the content of a file is refused: there is no such file, or it is not read.
abbrev pub IsRefused : Option ℕ → List ℕ → ℕ → ℕ → List Listed → TakeFault → Type 0
IsRefused max_age bytes now i lists NoSuchFile = length lists ≤ i
IsRefused max_age bytes now i lists fault = (i < length lists) × IsUnread max_age bytes now fault

-- The content of a file is replaced as a whole, or nothing changes.
abbrev pub TakesExport : Option ℕ → List ℕ → ℕ → ℕ → Result ℕ TakeFault → List Listed → List Listed → Type 0
TakesExport max_age bytes now i (Ok expired) old new = (i < length old) × ((l : Listed) × IsLoaded max_age bytes now expired l × (new ≡ slice_set old i l))
TakesExport max_age bytes now i (Err fault) old new = IsRefused max_age bytes now i old fault × (new ≡ old)

-- Of files of these scopes, these exceptions are applied, and the entries on BGPsec of each file are counted.
pub record AreApplied (ss : List Scoped) (e : AppliedSlurms) : Type 0 where
  pub united : Unites ss (Ok (exceptions_of e.slurm))
  pub counted : e.ignored.items ≡ map ignored_of ss

-- Local exceptions are replaced as a whole, or nothing changes.
abbrev pub TakesSlurm : List ℕ → Result (Unit {0}) SlurmFault → Option AppliedSlurms → Option AppliedSlurms → Type 0
TakesSlurm bytes (Ok u) old new = (e : AppliedSlurms) × (s : Scoped) × ReadsScoped bytes (Ok s) × AreApplied (s ∷ []) e × (new ≡ Some e)
TakesSlurm bytes (Err fault) old new = (fault ≡ Memory ⊎ ReadsSlurm bytes (Err fault)) × (new ≡ old)

-- Each of these files is read, and has this scope.
abbrev pub AllRead : List (List ℕ) → List Scoped → Type 0
AllRead [] [] = ⊤
AllRead (b ∷ bs) (s ∷ ss) = ReadsScoped b (Ok s) × AllRead bs ss
AllRead [] (s ∷ ss) = ⊥
AllRead (b ∷ bs) [] = ⊥

-- The file of this index cannot be read, and each before it is read.
pub record FirstFault (files : List (List ℕ)) (index : ℕ) (fault : SlurmFault) : Type 0 where
  pub scopes : List Scoped
  pub before : AllRead (take index files) scopes
  pub bytes : List ℕ
  pub bytes_are : slice_get files index ≡ Some bytes
  pub reason : fault ≡ Memory ⊎ ReadsSlurm bytes (Err fault)

-- The files are all read, and what they are as one becomes the exceptions. Without a file there are none.
abbrev pub AreUnited : List (List ℕ) → Option AppliedSlurms → Type 0
AreUnited [] new = new ≡ None
AreUnited (b ∷ bs) new = (e : AppliedSlurms) × (ss : List Scoped) × AllRead (b ∷ bs) ss × AreApplied ss e × (new ≡ Some e)

-- Why the files are refused: one of them cannot be read, or they are all read and cannot be united, or memory ran out.
abbrev pub AreRefused : List (List ℕ) → SlurmSetFault → Type 0
AreRefused files (File index fault) = FirstFault files index fault
AreRefused files (Unite fault) = (fault ≡ unite.Memory) ⊎ ((ss : List Scoped) × AllRead files ss × Unites ss (Err fault))

-- Local exceptions of several files are replaced as a whole, or nothing changes (RFC 8416 section 4.2).
abbrev pub TakesSlurms : List (List ℕ) → Result (Unit {0}) SlurmSetFault → Option AppliedSlurms → Option AppliedSlurms → Type 0
TakesSlurms files (Ok u) old new = AreUnited files new
TakesSlurms files (Err fault) old new = AreRefused files fault × (new ≡ old)

-- No export of a file was read yet ..
pub record IsNothing (l : Listed) : Type 0 where
  pub set : l.set ≡ empty
  pub lasts : l.lasts.items ≡ []
  pub built : l.built ≡ None
  pub ignored : l.ignored ≡ none_ignored
  pub anchors : HasNoAnchors l.anchors

-- .. nor of any of these files.
abbrev pub NoneTaken : ℕ → List Listed → Type 0
NoneTaken n lists = (length lists ≡ n) × All IsNothing lists

-- how many payloads of a file counted when it was read and do not count at the moment
abbrev pub expired_of : ℕ → Option Listed → ℕ
expired_of now None = 0
expired_of now (Some l) = count_by (λ last. nat_lt last now) l.lasts.items

-- how many payloads of a file counted when it was read
abbrev pub records_of : Option Listed → ℕ
records_of None = 0
records_of (Some l) = size l.set

-- A record of a file has its last second at the first of these seconds or later, and before the second one.
abbrev pub ends_between : ℕ → ℕ → Option Listed → Bool
ends_between from to None = false
ends_between from to (Some l) = list_any (λ last. nat_le from last && nat_lt last to) l.lasts.items

-- when the export of a file was made
abbrev pub built_at : Option Listed → Option ℕ
built_at None = None
built_at (Some l) = l.built

-- how many elements of the export of a file are not served
abbrev pub ignored_at : Option Listed → Ignored
ignored_at None = none_ignored
ignored_at (Some l) = l.ignored

-- the names of a file's trust anchors
abbrev pub anchors_at : Option Listed → List (List ℕ)
anchors_at None = []
anchors_at (Some l) = map string_bytes l.anchors.names.items

-- For each of these names this many payloads of the file count at a moment and have it.
abbrev pub AreLeftOf : ℕ → Option Listed → List ℕ → Type 0
AreLeftOf now None counts = counts ≡ []
AreLeftOf now (Some l) counts = AreLeft now (length l.anchors.names.items) l.lasts.items l.anchors.of_each.items counts

-- how many entries of a file of local exceptions are not applied
abbrev pub ignored_exceptions : Option AppliedSlurms → ℕ → IgnoredExceptions
ignored_exceptions None i = record { bgpsec_filters = 0; bgpsec_assertions = 0 }
ignored_exceptions (Some e) i = unwrap_or (slice_get e.ignored.items i) (record { bgpsec_filters = 0; bgpsec_assertions = 0 })

-- A second is before the end. Without an end each second is.
abbrev pub is_before_end : Option ℕ → ℕ → Bool
is_before_end None at = true
is_before_end (Some end) at = nat_lt at end

-- At each second before the end the whole set counts, and none of it at the end or later (RFC 8210 section 6). A payload that counted at the
-- first second counts, or has expired.
pub record CountsUntil (set : VrpSet) (end : Option ℕ) (l : Listed) : Type 0 where
  pub counts : (at : ℕ) → at < 2 ^ 64 → counting_at at l ≡ cond (is_before_end end at) set empty
  pub expired : (at : ℕ) → at < 2 ^ 64 → size (counting_at at l) + expired_of at (Some l) ≡ size (counting_at 0 l)
  pub built_is : l.built ≡ None
  pub ignored_is : l.ignored ≡ none_ignored
  pub anchors_are : HasNoAnchors l.anchors

-- A list is replaced by a set as a whole, or nothing changes.
abbrev pub TakesSet : VrpSet → Option ℕ → ℕ → Result (Unit {0}) TakeSetFault → List Listed → List Listed → Type 0
TakesSet s end i (Ok u) old new = (i < length old) × ((l : Listed) × CountsUntil s end l × (new ≡ slice_set old i l))
TakesSet s end i (Err set.NoSuchList) old new = (length old ≤ i) × (new ≡ old)
TakesSet s end i (Err set.Memory) old new = (i < length old) × (new ≡ old)

-- A list is emptied, if there is one of this number.
abbrev pub DropsSet : ℕ → Bool → List Listed → List Listed → Type 0
DropsSet i true old new = (i < length old) × ((l : Listed) × IsNothing l × (new ≡ slice_set old i l))
DropsSet i false old new = (length old ≤ i) × (new ≡ old)

-- what these sources have at a moment
abbrev pub ServesAt : Sources → CivilMoment → VrpSet → Type 0
ServesAt s now t = IsServed s.repository s.lists.items s.exceptions s.leaves_out now t

-- What is left out, and the maximum age, are unchanged.
pub record SameSettings (old new : Sources) : Type 0 where
  pub leaves_out : new.leaves_out ≡ old.leaves_out
  pub max_age : new.max_age ≡ old.max_age

-- What the sources keep of the content of a file, of a set, and of local exceptions
abbrev pub ExportTaken : List ℕ → ℕ → ℕ → Result ℕ TakeFault → Sources → Sources → Type 0
ExportTaken bytes now i result old new =
    TakesExport old.max_age bytes now i result old.lists.items new.lists.items × (new.exceptions ≡ old.exceptions) × (new.repository ≡ old.repository) × SameSettings old new

abbrev pub SetTaken : VrpSet → Option ℕ → ℕ → Result (Unit {0}) TakeSetFault → Sources → Sources → Type 0
SetTaken s end i result old new =
    TakesSet s end i result old.lists.items new.lists.items × (new.exceptions ≡ old.exceptions) × (new.repository ≡ old.repository) × SameSettings old new

abbrev pub SetDropped : ℕ → Bool → Sources → Sources → Type 0
SetDropped i result old new =
    DropsSet i result old.lists.items new.lists.items × (new.exceptions ≡ old.exceptions) × (new.repository ≡ old.repository) × SameSettings old new

abbrev pub SlurmTaken : List ℕ → Result (Unit {0}) SlurmFault → Sources → Sources → Type 0
SlurmTaken bytes result old new =
    TakesSlurm bytes result old.exceptions new.exceptions × (new.lists ≡ old.lists) × (new.repository ≡ old.repository) × SameSettings old new

abbrev pub SlurmsTaken : List (List ℕ) → Result (Unit {0}) SlurmSetFault → Sources → Sources → Type 0
SlurmsTaken files result old new =
    TakesSlurms files result old.exceptions new.exceptions × (new.lists ≡ old.lists) × (new.repository ≡ old.repository) × SameSettings old new
