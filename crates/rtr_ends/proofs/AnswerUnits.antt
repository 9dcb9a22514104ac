-- What a cache sends are PDUs that can be sent.
use Rattle.rtr_ends.proofs.Words.{◌≡◌, ℕ, suc, zero, ◌+◌, ◌*◌, ◌/◌, ◌%◌, ◌<◌, ◌^◌, ◌==◌, Bool, true, false, List, [], ◌∷◌, ◌++◌, map, length, take, Option, Some, None, if◌then◌else◌, refl, subst, arith, byte_at, AllByRecursion, All, length-take, All-head, All-tail, IsUtf8-nil, min-le_left, Payload, IsPayload, IpPrefix, V4, V6, Instance, IsInstance, NumberedSet, versions, versions_from, with_serial, serial_at, VrpSet, IsVrpSet, listing, without, part_is_set, big_bytes, AreBytes, type_of, IsUnit, IsUnitOf, Unit, SerialQuery, ResetQuery, Prefix, RouterKey, ErrorReport, UnitFault, AreBytes-take, is_byte, Version, V0, V1, all_both}
use Rattle.rtr_pdu.specs.declared.unit.UnitFault.TheVariants as faults
use Rattle.rtr_ends.specs.Answer.{and_end, and_on, announcements, answer, end_of_data, report, response, sent, serial_answer, session_in, step_answer, whole_answer, withdrawals}
use Rattle.rtr_ends.specs.Connection.{Connection, IsHistory, MayCome, ConnMoment, Read, Wanting, Fault, Notify, Pull, conn_after, Sent, bytes_of, in_version, fault_code, fault_report, notice, replies_from, reply, sent_by, version_after}
use Rattle.rtr_ends.specs.Timing.{default_intervals}
use Rattle.rtr_ends.proofs.ByteLists.{bytes_front, none_bytes}

-- bytes, one behind the other
abbrev Bytes : List ℕ → Type 0
Bytes bytes = AllByRecursion (λ b. b < 256) bytes

low_rest : (x : ℕ) → x % 256 < 256
low_rest x = omega arith

low_byte : (n x : ℕ) → byte_at n x < 256
low_byte zero x = omega arith
low_byte (suc n) x = low_rest (x / 256 ^ suc n)

number : (n x : ℕ) → Bytes (big_bytes n x)
number zero x = tt
number (suc n) x = (low_byte n x, number n x)

as_bytes : (bytes : List ℕ) → Bytes bytes → AreBytes bytes
as_bytes [] h i = omega arith
as_bytes (b ∷ bytes) h zero = h.0
as_bytes (b ∷ bytes) h (suc i) = as_bytes bytes h.1 i

from_bytes : (bytes : List ℕ) → AreBytes bytes → Bytes bytes
from_bytes [] h = tt
from_bytes (b ∷ bytes) h = (h 0, from_bytes bytes (λ i. h (suc i)))

flag_low : (b : Bool) → (if b then 1 else 0) + 2 * 0 < 256
flag_low true = omega arith
flag_low false = omega arith

prefix_bytes : (version : Version) (announce : Bool) (p : IpPrefix) (max_len asn : ℕ) → IsPayload (record { prefix = p; max_len = max_len; asn = asn }) → Bytes (sent version (Prefix announce (record { prefix = p; max_len = max_len; asn = asn })))
prefix_bytes version announce (V4 p) max_len asn h =
    let low : (p.len < 256) × (max_len < 256) = (omega (arith, h.not_shorter, h.in_family), omega (arith, h.in_family)) in search (arith, low_byte, is_byte, flag_low, low.0, low.1) parts 40
prefix_bytes version announce (V6 p) max_len asn h =
    let low : (p.len < 256) × (max_len < 256) = (omega (arith, h.not_shorter, h.in_family), omega (arith, h.in_family)) in search (arith, low_byte, is_byte, flag_low, low.0, low.1) parts 40

-- an Error Report of these bytes
report_fit : (code : ℕ) (copy : List ℕ) → code < 2 ^ 16 → AreBytes copy → IsUnit (report code copy)
report_fit code copy low each = (low, omega (arith, length-take 4080 copy, min-le_left 4080 (length copy)), IsUtf8-nil, AreBytes-take 4080 copy each)

report_of : (version : Version) (code : ℕ) (u : Unit) → code < 2 ^ 16 → Bytes (sent version u) → AllByRecursion (IsUnitOf version) (report code (sent version u) ∷ [])
report_of version code u low h = ((report_fit code (sent version u) low (as_bytes (sent version u) h), refl), tt)

-- records of a set
records_fit : (version : Version) (announce : Bool) (vs : List Payload) → All IsPayload vs → AllByRecursion (IsUnitOf version) (map (λ v. Prefix announce v) vs)
records_fit version announce [] h = tt
records_fit version announce (v ∷ vs) h = ((All-head IsPayload v vs h, refl), records_fit version announce vs (All-tail IsPayload v vs h))

end_fit : (version : Version) (session serial : ℕ) → session < 2 ^ 16 → serial < 2 ^ 32 → IsUnitOf version (end_of_data version session serial default_intervals)
end_fit V0 session serial low small = ((low, small), refl)
end_fit V1 session serial low small = ((low, small, omega arith, omega arith, omega arith), refl)

response_fit : (version : Version) (session : ℕ) (now : NumberedSet) (records : List Unit) → session < 2 ^ 16 → now.serial < 2 ^ 32 → AllByRecursion (IsUnitOf version) records
    → AllByRecursion (IsUnitOf version) (response version session default_intervals now records)
response_fit version session now records low serial h =
    ((low, refl), all_both (IsUnitOf version) records (end_of_data version session now.serial default_intervals ∷ []) h (end_fit version session now.serial low serial, tt))

serial_low : (start position : ℕ) → serial_at start position < 2 ^ 32
serial_low start position = omega arith

-- versions of sets that can be published
abbrev AreVersions : List NumberedSet → Type 0
AreVersions vs = AllByRecursion (λ (v : NumberedSet). (v.serial < 2 ^ 32) × IsVrpSet v.set) vs

module _ (version : Version) (session : ℕ) (low : session < 2 ^ 16) where
  whole_fit : (vs : List NumberedSet) → AreVersions vs → AllByRecursion (IsUnitOf version) (whole_answer version session default_intervals vs)
  whole_fit [] h = report_of version 2 ResetQuery (omega arith) (search (arith, low_byte, is_byte) parts 40)
  whole_fit (now ∷ older) h = response_fit version session now (announcements now.set) low h.0.0 (records_fit version true (listing now.set) h.0.1.payloads)

  step_fit : (now : NumberedSet) (before : Option NumberedSet) → now.serial < 2 ^ 32 → IsVrpSet now.set → ((v : NumberedSet) → before ≡ Some v → IsVrpSet v.set) → AllByRecursion (IsUnitOf version) (step_answer version session default_intervals now before)
  step_fit now None serial fits older = ((tt, refl), tt)
  step_fit now (Some before) serial fits older =
      response_fit version session now (withdrawals (without before.set now.set) ++ announcements (without now.set before.set)) low serial
      (all_both (IsUnitOf version) (withdrawals (without before.set now.set)) (announcements (without now.set before.set)) (records_fit version false (listing (without before.set now.set)) (part_is_set before.set now.set (older before refl)).payloads)
      (records_fit version true (listing (without now.set before.set)) (part_is_set now.set before.set fits).payloads))

  found_fits : (serial : ℕ) (vs : List NumberedSet) → AreVersions vs → (v : NumberedSet) → with_serial serial vs ≡ Some v → IsVrpSet v.set
  found_fits serial [] h v e = absurd (let k : ◌≡◌ {A = Option NumberedSet} None (Some v) = e in cc)
  found_fits serial (x ∷ vs) h v e = by_test (x.serial == serial) e (found_fits serial vs h.1 v)
    where
      by_test : (b : Bool) → (if b then Some x else with_serial serial vs) ≡ Some v → (with_serial serial vs ≡ Some v → IsVrpSet v.set) → IsVrpSet v.set
      by_test true e later = let k : x ≡ v = cc in subst (λ (y : NumberedSet). IsVrpSet y.set) k h.0.1
      by_test false e later = later e

  taken_fits : (n : ℕ) (vs : List NumberedSet) → AreVersions vs → AreVersions (take n vs)
  taken_fits zero vs h = tt
  taken_fits (suc n) [] h = tt
  taken_fits (suc n) (v ∷ vs) h = (h.0, taken_fits n vs h.1)

  serial_fit : (keep serial : ℕ) (vs : List NumberedSet) → AreVersions vs → AllByRecursion (IsUnitOf version) (serial_answer version session keep default_intervals serial vs)
  serial_fit keep serial [] h = report_of version 2 (SerialQuery session serial) (omega arith) (search (arith, low_byte, is_byte) parts 40)
  serial_fit keep serial (now ∷ older) h = step_fit now (with_serial serial (now ∷ take keep older)) h.0.0 h.0.1 (found_fits serial (now ∷ take keep older) (h.0, taken_fits keep older h.1))

versions_fit : (start : ℕ) (sets : List VrpSet) → AllByRecursion IsVrpSet sets → AreVersions (versions_from start sets)
versions_fit start [] h = tt
versions_fit start (set ∷ older) h = ((serial_low start (length older), h.0), versions_fit start older h.1)

-- The answer to a PDU that was read
session_low : (version : Version) (i : Instance) → IsInstance i → session_in version i < 2 ^ 16
session_low V0 i is = is.session0
session_low V1 i is = is.session

answer_fit : (version : Version) (i : Instance) (keep : ℕ) (u : Unit) → IsInstance i → IsUnit u → AllByRecursion (IsUnitOf version) (answer version i keep default_intervals u).units
answer_fit version i keep ResetQuery is h = whole_fit version (session_in version i) (session_low version i is) (versions i) (versions_fit i.start i.sets is.sets)
answer_fit version i keep (SerialQuery session serial) is h = by_test (session == session_in version i)
  where
    by_test : (b : Bool) → AllByRecursion (IsUnitOf version) (if b then and_on (serial_answer version (session_in version i) keep default_intervals serial (versions i)) else and_end (report 0 (sent version (SerialQuery session serial)) ∷ [])).units
    by_test true = serial_fit version (session_in version i) (session_low version i is) keep serial (versions i) (versions_fit i.start i.sets is.sets)
    by_test false = report_of version 0 (SerialQuery session serial) (omega arith) (search (arith, low_byte, is_byte) parts 40)
answer_fit version i keep (ErrorReport r) is h = tt
answer_fit version i keep (Prefix announce v) is h = report_of version 3 (Prefix announce v) (omega arith) (prefix_bytes version announce v.prefix v.max_len v.asn h)
answer_fit version i keep (RouterKey k) is h =
    report_of version 3 (RouterKey k) (omega arith)
    (search (arith, low_byte, is_byte, flag_low, number, all_both (λ b. b < 256), from_bytes, h.3, h.4) parts 40)
answer_fit version i keep u is h = report_of version 3 u (omega arith) (search (arith, low_byte, is_byte) parts 40)

-- The report on a fault
code_low : (agreed : Option Version) (fault : UnitFault) → fault_code agreed fault < 2 ^ 16
code_low (Some V1) faults.Version = omega arith
code_low (Some V0) faults.Version = omega arith
code_low None faults.Version = omega arith
code_low agreed _ = omega arith

maybe_fit : (version : Version) (b : Bool) (code : ℕ) (copy : List ℕ) → code < 2 ^ 16 → AreBytes copy → AllByRecursion (IsUnitOf version) (if b then [] else report code copy ∷ [])
maybe_fit version true code copy low each = tt
maybe_fit version false code copy low each = ((report_fit code copy low each, refl), tt)

fault_fit : (version : Version) (agreed : Option Version) (fault : UnitFault) (bytes : List ℕ) → AreBytes bytes → AllByRecursion (IsUnitOf version) (fault_report agreed fault bytes)
fault_fit version agreed faults.Truncated bytes each = tt
fault_fit version agreed fault bytes each = maybe_fit version (type_of bytes == 10) _ bytes (code_low agreed fault) each

notice_fit : (version : Version) (session start : ℕ) (sets : List VrpSet) → session < 2 ^ 16 → AllByRecursion (IsUnitOf version) (notice session (versions_from start sets))
notice_fit version session start [] low = tt
notice_fit version session start (set ∷ older) low = (((low, serial_low start (length older)), refl), tt)

reply_fit : (keep : ℕ) (c : Connection) (coming : List ℕ) (m : ConnMoment) → MayCome c coming m → AreBytes (bytes_of m) → AllByRecursion (IsUnitOf (sent_by m)) (reply keep default_intervals c.version m).units
reply_fit keep c coming (Read version cache unit bytes) h each = answer_fit version cache keep unit h.2 h.4.1.fits
reply_fit keep c coming (Wanting version cache unit bytes) h each = ((report_fit 1 [] (omega arith) none_bytes, refl), tt)
reply_fit keep c coming (Fault version fault bytes) h each = fault_fit version c.version fault bytes each
reply_fit keep c coming (Notify version cache held) h each = notice_fit version (session_in version cache) cache.start cache.sets (session_low version cache h.2)
reply_fit keep c coming (Pull count) h each = tt

pub behind : (front rest : List ℕ) → AreBytes (front ++ rest) → AreBytes rest
behind [] rest h = h
behind (b ∷ front) rest h = behind front rest (λ k. h (suc k))

pub version_on : (keep : ℕ) (c : Connection) (m : ConnMoment) → (conn_after keep default_intervals c m).version ≡ version_after c.version m
version_on keep c (Read version cache unit bytes) = refl
version_on keep c _ = refl

-- what can be sent in its version
abbrev pub CanBeSent : Sent → Type 0
CanBeSent s = IsUnitOf s.version s.unit

each_of : (version : Version) (us : List Unit) → AllByRecursion (IsUnitOf version) us → AllByRecursion CanBeSent (in_version version us)
each_of version [] h = tt
each_of version (u ∷ us) h = (h.0, each_of version us h.1)

going_fit : (b : Bool) (us : List Sent) → AllByRecursion CanBeSent us → AllByRecursion CanBeSent (if b then us else [])
going_fit true us h = h
going_fit false us h = tt

-- The replies of a history are PDUs that can be sent.
pub replies_fit : (keep : ℕ) (c : Connection) (moments : List ConnMoment) (bytes : List ℕ) → IsHistory keep default_intervals c moments bytes → AreBytes bytes → AllByRecursion CanBeSent (replies_from keep default_intervals c.version moments)
replies_fit keep c [] bytes h each = tt
replies_fit keep c (m ∷ later) bytes h each =
    let all : AreBytes (bytes_of m ++ h.1.0) = subst AreBytes h.1.1 each in
    let more : AllByRecursion CanBeSent (replies_from keep default_intervals (version_after c.version m) later) =
    subst (λ b. AllByRecursion CanBeSent (replies_from keep default_intervals b later)) (version_on keep c m) (replies_fit keep (conn_after keep default_intervals c m) later h.1.0 h.1.2 (behind (bytes_of m) h.1.0 all)) in
    all_both CanBeSent (in_version (sent_by m) (reply keep default_intervals c.version m).units) _ (each_of (sent_by m) (reply keep default_intervals c.version m).units (reply_fit keep c bytes m h.0 (bytes_front (bytes_of m ++ h.1.0) (bytes_of m) h.1.0 refl all)))
    (going_fit (reply keep default_intervals c.version m).goes_on _ more)
