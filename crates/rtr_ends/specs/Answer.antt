-- What a cache answers (RFC 8210 sections 5, 8 and 12).
use Rattle.std.specs.Prelude.{ℕ, Bool, true, false, ◌==◌, List, [], ◌∷◌, ◌++◌, take, map, Option, Some, None, if◌then◌else◌}
use Rattle.std.specs.List.{flat_map}
use Rattle.vrps.specs.Change.{between}
use Rattle.vrps.specs.Instance.{Instance, NumberedSet, versions, with_serial}
use Rattle.vrps.specs.VrpSet.{VrpSet, listing}
use Rattle.rtr_pdu.specs.declared.version.Version.{Version}
use Rattle.rtr_pdu.specs.declared.version.Version.TheVariants.{V0, V1}
use Rattle.rtr_pdu.specs.Code.{CORRUPT_DATA, NO_DATA_AVAILABLE, INVALID_REQUEST}
use Rattle.rtr_pdu.specs.Unit.{REPORT_ROOM, unit_bytes}
use Rattle.rtr_pdu.specs.declared.unit.Unit.{Unit}
use Rattle.rtr_pdu.specs.declared.unit.Unit.TheVariants.{SerialQuery, ResetQuery, CacheResponse, Prefix, EndOfData, EndOfData0, CacheReset, ErrorReport}
use Rattle.rtr_ends.specs.Timing.{Intervals}

-- The session of a cache in a version of the protocol
abbrev pub session_in : Version → Instance → ℕ
session_in V0 i = i.session0
session_in V1 i = i.session

-- What a cache sends, and whether the connection continues after it
pub record Reply : Type 0 where
  pub units : List Unit
  pub goes_on : Bool

abbrev pub and_on : List Unit → Reply
and_on units = record { units = units; goes_on = true }

abbrev pub and_end : List Unit → Reply
and_end units = record { units = units; goes_on = false }

-- A PDU as it is sent in a version of the protocol
abbrev pub sent : Version → Unit → List ℕ
sent version u = unit_bytes version u

-- the bytes of PDUs, one after the other
abbrev pub sent_all : Version → List Unit → List ℕ
sent_all version units = flat_map (sent version) units

-- An Error Report with an empty text. What does not fit is left out of the copy (RFC 8210 section 5.11).
abbrev pub report : ℕ → List ℕ → Unit
report code copy = ErrorReport (record { code = code; copy = take REPORT_ROOM copy; text = [] })

abbrev pub announcements : VrpSet → List Unit
announcements s = map (λ v. Prefix true v) (listing s)

abbrev pub withdrawals : VrpSet → List Unit
withdrawals s = map (λ v. Prefix false v) (listing s)

-- The End of Data of an answer in a version of the protocol: in version 1 it carries the intervals (RFC 6810 section 5.8, RFC 8210 section 5.8).
abbrev pub end_of_data : Version → ℕ → ℕ → Intervals → Unit
end_of_data V0 session serial t = EndOfData0 session serial
end_of_data V1 session serial t = EndOfData session serial t.refresh t.retry t.expire

-- Cache Response, these records, and End of Data of this set (RFC 8210 section 8.1)
abbrev pub response : Version → ℕ → Intervals → NumberedSet → List Unit → List Unit
response version session t now records = CacheResponse session ∷ records ++ end_of_data version session now.serial t ∷ []

-- To a Reset Query: all of the current version (RFC 8210 section 8.1). If nothing is published: No Data Available (RFC 8210 section 8.4).
abbrev pub whole_answer : Version → ℕ → Intervals → List NumberedSet → List Unit
whole_answer version session t [] = report NO_DATA_AVAILABLE (sent version ResetQuery) ∷ []
whole_answer version session t (now ∷ older) = response version session t now (announcements now.set)

-- What leads from a version that is kept to the current one, withdrawals first (RFC 8210 section 8.2), or a Cache Reset (RFC 8210 section 8.3)
abbrev pub step_answer : Version → ℕ → Intervals → NumberedSet → Option NumberedSet → List Unit
step_answer version session t now None = CacheReset ∷ []
step_answer version session t now (Some before) =
    let change = between before.set now.set in
    response version session t now (withdrawals change.withdraw ++ announcements change.announce)

-- To a Serial Query of this session: the newest version of that serial among the current one and the keep versions before it
abbrev pub serial_answer : Version → ℕ → ℕ → Intervals → ℕ → List NumberedSet → List Unit
serial_answer version session keep t serial [] = report NO_DATA_AVAILABLE (sent version (SerialQuery session serial)) ∷ []
serial_answer version session keep t serial (now ∷ older) = step_answer version session t now (with_serial serial (now ∷ take keep older))

-- The answer to a PDU in a version of the protocol, as the cache was when the PDU was read. Another session than the cache's: Corrupt Data; an Error
-- Report: nothing; another PDU: Invalid Request. After these three the connection ends.
abbrev pub answer : Version → Instance → ℕ → Intervals → Unit → Reply
answer version i keep t ResetQuery = and_on (whole_answer version (session_in version i) t (versions i))
answer version i keep t (SerialQuery session serial) =
    if session == session_in version i then and_on (serial_answer version (session_in version i) keep t serial (versions i))
    else and_end (report CORRUPT_DATA (sent version (SerialQuery session serial)) ∷ [])
answer version i keep t (ErrorReport r) = and_end []
answer version i keep t u = and_end (report INVALID_REQUEST (sent version u) ∷ [])
