-- PDUs, faults and readings of single headers, worked out.
use Rattle.std.specs.Prelude.{◌≡◌, ℕ, Bool, true, false, List, [], ◌∷◌, take, Some, None, refl}
use Rattle.prefixes.specs.Payload.{Payload}
use Rattle.prefixes.specs.declared.prefix.IpPrefix.TheVariants.{V4, V6}
use Rattle.rtr_pdu.specs.declared.version.Version.TheVariants.{V0, V1}
use Rattle.rtr_pdu.specs.declared.unit.Unit.TheVariants.{SerialNotify, SerialQuery, ResetQuery, CacheResponse, Prefix, EndOfData, EndOfData0, CacheReset, RouterKey, ErrorReport}
use Rattle.rtr_pdu.specs.declared.unit.UnitFault.TheVariants as faults
use Rattle.rtr_pdu.specs.Unit.{fits, unit_bytes}
use Rattle.rtr_pdu.specs.Stream.{as_read, end_fault, header_fault}
use Rattle.rtr_pdu.specs.Reader.{Reader, after_agreed}
use Rattle.rtr_pdu.specs.Fault.{fault_number, read_fault_number}
use Rattle.rtr_pdu.specs.declared.device.ReadFault.TheVariants as read_faults
use Rattle.rtr_pdu.specs.Version.{header_version, version_in}

-- a Serial Notify of session 0x1234 and serial number 5
abbrev serial_notify : List ℕ
serial_notify = 0x01 ∷ 0x00 ∷ 0x12 ∷ 0x34 ∷ 0x00 ∷ 0x00 ∷ 0x00 ∷ 0x0c ∷ 0x00 ∷ 0x00 ∷ 0x00 ∷ 0x05 ∷ []

-- a Reset Query
abbrev reset_query : List ℕ
reset_query = 0x01 ∷ 0x02 ∷ 0x00 ∷ 0x00 ∷ 0x00 ∷ 0x00 ∷ 0x00 ∷ 0x08 ∷ []

-- 192.0.2.0/24 up to 24 of AS 64496
abbrev documented_v4 : Payload
documented_v4 = record { prefix = V4 (record { addr = 0xc0000200; len = 24 }); max_len = 24; asn = 64496 }

-- 2001:db8::/32 up to 48 of AS 64496
abbrev documented_v6 : Payload
documented_v6 = record { prefix = V6 (record { addr = 0x20010db8000000000000000000000000; len = 32 }); max_len = 48; asn = 64496 }

-- the bytes of PDUs
row_serial_notify : unit_bytes V1 (SerialNotify 0x1234 5) ≡ serial_notify
row_serial_notify = refl

-- a Serial Query
row_serial_query : unit_bytes V1 (SerialQuery 0x1234 5) ≡ 0x01 ∷ 0x01 ∷ 0x12 ∷ 0x34 ∷ 0x00 ∷ 0x00 ∷ 0x00 ∷ 0x0c ∷ 0x00 ∷ 0x00 ∷ 0x00 ∷ 0x05 ∷ []
row_serial_query = refl

-- a Reset Query
row_reset_query : unit_bytes V1 ResetQuery ≡ reset_query
row_reset_query = refl

-- a Cache Response
row_cache_response : unit_bytes V1 (CacheResponse 0x1234) ≡ 0x01 ∷ 0x03 ∷ 0x12 ∷ 0x34 ∷ 0x00 ∷ 0x00 ∷ 0x00 ∷ 0x08 ∷ []
row_cache_response = refl

-- an announcement of IPv4
row_v4 : unit_bytes V1 (Prefix true documented_v4)
    ≡ 0x01 ∷ 0x04 ∷ 0x00 ∷ 0x00 ∷ 0x00 ∷ 0x00 ∷ 0x00 ∷ 0x14 ∷ 0x01 ∷ 0x18 ∷ 0x18 ∷ 0x00 ∷ 0xc0 ∷ 0x00 ∷ 0x02 ∷ 0x00 ∷ 0x00 ∷ 0x00 ∷ 0xfb ∷ 0xf0 ∷ []
row_v4 = refl

-- a withdrawal differs in the flag
row_withdrawal : unit_bytes V1 (Prefix false documented_v4)
    ≡ 0x01 ∷ 0x04 ∷ 0x00 ∷ 0x00 ∷ 0x00 ∷ 0x00 ∷ 0x00 ∷ 0x14 ∷ 0x00 ∷ 0x18 ∷ 0x18 ∷ 0x00 ∷ 0xc0 ∷ 0x00 ∷ 0x02 ∷ 0x00 ∷ 0x00 ∷ 0x00 ∷ 0xfb ∷ 0xf0 ∷ []
row_withdrawal = refl

-- an announcement of IPv6
row_v6 : unit_bytes V1 (Prefix true documented_v6)
    ≡ 0x01 ∷ 0x06 ∷ 0x00 ∷ 0x00 ∷ 0x00 ∷ 0x00 ∷ 0x00 ∷ 0x20 ∷ 0x01 ∷ 0x20 ∷ 0x30 ∷ 0x00
    ∷ 0x20 ∷ 0x01 ∷ 0x0d ∷ 0xb8 ∷ 0x00 ∷ 0x00 ∷ 0x00 ∷ 0x00 ∷ 0x00 ∷ 0x00 ∷ 0x00 ∷ 0x00 ∷ 0x00 ∷ 0x00 ∷ 0x00 ∷ 0x00 ∷ 0x00 ∷ 0x00 ∷ 0xfb ∷ 0xf0 ∷ []
row_v6 = refl

-- End of Data: ask again after an hour, after a failure in ten minutes, and drop the data after two hours
row_end_of_data : unit_bytes V1 (EndOfData 0x1234 5 3600 600 7200)
    ≡ 0x01 ∷ 0x07 ∷ 0x12 ∷ 0x34 ∷ 0x00 ∷ 0x00 ∷ 0x00 ∷ 0x18 ∷ 0x00 ∷ 0x00 ∷ 0x00 ∷ 0x05
    ∷ 0x00 ∷ 0x00 ∷ 0x0e ∷ 0x10 ∷ 0x00 ∷ 0x00 ∷ 0x02 ∷ 0x58 ∷ 0x00 ∷ 0x00 ∷ 0x1c ∷ 0x20 ∷ []
row_end_of_data = refl

-- in version 0 it carries no intervals, and has 12 bytes
row_end_of_data_0 : unit_bytes V0 (EndOfData0 0x777 5) ≡ 0x00 ∷ 0x07 ∷ 0x07 ∷ 0x77 ∷ 0x00 ∷ 0x00 ∷ 0x00 ∷ 0x0c ∷ 0x00 ∷ 0x00 ∷ 0x00 ∷ 0x05 ∷ []
row_end_of_data_0 = refl

-- all else differs in the version alone
row_v4_0 : unit_bytes V0 (Prefix true documented_v4)
    ≡ 0x00 ∷ 0x04 ∷ 0x00 ∷ 0x00 ∷ 0x00 ∷ 0x00 ∷ 0x00 ∷ 0x14 ∷ 0x01 ∷ 0x18 ∷ 0x18 ∷ 0x00 ∷ 0xc0 ∷ 0x00 ∷ 0x02 ∷ 0x00 ∷ 0x00 ∷ 0x00 ∷ 0xfb ∷ 0xf0 ∷ []
row_v4_0 = refl

-- an Error Report of version 0, with the Serial Query that it answers
row_error_report_0 : unit_bytes V0 (ErrorReport (record { code = 0; copy = unit_bytes V0 (SerialQuery 0x1234 5); text = [] }))
    ≡ 0x00 ∷ 0x0a ∷ 0x00 ∷ 0x00 ∷ 0x00 ∷ 0x00 ∷ 0x00 ∷ 0x1c ∷ 0x00 ∷ 0x00 ∷ 0x00 ∷ 0x0c
    ∷ 0x00 ∷ 0x01 ∷ 0x12 ∷ 0x34 ∷ 0x00 ∷ 0x00 ∷ 0x00 ∷ 0x0c ∷ 0x00 ∷ 0x00 ∷ 0x00 ∷ 0x05 ∷ 0x00 ∷ 0x00 ∷ 0x00 ∷ 0x00 ∷ []
row_error_report_0 = refl

-- which PDUs there are in a version
row_fits : (fits V0 (EndOfData 0x1234 5 3600 600 7200) ≡ false) × (fits V1 (EndOfData0 0x1234 5) ≡ false) × (fits V0 (EndOfData0 0x1234 5) ≡ true) × (fits V0 CacheReset ≡ true)
row_fits = (refl, refl, refl, refl)

-- a Cache Reset
row_cache_reset : unit_bytes V1 CacheReset ≡ 0x01 ∷ 0x08 ∷ 0x00 ∷ 0x00 ∷ 0x00 ∷ 0x00 ∷ 0x00 ∷ 0x08 ∷ []
row_cache_reset = refl

-- No Data Available (2), with the Reset Query that it answers and no text
row_error_report : unit_bytes V1 (ErrorReport (record { code = 2; copy = reset_query; text = [] }))
    ≡ 0x01 ∷ 0x0a ∷ 0x00 ∷ 0x02 ∷ 0x00 ∷ 0x00 ∷ 0x00 ∷ 0x18 ∷ 0x00 ∷ 0x00 ∷ 0x00 ∷ 0x08
    ∷ 0x01 ∷ 0x02 ∷ 0x00 ∷ 0x00 ∷ 0x00 ∷ 0x00 ∷ 0x00 ∷ 0x08 ∷ 0x00 ∷ 0x00 ∷ 0x00 ∷ 0x00 ∷ []
row_error_report = refl

-- a Router Key with an info of two bytes
row_router_key : unit_bytes V1 (RouterKey (record { announce = true; identifier = 1 ∷ 2 ∷ 3 ∷ 4 ∷ 5 ∷ 6 ∷ 7 ∷ 8 ∷ 9 ∷ 10 ∷ 11 ∷ 12 ∷ 13 ∷ 14 ∷ 15 ∷ 16 ∷ 17 ∷ 18 ∷ 19 ∷ 20 ∷ []; asn = 64496; info = 0x30 ∷ 0x59 ∷ [] }))
    ≡ 0x01 ∷ 0x09 ∷ 0x01 ∷ 0x00 ∷ 0x00 ∷ 0x00 ∷ 0x00 ∷ 0x22
    ∷ 1 ∷ 2 ∷ 3 ∷ 4 ∷ 5 ∷ 6 ∷ 7 ∷ 8 ∷ 9 ∷ 10 ∷ 11 ∷ 12 ∷ 13 ∷ 14 ∷ 15 ∷ 16 ∷ 17 ∷ 18 ∷ 19 ∷ 20 ∷ 0x00 ∷ 0x00 ∷ 0xfb ∷ 0xf0 ∷ 0x30 ∷ 0x59 ∷ []
row_router_key = refl

-- the faults of headers
row_version : header_fault V1 (0x00 ∷ 0x02 ∷ 0x00 ∷ 0x00 ∷ 0x00 ∷ 0x00 ∷ 0x00 ∷ 0x08 ∷ []) ≡ Some faults.Version
row_version = refl

-- in version 0 it is version 1 that is not expected, an End of Data has 12 bytes, and there are no Router Keys
row_version_0 : (header_fault V0 reset_query ≡ Some faults.Version)
    × (header_fault V0 (0x00 ∷ 0x07 ∷ 0x00 ∷ 0x00 ∷ 0x00 ∷ 0x00 ∷ 0x00 ∷ 0x18 ∷ []) ≡ Some faults.Length)
    × (header_fault V0 (0x00 ∷ 0x07 ∷ 0x00 ∷ 0x00 ∷ 0x00 ∷ 0x00 ∷ 0x00 ∷ 0x0c ∷ []) ≡ None)
    × (header_fault V1 (0x01 ∷ 0x07 ∷ 0x00 ∷ 0x00 ∷ 0x00 ∷ 0x00 ∷ 0x00 ∷ 0x0c ∷ []) ≡ Some faults.Length)
    × (header_fault V0 (0x00 ∷ 0x09 ∷ 0x00 ∷ 0x00 ∷ 0x00 ∷ 0x00 ∷ 0x00 ∷ 0x22 ∷ []) ≡ Some faults.«Type»)
row_version_0 = (refl, refl, refl, refl, refl)

-- the version of a first header
row_first : (version_in None (0x00 ∷ 0x02 ∷ []) ≡ V0) × (version_in None (0x01 ∷ []) ≡ V1) × (version_in None (0x02 ∷ []) ≡ V1) × (version_in (Some V0) (0x01 ∷ []) ≡ V0)
row_first = (refl, refl, refl, refl)

-- there is no type 5, and none above 10
row_types : (header_fault V1 (0x01 ∷ 0x05 ∷ 0x00 ∷ 0x00 ∷ 0x00 ∷ 0x00 ∷ 0x00 ∷ 0x08 ∷ []) ≡ Some faults.«Type»)
    × (header_fault V1 (0x01 ∷ 0x0b ∷ 0x00 ∷ 0x00 ∷ 0x00 ∷ 0x00 ∷ 0x00 ∷ 0x08 ∷ []) ≡ Some faults.«Type»)
row_types = (refl, refl)

-- an IPv4 Prefix has 20 bytes, whatever it says
row_fixed_length : header_fault V1 (0x01 ∷ 0x04 ∷ 0x00 ∷ 0x00 ∷ 0xff ∷ 0xff ∷ 0xff ∷ 0xff ∷ []) ≡ Some faults.Length
row_fixed_length = refl

-- an Error Report has 16 bytes or more
row_report_lengths : (header_fault V1 (0x01 ∷ 0x0a ∷ 0x00 ∷ 0x00 ∷ 0x00 ∷ 0x00 ∷ 0x00 ∷ 0x0f ∷ []) ≡ Some faults.Length)
    × (header_fault V1 (0x01 ∷ 0x0a ∷ 0x00 ∷ 0x00 ∷ 0x00 ∷ 0x00 ∷ 0x00 ∷ 0x10 ∷ []) ≡ None)
row_report_lengths = (refl, refl)

-- a Router Key has 32 bytes or more, and no PDU more than 4,096
row_key_lengths : (header_fault V1 (0x01 ∷ 0x09 ∷ 0x00 ∷ 0x00 ∷ 0x00 ∷ 0x00 ∷ 0x00 ∷ 0x1f ∷ []) ≡ Some faults.Length)
    × (header_fault V1 (0x01 ∷ 0x09 ∷ 0x00 ∷ 0x00 ∷ 0x00 ∷ 0x00 ∷ 0x10 ∷ 0x00 ∷ []) ≡ None)
    × (header_fault V1 (0x01 ∷ 0x09 ∷ 0x00 ∷ 0x00 ∷ 0x00 ∷ 0x00 ∷ 0x10 ∷ 0x01 ∷ []) ≡ Some faults.TooLong)
row_key_lengths = (refl, refl, refl)

-- the version is judged before the type, and the type before the length
row_order : (header_fault V1 (0x02 ∷ 0x05 ∷ 0x00 ∷ 0x00 ∷ 0xff ∷ 0xff ∷ 0xff ∷ 0xff ∷ []) ≡ Some faults.Version)
    × (header_fault V1 (0x01 ∷ 0x05 ∷ 0x00 ∷ 0x00 ∷ 0xff ∷ 0xff ∷ 0xff ∷ 0xff ∷ []) ≡ Some faults.«Type»)
row_order = (refl, refl)

-- a reader at a router that holds these bytes, before agreement and after it
abbrev router_with : Bool → Bool → List ℕ → Reader
router_with any later held = record { version = Some V1; held = held; any = any; later = later; fault = None }

-- A header that has come whole when agreement is notified is still read as before; one that has not is read as after it.
row_told_in_header : after_agreed (router_with true true (take 7 serial_notify)) ≡ router_with false false (take 7 serial_notify)
row_told_in_header = refl

row_told_behind_header : after_agreed (router_with true true (take 8 serial_notify)) ≡ router_with true false (take 8 serial_notify)
row_told_behind_header = refl

-- A version is given by a header that has come whole.
row_told : (header_version None (take 7 (0x00 ∷ reset_query)) ≡ None) × (header_version None (take 8 (0x00 ∷ reset_query)) ≡ Some V0) × (header_version (Some V1) [] ≡ Some V1)
row_told = (refl, refl, refl)

-- the numbers of faults
row_numbers : (fault_number faults.Version ≡ 1) × (fault_number faults.«Type» ≡ 2) × (fault_number faults.Length ≡ 3) × (fault_number faults.TooLong ≡ 4) × (fault_number faults.Record ≡ 5)
    × (fault_number faults.ErrorReport ≡ 6) × (fault_number faults.Truncated ≡ 7) × (read_fault_number read_faults.ReadFailed ≡ 8)
row_numbers = (refl, refl, refl, refl, refl, refl, refl, refl)

-- seven bytes are no header yet
row_begun : header_fault V1 (take 7 (0x00 ∷ reset_query)) ≡ None
row_begun = refl

-- Before agreement a router reads a Serial Notify of any version, and nothing else.
row_any_version : as_read V1 true (0x00 ∷ 0x00 ∷ 0x12 ∷ 0x34 ∷ 0x00 ∷ 0x00 ∷ 0x00 ∷ 0x0c ∷ 0x00 ∷ 0x00 ∷ 0x00 ∷ 0x05 ∷ []) ≡ serial_notify
unfolding as_read
row_any_version = refl

-- after agreement bytes are read as they are
row_agreed : as_read V1 false (0x00 ∷ 0x00 ∷ 0x12 ∷ 0x34 ∷ 0x00 ∷ 0x00 ∷ 0x00 ∷ 0x0c ∷ []) ≡ 0x00 ∷ 0x00 ∷ 0x12 ∷ 0x34 ∷ 0x00 ∷ 0x00 ∷ 0x00 ∷ 0x0c ∷ []
unfolding as_read
row_agreed = refl

-- another length is no notify
row_other_length : as_read V1 true (0x00 ∷ 0x00 ∷ 0x12 ∷ 0x34 ∷ 0x00 ∷ 0x00 ∷ 0x00 ∷ 0x0d ∷ []) ≡ 0x00 ∷ 0x00 ∷ 0x12 ∷ 0x34 ∷ 0x00 ∷ 0x00 ∷ 0x00 ∷ 0x0d ∷ []
unfolding as_read
row_other_length = refl

-- another type is no notify
row_other_type : as_read V1 true (0x00 ∷ 0x01 ∷ 0x12 ∷ 0x34 ∷ 0x00 ∷ 0x00 ∷ 0x00 ∷ 0x0c ∷ []) ≡ 0x00 ∷ 0x01 ∷ 0x12 ∷ 0x34 ∷ 0x00 ∷ 0x00 ∷ 0x00 ∷ 0x0c ∷ []
unfolding as_read
row_other_type = refl

-- The input ends behind a PDU, within one, and behind a fault.
row_ends : (end_fault [] None ≡ None) × (end_fault (0x01 ∷ []) None ≡ Some faults.Truncated) × (end_fault [] (Some faults.Version) ≡ Some faults.Version)
row_ends = (refl, refl, refl)
