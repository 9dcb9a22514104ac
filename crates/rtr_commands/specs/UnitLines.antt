-- What the program prints of PDUs that are read.
use Rattle.std.specs.Prelude.{◌≡◌, ℕ, ◌-◌, true, false, List, [], ◌∷◌, ◌++◌, length, codes, Option, Some}
use Rattle.std.specs.List.{flat_map}
use Rattle.std.specs.Fmt.{decimal}
use Rattle.std.specs.Io.KnownBytes.{Appends}
use Rattle.hex.specs.Hex.{encode_lower}
use Rattle.prefixes.specs.Payload.{Payload}
use Rattle.prefixes.specs.Text.{written_text}
use Rattle.rtr_pdu.specs.Version.{first_version}
use Rattle.rtr_pdu.specs.Fault.{fault_number}
use Rattle.rtr_pdu.specs.Stream.{Splits, end_fault}
use Rattle.rtr_pdu.specs.declared.unit.Unit.{Unit}
use Rattle.rtr_pdu.specs.declared.unit.Unit.TheVariants.{SerialNotify, SerialQuery, ResetQuery, CacheResponse, Prefix, EndOfData, EndOfData0, CacheReset, RouterKey, ErrorReport}
use Rattle.rtr_pdu.specs.declared.unit.UnitFault.{UnitFault}
use Rattle.rtr_commands.specs.declared.unit_lines.UnitsEnd.{UnitsEnd}
use Rattle.rtr_commands.specs.declared.unit_lines.UnitsEnd.TheVariants.{Whole, Refused}

-- a blank and a number
abbrev pub number_text : ℕ → List ℕ
number_text n = codes " " ++ decimal n

-- the copy in an Error Report in hexadecimal, `-` if it is empty
unfoldable pub copy_text : List ℕ → List ℕ
copy_text [] = codes "-"
copy_text (b ∷ bytes) = encode_lower (b ∷ bytes)

-- the prefix, the maximum length and the AS of a payload
abbrev pub payload_text : Payload → List ℕ
payload_text v = codes " " ++ written_text v.prefix ++ number_text v.max_len ++ number_text v.asn

-- the code in an Error Report, and the copy
abbrev pub report_line : ℕ → List ℕ → List ℕ
report_line code copy = codes "error-report " ++ decimal code ++ codes " " ++ copy_text copy ++ codes "\n"

-- the name of a PDU, and its fields in their order
unfoldable pub unit_line : Unit → List ℕ
unit_line (SerialNotify session serial) = codes "serial-notify" ++ number_text session ++ number_text serial ++ codes "\n"
unit_line (SerialQuery session serial) = codes "serial-query" ++ number_text session ++ number_text serial ++ codes "\n"
unit_line ResetQuery = codes "reset-query\n"
unit_line (CacheResponse session) = codes "cache-response" ++ number_text session ++ codes "\n"
unit_line (Prefix true vrp) = codes "announce" ++ payload_text vrp ++ codes "\n"
unit_line (Prefix false vrp) = codes "withdraw" ++ payload_text vrp ++ codes "\n"
unit_line (EndOfData session serial refresh retry expire) =
    codes "end-of-data" ++ number_text session ++ number_text serial ++ number_text refresh ++ number_text retry ++ number_text expire ++ codes "\n"
unit_line (EndOfData0 session serial) = codes "end-of-data" ++ number_text session ++ number_text serial ++ codes "\n"
unit_line CacheReset = codes "cache-reset\n"
unit_line (RouterKey key) = codes "router-key\n"
unit_line (ErrorReport r) = report_line r.code r.copy

-- What follows the PDUs: nothing, or at this offset what shows the fault of this number, that the input ends within a PDU included
abbrev pub FollowsUnits : ℕ → List ℕ → Option UnitFault → UnitsEnd → Type 0
FollowsUnits offset rest fault Whole = rest ≡ []
FollowsUnits offset rest fault (Refused number at) = (at ≡ offset) × (shown : UnitFault) × (end_fault rest fault ≡ Some shown) × (number ≡ fault_number shown)

-- The PDUs by which the bytes are split, in the version of the first header, are printed, a line each, and this follows them.
pub record TellsUnits (bytes : List ℕ) (old new : Option (List ℕ)) (end : UnitsEnd) : Type 0 where
  pub units : List Unit
  pub rest : List ℕ
  pub fault : Option UnitFault
  pub splits : Splits (first_version bytes) false bytes units rest fault
  pub printed : Appends old new (flat_map unit_line units)
  pub follows : FollowsUnits (length bytes - length rest) rest fault end
