-- What the program prints of PDUs.
use Rattle.std.specs.Prelude.{ℕ, List, [], ◌∷◌, ◌++◌, codes}
use Rattle.std.specs.List.{flat_map}
use Rattle.hex.specs.Hex.{encode_lower}
use Rattle.vrps.specs.Instance.{Instance}
use Rattle.vrps.specs.VrpSet.{VrpSet}
use Rattle.rtr_pdu.specs.declared.unit.Unit.{Unit}
use Rattle.rtr_pdu.specs.declared.version.Version.{Version}
use Rattle.rtr_ends.specs.Answer.{sent}

-- a PDU of a version as a line: its bytes in lower-case hexadecimal
abbrev pub line_of : Version → Unit → List ℕ
line_of version u = encode_lower (sent version u) ++ codes "\n"

abbrev pub lines_of : Version → List Unit → List ℕ
lines_of version units = flat_map (line_of version) units

-- the cache whose one published set is a list's, with its sessions in version 1 and in version 0
abbrev pub cache_of : ℕ → ℕ → ℕ → VrpSet → Instance
cache_of session session0 serial set = record { session = session; session0 = session0; start = serial; sets = set ∷ [] }
