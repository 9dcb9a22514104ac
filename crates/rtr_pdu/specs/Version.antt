-- The versions of the protocol (RFC 6810; RFC 8210 section 7).
use Rattle.std.specs.Prelude.{ℕ, zero, Bool, true, false, nat_lt, List, ◌∷◌, length, Option, Some, None, if◌then◌else◌}
use Rattle.rtr_pdu.specs.declared.version.Version.{Version}
use Rattle.rtr_pdu.specs.declared.version.Version.TheVariants.{V0, V1}

-- The number of a version in a header
abbrev pub version_number : Version → ℕ
version_number V0 = 0
version_number V1 = 1

abbrev pub is_v0 : Version → Bool
is_v0 V0 = true
is_v0 V1 = false

-- The version of bytes that begin with a header. What shows neither 0 nor 1 is judged as of version 1.
abbrev pub first_version : List ℕ → Version
first_version (zero ∷ bytes) = V0
first_version bytes = V1

-- The version of bytes: the expected one, if any, otherwise that of their first header
abbrev pub version_in : Option Version → List ℕ → Version
version_in (Some version) bytes = version
version_in None bytes = first_version bytes

-- The version that is known if these bytes are held: the one that is expected already, or that of a header that has come whole
abbrev pub header_version : Option Version → List ℕ → Option Version
header_version (Some version) held = Some version
header_version None held = if nat_lt (length held) 8 then None else Some (first_version held)
