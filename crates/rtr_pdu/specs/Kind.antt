-- The types of PDUs (RFC 6810 section 5, RFC 8210 section 5): their numbers and lengths.
use Rattle.std.specs.Prelude.{ℕ, Bool, true, false, not, ◌&&◌, ◌==◌, nat_le, List, [], ◌∷◌, if◌then◌else◌}
use Rattle.std.specs.List.{list_any}
use Rattle.rtr_pdu.specs.Version.{is_v0}
use Rattle.rtr_pdu.specs.declared.version.Version.{Version}
use Rattle.rtr_pdu.specs.declared.version.Version.TheVariants.{V0, V1}
use Rattle.rtr_pdu.specs.declared.kind.Kind.{Kind}
use Rattle.rtr_pdu.specs.declared.kind.Kind.TheVariants as kinds

-- The number of a type in a header
abbrev pub type_number : Kind → ℕ
type_number kinds.SerialNotify = 0
type_number kinds.SerialQuery = 1
type_number kinds.ResetQuery = 2
type_number kinds.CacheResponse = 3
type_number kinds.Ipv4Prefix = 4
type_number kinds.Ipv6Prefix = 6
type_number kinds.EndOfData = 7
type_number kinds.CacheReset = 8
type_number kinds.RouterKey = 9
type_number kinds.ErrorReport = 10

-- All types
abbrev pub all_kinds : List Kind
all_kinds =
    kinds.SerialNotify ∷ kinds.SerialQuery ∷ kinds.ResetQuery ∷ kinds.CacheResponse ∷ kinds.Ipv4Prefix
    ∷ kinds.Ipv6Prefix ∷ kinds.EndOfData ∷ kinds.CacheReset ∷ kinds.RouterKey ∷ kinds.ErrorReport ∷ []

-- The types that there are in a version: Router Keys came with version 1 (RFC 8210 section 5.10).
abbrev pub has_kind : Version → Kind → Bool
has_kind version kinds.RouterKey = not (is_v0 version)
has_kind version kind = true

-- In version 0 an End of Data carries no intervals (RFC 6810 section 5.8).
abbrev pub end_of_data_len : Version → ℕ
end_of_data_len V0 = 12
end_of_data_len V1 = 24

-- How many bytes each PDU of a type has
abbrev pub fixed_len : Version → Kind → ℕ
fixed_len version kinds.SerialNotify = 12
fixed_len version kinds.SerialQuery = 12
fixed_len version kinds.ResetQuery = 8
fixed_len version kinds.CacheResponse = 8
fixed_len version kinds.Ipv4Prefix = 20
fixed_len version kinds.Ipv6Prefix = 32
fixed_len version kinds.EndOfData = end_of_data_len version
fixed_len version kinds.CacheReset = 8
fixed_len version kinds.RouterKey = 32
fixed_len version kinds.ErrorReport = 16

-- Behind these a Router Key has its key, and an Error Report its copy and its text. All others have nothing more.
abbrev pub varies : Kind → Bool
varies kinds.RouterKey = true
varies kinds.ErrorReport = true
varies _ = false

-- A PDU of this type may have this length.
abbrev pub may_have : Version → Kind → ℕ → Bool
may_have version kind len = if varies kind then nat_le (fixed_len version kind) len else len == fixed_len version kind

-- A type with this number there is.
abbrev pub is_type : Version → ℕ → Bool
is_type version type = list_any (λ kind. type == type_number kind && has_kind version kind) all_kinds

-- A PDU whose type has this number may have this length.
abbrev pub has_length : Version → ℕ → ℕ → Bool
has_length version type len = list_any (λ kind. type == type_number kind && may_have version kind len) all_kinds
