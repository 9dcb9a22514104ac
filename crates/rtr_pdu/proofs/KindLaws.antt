-- Each type is one that there is, and has the length that it may have.
use Rattle.std.specs.Prelude.{◌≡◌, ℕ, Bool, true, false, ◌||◌, ◌==◌, nat_le, refl}
use Rattle.std.proofs.Common.{ap}
use Rattle.rtr_pdu.specs.declared.version.Version.{Version}
use Rattle.rtr_pdu.specs.declared.kind.Kind.{Kind}
use Rattle.rtr_pdu.specs.declared.kind.Kind.TheVariants as kinds
use Rattle.rtr_pdu.specs.Kind.{type_number, fixed_len, has_kind, may_have, is_type, has_length}

-- nothing else
or_nothing : (b : Bool) → (b || false) ≡ b
or_nothing true = refl
or_nothing false = refl

-- A type with the number of a type there is.
pub known_type : (version : Version) (kind : Kind) → has_kind version kind ≡ true → is_type version (type_number kind) ≡ true
known_type version kinds.SerialNotify h = refl
known_type version kinds.SerialQuery h = refl
known_type version kinds.ResetQuery h = refl
known_type version kinds.CacheResponse h = refl
known_type version kinds.Ipv4Prefix h = refl
known_type version kinds.Ipv6Prefix h = refl
known_type version kinds.EndOfData h = refl
known_type version kinds.CacheReset h = refl
known_type version kinds.RouterKey h = ap (λ b. b || false) h
known_type version kinds.ErrorReport h = refl

-- The type with its number may have the same lengths.
pub known_length : (version : Version) (kind : Kind) (len : ℕ) → has_length version (type_number kind) len ≡ may_have version kind len
known_length version kinds.SerialNotify len = or_nothing (len == 12)
known_length version kinds.SerialQuery len = or_nothing (len == 12)
known_length version kinds.ResetQuery len = or_nothing (len == 8)
known_length version kinds.CacheResponse len = or_nothing (len == 8)
known_length version kinds.Ipv4Prefix len = or_nothing (len == 20)
known_length version kinds.Ipv6Prefix len = or_nothing (len == 32)
known_length version kinds.EndOfData len = or_nothing (len == fixed_len version kinds.EndOfData)
known_length version kinds.CacheReset len = or_nothing (len == 8)
known_length version kinds.RouterKey len = or_nothing (nat_le 32 len)
known_length version kinds.ErrorReport len = or_nothing (nat_le 16 len)
