-- What follows from the version of bytes.
use Rattle.std.specs.Prelude.{◌≡◌, ◌<◌, ◌≤◌, ℕ, not, true, List, [], ◌∷◌, ◌++◌, length, Option, Some, None, refl}
use Rattle.std.proofs.Common.{arith, ◌∙◌, sym, zero, suc}
use Rattle.rtr_pdu.specs.declared.version.Version.{Version}
use Rattle.rtr_pdu.specs.declared.version.Version.TheVariants.{V0, V1}
use Rattle.rtr_pdu.specs.declared.kind.Kind.TheVariants as kinds
use Rattle.rtr_pdu.specs.Kind.{fixed_len, is_type}
use Rattle.rtr_pdu.specs.Version.{version_number, version_in, first_version, is_v0}

-- The number of a version is a byte.
pub is_byte : (version : Version) → version_number version < 256
is_byte V0 = omega arith
is_byte V1 = omega arith

-- An End of Data has more than a header.
pub end_least : (version : Version) → 8 ≤ fixed_len version kinds.EndOfData
end_least V0 = omega arith
end_least V1 = omega arith

-- If there are Router Keys the version is not 0.
pub has_keys : (version : Version) → is_type version 9 ≡ true → not (is_v0 version) ≡ true
has_keys V0 h = h
has_keys V1 h = refl

first-append : (bytes more : List ℕ) → 0 < length bytes → first_version (bytes ++ more) ≡ first_version bytes
first-append [] more h = absurd (omega (arith, h))
first-append (zero ∷ bytes) more h = refl
first-append (suc b ∷ bytes) more h = refl

-- The version of bytes is determined by the first of them.
pub version_in-append : (start : Option Version) (bytes more : List ℕ) → 0 < length bytes → version_in start (bytes ++ more) ≡ version_in start bytes
version_in-append (Some version) bytes more h = refl
version_in-append None bytes more h = first-append bytes more h

-- It stays, whatever follows.
pub version_stays : (start : Option Version) (bytes more other : List ℕ) → 0 < length bytes → version_in start (bytes ++ more) ≡ version_in start (bytes ++ other)
version_stays start bytes more other h = version_in-append start bytes more h ∙ sym (version_in-append start bytes other h)
