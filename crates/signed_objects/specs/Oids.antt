-- Contents of OBJECT IDENTIFIERs (X.690 section 8.19).
use Rattle.std.specs.Prelude.{ℕ, Bool, not, ◌&&◌, ◌==◌, nat_lt, List, [], ◌∷◌, length}
use Rattle.der_lite.specs.Der.{OBJECT_IDENTIFIER}
use Rattle.der_lite.specs.Grammar.{Element, plain}

-- X.690 section 8.19.2: the last octet of a subidentifier is below 128, the others are not, and the first is not 0x80.
-- So after one below 128 the octets end, or a subidentifier begins.
abbrev pub follow : ℕ → List ℕ → Bool
follow before [] = nat_lt before 128
follow before (octet ∷ more) = not (nat_lt before 128 && octet == 0x80) && follow octet more

-- X.690 sections 8.19.1 and 8.19.2: subidentifiers one after the other, at least one. One begins at the front, as after an octet below 128.
abbrev pub is_oid : List ℕ → Bool
is_oid content = not (length content == 0) && follow 0 content

-- The content is an identifier; otherwise the fault is that it is none of its type.
abbrev pub oid_rules : List ℕ → List (ℕ × Bool)
oid_rules content = (4, not (is_oid content)) ∷ []

-- an OBJECT IDENTIFIER of any value
unfoldable pub object_identifier : Element (List ℕ)
object_identifier = plain OBJECT_IDENTIFIER oid_rules
