-- The address of the socket that `NOTIFY_SOCKET` names (sd_notify(3)), as the bytes of a `sockaddr_un` (unix(7)).
use Rattle.std.specs.Prelude.{ℕ, ◌==◌, if◌then◌else◌, nat_le, ◌&&◌, List, [], ◌∷◌, ◌++◌, length, Option, Some, None}

-- the family AF_UNIX, and a path with a zero byte at its end
abbrev pub path_address : List ℕ → List ℕ
path_address path = 1 ∷ 0 ∷ path ++ 0 ∷ []

-- the family, and a name with a zero byte before it
abbrev pub abstract_address : List ℕ → List ℕ
abstract_address name = 1 ∷ 0 ∷ 0 ∷ name

-- A path from the root begins with `/`, a name in the abstract namespace with `@`.
abbrev pub address_of : List ℕ → Option (List ℕ)
address_of [] = None
address_of (c ∷ rest) =
    if c == 47 then Some (path_address (c ∷ rest))
    else if c == 64 then Some (abstract_address rest)
    else None

-- A name has from 2 to 107 bytes, so that the path of its address has at most the 108 of unix(7).
abbrev pub socket_address : List ℕ → Option (List ℕ)
socket_address name = if nat_le 2 (length name) && nat_le (length name) 107 then address_of name else None
