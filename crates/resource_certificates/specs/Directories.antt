-- Where the manifest of an authority is: in its repository (RFC 6487 section 4.8.8.1, RFC 9286 section 5.1).
use Rattle.std.specs.Prelude.{ℕ, ◌-◌, Bool, false, not, ◌&&◌, ◌==◌, if◌then◌else◌, bytes_eq, List, [], ◌∷◌, length, take, drop, slice_index, Option, Some}
use Rattle.std.specs.List.{list_any}

-- one name: some octets, none of which is a slash
abbrev pub is_name : List ℕ → Bool
is_name name = not (length name == 0) && not (list_any (λ octet. octet == 47) name)

-- a slash, and one name
abbrev pub is_name_behind : List ℕ → Bool
is_name_behind [] = false
is_name_behind (octet ∷ name) = octet == 47 && is_name name

-- the last octet is a slash
abbrev pub ends_in_slash : List ℕ → Bool
ends_in_slash uri = slice_index uri (length uri - 1) == 47

-- The URI of a file is that of its directory, a slash if that has none at its end, and one name.
abbrev pub is_file_of : List ℕ → List ℕ → Bool
is_file_of directory uri =
    bytes_eq (take (length directory) uri) directory
    && (if ends_in_slash directory then is_name (drop (length directory) uri) else is_name_behind (drop (length directory) uri))

-- both are there, and the second is a file of the first
abbrev pub names_file : Option (List ℕ) → Option (List ℕ) → Bool
names_file (Some directory) (Some uri) = is_file_of directory uri
names_file _ _ = false
