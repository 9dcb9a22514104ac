-- The first serial of a daemon, and its sessions in both protocol versions.
use Rattle.std.specs.Prelude.{ℕ, ◌+◌, ◌*◌, ◌%◌, ◌^◌, Bool, not, ◌||◌, List, [], ◌++◌, bytes_eq, codes, length, slice_index}
use Rattle.std.specs.Int.{w64, to_be_bytes}
use Rattle.sha2.specs.Sha256.{sha256}

-- the seconds since 1970, modulo 2^32
abbrev pub first_serial : ℕ → ℕ
first_serial seconds = seconds % 2 ^ 32

-- the seconds since 1970, modulo 2^16
abbrev pub session0_of : ℕ → ℕ
session0_of seconds = seconds % 2 ^ 16

-- a part after its length in eight bytes, big-endian
abbrev pub part_bytes : List ℕ → List ℕ
part_bytes part = to_be_bytes w64 (length part) ++ part

-- the machine id, the host name, the addresses and the sources
abbrev pub joined : List ℕ → List ℕ → List ℕ → List ℕ → List ℕ
joined machine_id host listen sources = part_bytes machine_id ++ part_bytes host ++ part_bytes listen ++ part_bytes sources

-- the first 16 bits of a digest
abbrev pub front_of : List ℕ → ℕ
front_of digest = slice_index digest 0 * 256 + slice_index digest 1

unfoldable pub session_of : List ℕ → List ℕ → List ℕ → List ℕ → ℕ
session_of machine_id host listen sources = front_of (sha256 (joined machine_id host listen sources))

-- A file /etc/machine-id has the id of a machine, unless it is empty or holds `uninitialized` (machine-id(5)). A newline may be at its end.
abbrev pub is_machine_id : List ℕ → Bool
is_machine_id id =
    not (bytes_eq id [] || bytes_eq id (codes "\n") || bytes_eq id (codes "uninitialized") || bytes_eq id (codes "uninitialized\n"))
