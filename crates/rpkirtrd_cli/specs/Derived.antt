-- What follows from settings: the texts that name a daemon, its pauses, and its warnings (rpkirtrd(8)).
use Rattle.std.specs.Prelude.{ℕ, ◌*◌, Bool, true, false, nat_lt, if◌then◌else◌, List, ◌++◌, codes, Option, Some, None}
use Rattle.std.specs.List.{flat_map}
use Rattle.std.specs.String.{string_bytes}
use Rattle.std.specs.declared.string.String.{String}
use Rattle.std.specs.Net.Text.{socket_text}
use Rattle.std.specs.declared.net.SocketAddr.{SocketAddr}
use Rattle.rpkirtrd_cli.specs.declared.settings.Settings.{Settings}

-- a number of seconds in milliseconds
abbrev pub millis_of : ℕ → ℕ
millis_of seconds = seconds * 1000

-- an address on a line
abbrev pub address_line : SocketAddr → List ℕ
address_line address = socket_text address ++ codes "\n"

-- an option and a path, on a line
abbrev pub path_line : List ℕ → List ℕ → List ℕ
path_line option path = option ++ codes " " ++ path ++ codes "\n"

abbrev pub path_lines : {Y : Type 0} → List ℕ → List (String Y) → List ℕ
path_lines option paths = flat_map (λ p. path_line option (string_bytes p)) paths

-- the options of all sources, each with its path on a line
abbrev pub sources_text : Settings → List ℕ
sources_text s = path_lines (codes "--vrps") s.vrps.items ++ path_lines (codes "--points") s.points.items ++ path_lines (codes "--slurm") s.slurm.items

-- Without a machine id the session is random.
abbrev pub session_warning : Bool → Option (List ℕ)
session_warning true = Some (codes "/etc/machine-id has no machine ID: the session ID is random at each start (set --session)")
session_warning false = None

-- A cache notifies once a minute at most (RFC 8210 section 8.2).
abbrev pub notify_warning : ℕ → Option (List ℕ)
notify_warning seconds =
    if nat_lt seconds 60
    then Some (codes "with --check below 60 routers may be notified more than once a minute (RFC 8210 section 8.2)")
    else None
