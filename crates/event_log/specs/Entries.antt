-- The log entry of an event: a word, and values under keys.
use Rattle.std.specs.Prelude.{ℕ, Bool, true, false, List, [], ◌∷◌, codes, Option, None, Some}
use Rattle.std.specs.declared.net.socket_addr.SocketAddr.{SocketAddr}
use Rattle.event_log.specs.declared.event.ClientClosed.{ClientClosed}
use Rattle.event_log.specs.declared.event.LogEvent.{LogEvent}
use Rattle.event_log.specs.declared.event.LogEvent.TheVariants as event
use Rattle.event_log.specs.declared.event.PeerReport.{PeerReport}
use Rattle.event_log.specs.declared.event.Publication.{Publication}
use Rattle.event_log.specs.ReportNames.{UNSUPPORTED, report_name}
use Rattle.session_names.specs.declared.names.SessionIds.{SessionIds}
use Rattle.event_log.specs.declared.entries.Value.{Value}
use Rattle.event_log.specs.declared.entries.Value.TheVariants as value
use Rattle.event_log.specs.declared.entries.Pair.{Pair}

-- a value: nothing, a number, an address with a port, or a text
pub data LogValue : Type 0 where
  Nothing : LogValue
  Number : (n : ℕ) → LogValue
  Address : (a : SocketAddr) → LogValue
  Text : (s : List ℕ) → LogValue

-- a value under its key
pub record Entry : Type 0 where
  pub key : List ℕ
  pub value : LogValue

abbrev pub entry : List ℕ → LogValue → Entry
entry key value = record { key = key; value = value }

-- the value that a value of the program represents
abbrev pub log_value : Value → LogValue
log_value value.Nothing = Nothing
log_value (value.Number n) = Number n
log_value (value.Address a) = Address a
log_value (value.Text s) = Text s.now

abbrev pub log_pair : Pair → Entry
log_pair p = entry p.key.now (log_value p.value)

-- the protocol version of a client, if any
abbrev pub spoken : Option ℕ → LogValue
spoken None = Nothing
spoken (Some version) = Number version

abbrev pub at : SocketAddr → Entry
at address = entry (codes "address") (Address address)

abbrev pub of_number : List ℕ → ℕ → Entry
of_number key n = entry key (Number n)

abbrev pub of_text : List ℕ → List ℕ → Entry
of_text key s = entry key (Text s)

-- the entries of a run's sessions and serial,
abbrev pub session_entries : SessionIds → List Entry
session_entries n = of_number (codes "session") n.session ∷ of_number (codes "session0") n.session0 ∷ of_number (codes "serial") n.serial ∷ []

-- of a client that was closed,
abbrev pub client_closed_entries : ClientClosed → List Entry
client_closed_entries d =
    at d.address ∷ of_text (codes "why") d.why.now ∷ entry (codes "version") (spoken d.version)
    ∷ of_number (codes "read") d.read ∷ of_number (codes "written") d.written ∷ of_number (codes "seconds") d.seconds ∷ []

-- of an Error Report,
abbrev pub direction : Bool → List ℕ
direction true = codes "received"
direction false = codes "sent"

abbrev pub report_entries : PeerReport → List Entry
report_entries r =
    at r.address ∷ of_text (codes "direction") (direction r.is_received) ∷ of_number (codes "code") r.code
    ∷ of_text (codes "name") (report_name r.code) ∷ of_text (codes "text") r.text.now ∷ []

-- of the Error Report that refuses a protocol version,
abbrev pub refused_version_entries : SocketAddr → ℕ → List Entry
refused_version_entries address asked =
    at address ∷ of_text (codes "direction") (direction false) ∷ of_number (codes "code") UNSUPPORTED
    ∷ of_text (codes "name") (report_name UNSUPPORTED) ∷ of_number (codes "asked") asked ∷ []

-- of a connection of the status pages that was closed as there are too many,
abbrev pub status_full_entries : SocketAddr → ℕ → List Entry
status_full_entries address clients = at address ∷ of_number (codes "clients") clients ∷ of_text (codes "listener") (codes "status") ∷ []

-- of what is not served of a file,
abbrev pub not_served_entries : List ℕ → ℕ → ℕ → List Entry
not_served_entries file aspas router_keys = of_text (codes "file") file ∷ of_number (codes "aspas") aspas ∷ of_number (codes "router-keys") router_keys ∷ []

abbrev pub slurm_not_served_entries : List ℕ → ℕ → ℕ → List Entry
slurm_not_served_entries file filters assertions =
    of_text (codes "file") file ∷ of_number (codes "bgpsec-filters") filters ∷ of_number (codes "bgpsec-assertions") assertions ∷ []

-- of a published version,
abbrev pub publication_entries : Publication → List Entry
publication_entries p =
    of_number (codes "session") p.session ∷ of_number (codes "serial") p.serial ∷ of_number (codes "announced") p.announced
    ∷ of_number (codes "withdrawn") p.withdrawn ∷ of_number (codes "records") p.records ∷ of_number (codes "ms") p.milliseconds ∷ []

-- and of a checked configuration
abbrev pub checked_entries : ℕ → ℕ → ℕ → ℕ → List Entry
checked_entries files ipv4 ipv6 left_out =
    of_number (codes "files") files ∷ of_number (codes "ipv4") ipv4 ∷ of_number (codes "ipv6") ipv6 ∷ of_number (codes "left-out") left_out ∷ []

-- the word of an event
abbrev pub word_of : LogEvent → List ℕ
word_of (event.Started names) = codes "started"
word_of (event.Limited clients) = codes "limited"
word_of (event.Listening address) = codes "listening"
word_of (event.Status address) = codes "status"
word_of event.Ready = codes "ready"
word_of (event.ClientCame address) = codes "client-came"
word_of (event.ClientGone closed) = codes "client-gone"
word_of (event.ErrorReport report) = codes "error-report"
word_of (event.VersionRefused address asked) = codes "error-report"
word_of (event.Stalled address) = codes "stalled"
word_of (event.Full address clients) = codes "full"
word_of (event.AddressFull address clients) = codes "address-full"
word_of (event.StatusFull address clients) = codes "full"
word_of (event.Suppressed lines seconds) = codes "suppressed"
word_of event.NoDescriptor = codes "no-descriptor"
word_of (event.Published publication) = codes "published"
word_of (event.LeftOut records) = codes "left-out"
word_of (event.Refused file reason) = codes "refused"
word_of (event.Taken file) = codes "taken"
word_of (event.Old file age) = codes "old"
word_of (event.Fresh file age) = codes "fresh"
word_of (event.Expired file entries) = codes "expired"
word_of (event.NotServed file aspas router_keys) = codes "not-served"
word_of (event.SlurmNotServed file filters assertions) = codes "not-served"
word_of (event.Unwell reason) = codes "unwell"
word_of (event.FileUnwell reason file) = codes "unwell"
word_of (event.Well reason) = codes "well"
word_of (event.FileWell reason file) = codes "well"
word_of (event.Clock behind) = codes "clock"
word_of (event.Warning reason) = codes "warning"
word_of (event.Memory what) = codes "memory"
word_of (event.Failed what reason) = codes "failed"
word_of (event.Dropped lines) = codes "dropped"
word_of (event.Checked files ipv4 ipv6 left_out) = codes "checked"
word_of (event.Stopped reason) = codes "stopped"

-- The values of an event about the daemon. Another event has none here.
abbrev pub daemon_entries : LogEvent → List Entry
daemon_entries (event.Started names) = session_entries names
daemon_entries (event.Published publication) = publication_entries publication
daemon_entries (event.Listening address) = at address ∷ []
daemon_entries (event.Status address) = at address ∷ []
daemon_entries (event.Limited clients) = of_number (codes "clients") clients ∷ []
daemon_entries (event.LeftOut records) = of_number (codes "records") records ∷ []
daemon_entries (event.Dropped lines) = of_number (codes "lines") lines ∷ []
daemon_entries (event.Clock behind) = of_number (codes "behind") behind ∷ []
daemon_entries (event.Memory what) = of_text (codes "what") what.now ∷ []
daemon_entries (event.Failed what reason) = of_text (codes "what") what.now ∷ of_text (codes "reason") reason.now ∷ []
daemon_entries (event.Warning reason) = of_text (codes "reason") reason.now ∷ []
daemon_entries (event.Stopped reason) = of_text (codes "reason") reason.now ∷ []
daemon_entries (event.Unwell reason) = of_text (codes "reason") reason.now ∷ []
daemon_entries (event.Well reason) = of_text (codes "reason") reason.now ∷ []
daemon_entries e = []

-- of an event about files. Of another event these are those about the daemon.
abbrev pub file_entries : LogEvent → List Entry
file_entries (event.Taken file) = of_text (codes "file") file.now ∷ []
file_entries (event.Refused file reason) = of_text (codes "file") file.now ∷ of_text (codes "reason") reason.now ∷ []
file_entries (event.FileUnwell reason file) = of_text (codes "reason") reason.now ∷ of_text (codes "file") file.now ∷ []
file_entries (event.FileWell reason file) = of_text (codes "reason") reason.now ∷ of_text (codes "file") file.now ∷ []
file_entries (event.Old file age) = of_text (codes "file") file.now ∷ of_number (codes "age") age ∷ []
file_entries (event.Fresh file age) = of_text (codes "file") file.now ∷ of_number (codes "age") age ∷ []
file_entries (event.Expired file entries) = of_text (codes "file") file.now ∷ of_number (codes "entries") entries ∷ []
file_entries (event.NotServed file aspas router_keys) = not_served_entries file.now aspas router_keys
file_entries (event.SlurmNotServed file filters assertions) = slurm_not_served_entries file.now filters assertions
file_entries (event.Checked files ipv4 ipv6 left_out) = checked_entries files ipv4 ipv6 left_out
file_entries e = daemon_entries e

-- of an event: about clients, about files, or about the daemon
abbrev pub entries_of : LogEvent → List Entry
entries_of (event.ClientCame address) = at address ∷ []
entries_of (event.ClientGone closed) = client_closed_entries closed
entries_of (event.ErrorReport report) = report_entries report
entries_of (event.VersionRefused address asked) = refused_version_entries address asked
entries_of (event.Stalled address) = at address ∷ []
entries_of (event.Full address clients) = at address ∷ of_number (codes "clients") clients ∷ []
entries_of (event.AddressFull address clients) = at address ∷ of_number (codes "clients") clients ∷ []
entries_of (event.StatusFull address clients) = status_full_entries address clients
entries_of (event.Suppressed lines seconds) = of_number (codes "lines") lines ∷ of_number (codes "seconds") seconds ∷ []
entries_of e = file_entries e
