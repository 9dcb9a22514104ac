-- How severe an event is (RFC 5424 section 6.2.1), and whether it is about a client.
use Rattle.std.specs.Prelude.{ℕ, Bool, true, false, List, codes}
use Rattle.event_log.specs.declared.event.LogEvent.{LogEvent}
use Rattle.event_log.specs.declared.event.LogEvent.TheVariants as event
use Rattle.event_log.specs.declared.level.LogLevel.{LogLevel}
use Rattle.event_log.specs.declared.level.LogLevel.TheVariants as level

-- the numerical code of a severity, in which less is more severe,
abbrev pub severity : LogLevel → ℕ
severity level.Error = 3
severity level.Warning = 4
severity level.Notice = 5
severity level.Info = 6

-- and its word
abbrev pub level_word : LogLevel → List ℕ
level_word level.Error = codes "error"
level_word level.Warning = codes "warning"
level_word level.Notice = codes "notice"
level_word level.Info = codes "info"

-- the level of an event
abbrev pub level_of : LogEvent → LogLevel
level_of (event.Refused file reason) = level.Error
level_of (event.Failed what reason) = level.Error
level_of (event.Memory what) = level.Error
level_of event.NoDescriptor = level.Error
level_of (event.Dropped lines) = level.Error
level_of (event.Warning reason) = level.Warning
level_of (event.Clock behind) = level.Warning
level_of (event.Unwell reason) = level.Warning
level_of (event.FileUnwell reason file) = level.Warning
level_of (event.Old file age) = level.Warning
level_of (event.Expired file entries) = level.Warning
level_of (event.Limited clients) = level.Warning
level_of (event.Stalled address) = level.Warning
level_of (event.Full address clients) = level.Warning
level_of (event.AddressFull address clients) = level.Warning
level_of (event.StatusFull address clients) = level.Warning
level_of (event.Suppressed lines seconds) = level.Warning
level_of (event.ErrorReport report) = level.Warning
level_of (event.Listening address) = level.Notice
level_of (event.Status address) = level.Notice
level_of (event.Started names) = level.Notice
level_of event.Ready = level.Notice
level_of (event.Published publication) = level.Notice
level_of (event.LeftOut records) = level.Notice
level_of (event.Taken file) = level.Notice
level_of (event.Fresh file age) = level.Notice
level_of (event.NotServed file aspas router_keys) = level.Notice
level_of (event.SlurmNotServed file filters assertions) = level.Notice
level_of (event.Well reason) = level.Notice
level_of (event.FileWell reason file) = level.Notice
level_of (event.Checked files ipv4 ipv6 left_out) = level.Notice
level_of (event.Stopped reason) = level.Notice
level_of (event.ClientCame address) = level.Info
level_of (event.ClientGone closed) = level.Info
level_of (event.VersionRefused address asked) = level.Info

-- The events about one client: any number of them can be caused by its peer.
abbrev pub is_of_client : LogEvent → Bool
is_of_client (event.ClientCame address) = true
is_of_client (event.ClientGone closed) = true
is_of_client (event.ErrorReport report) = true
is_of_client (event.VersionRefused address asked) = true
is_of_client (event.Stalled address) = true
is_of_client (event.Full address clients) = true
is_of_client (event.AddressFull address clients) = true
is_of_client (event.StatusFull address clients) = true
is_of_client _ = false
