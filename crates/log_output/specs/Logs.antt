-- A log: levels, the limit of lines about clients, and lines that wait for room.
use Rattle.std.specs.Prelude.{◌≡◌, ℕ, ◌+◌, ◌-◌, ◌^◌, ◌<◌, ◌≤◌, ◌⊎◌, ◌==◌, ◌&&◌, ◌||◌, not, nat_lt, Bool, true, false, List, [], ◌∷◌, ◌++◌, length, slice_get, Option, Some, None, if◌then◌else◌, ⊤}
use Rattle.std.specs.List.{concat}
use Rattle.std.specs.Io.KnownBytes.{Appends}
use Rattle.event_log.specs.Levels.{is_of_client}
use Rattle.event_log.specs.Lines.{LogsEvent}
use Rattle.event_log.specs.declared.event.LogEvent.{LogEvent}
use Rattle.event_log.specs.declared.event.LogEvent.TheVariants.{Dropped, Suppressed}
use Rattle.event_log.specs.declared.level.LogLevel.{LogLevel}
use Rattle.event_log.specs.declared.line.LogFormat.{LogFormat}
use Rattle.log_output.specs.declared.report.WaitingReport.{WaitingReport}
use Rattle.log_output.specs.Buffers.{Buffered, after_line, after_report, and_lost, is_newline, is_report_due, is_torn_after, lines_in, saturated}
use Rattle.log_output.specs.Limits.{Limited, after_client_line, after_take, is_let_through, limit_seconds, lines_to_report}

-- The state of a log. The last two are how many suppressed lines were reported, and how often there was no memory for a line.
pub record LogState : Type 0 where
  pub format : LogFormat
  pub level : LogLevel
  pub limit : Limited
  pub buffer : Buffered
  pub reported_suppressed : ℕ
  pub memory_failures : ℕ

abbrev pub log_state : LogFormat → LogLevel → Limited → Buffered → ℕ → ℕ → LogState
log_state format level limit buffer suppressed failures = record {
  format = format;
  level = level;
  limit = limit;
  buffer = buffer;
  reported_suppressed = suppressed;
  memory_failures = failures;
}

abbrev pub with_buffer : Buffered → LogState → LogState
with_buffer buffer s = record s { buffer = buffer }

abbrev pub with_limit : Limited → LogState → LogState
with_limit limit s = record s { limit = limit }

-- the line of an event at this second
abbrev pub IsLine : LogFormat → ℕ → LogEvent → List ℕ → Type 0
IsLine format seconds event line = LogsEvent (Some []) (Some line) format seconds event

-- the same, or none if there is no memory for it
abbrev pub Formats : LogFormat → ℕ → LogEvent → Option (List ℕ) → Type 0
Formats format seconds event (Some line) = IsLine format seconds event line
Formats format seconds event None = ⊤

-- ---- one line

-- There was no memory for a line.
abbrev pub failed : LogState → LogState
failed s = record s { memory_failures = saturated (s.memory_failures + 1) }

-- The line of an event is added or lost. A line for which there is no memory is lost too.
abbrev pub after_offer : Option (List ℕ) → LogState → LogState
after_offer (Some line) s = with_buffer (after_line line s.buffer) s
after_offer None s = with_buffer (and_lost 1 s.buffer) (failed s)

abbrev pub OffersEvent : LogState → LogState → ℕ → LogEvent → Type 0
OffersEvent old new seconds event = (line : Option (List ℕ)) × Formats old.format seconds event line × (new ≡ after_offer line old)

-- ---- reports

-- Dropped lines are reported in their place, as soon as the report fits.
abbrev pub after_drops : Option (List ℕ) → LogState → LogState
after_drops (Some line) s = with_buffer (after_report line s.buffer) s
after_drops None s = failed s

abbrev pub TriesReport : LogState → LogState → ℕ → Type 0
TriesReport old new seconds =
    (line : Option (List ℕ)) × Formats old.format seconds (Dropped old.buffer.dropped) line × (new ≡ after_drops line old)

abbrev pub ReportsDrops : LogState → LogState → ℕ → Type 0
ReportsDrops old new seconds =
    ((is_report_due old.buffer ≡ false) × (new ≡ old)) ⊎ ((is_report_due old.buffer ≡ true) × TriesReport old new seconds)

-- Suppressed lines are reported when their window has ended.
abbrev pub after_taking : ℕ → LogState → LogState
after_taking millis s =
    record s { limit = after_take s.limit millis; reported_suppressed = saturated (s.reported_suppressed + lines_to_report s.limit millis) }

abbrev pub ReportsSuppressed : LogState → LogState → ℕ → ℕ → Type 0
ReportsSuppressed old new seconds millis =
    let lines = lines_to_report old.limit millis in
    ((lines ≡ 0) × (new ≡ after_taking millis old)) ⊎ ((0 < lines) × OffersEvent (after_taking millis old) new seconds (Suppressed lines limit_seconds))

abbrev pub ReportsDue : LogState → LogState → ℕ → ℕ → Type 0
ReportsDue old new seconds millis = (mid : LogState) × ReportsDrops old mid seconds × ReportsSuppressed mid new seconds millis

-- ---- events

-- A line about a client counts for the limit, and may be suppressed by it.
abbrev pub counted : LogState → ℕ → LogEvent → LogState
counted s millis event = if is_of_client event then with_limit (after_client_line s.limit millis) s else s

abbrev pub is_admitted : LogState → ℕ → LogEvent → Bool
is_admitted s millis event = not (is_of_client event) || is_let_through s.limit millis

abbrev pub AddsOwn : LogState → LogState → ℕ → ℕ → LogEvent → Type 0
AddsOwn old new seconds millis event =
    ((is_admitted old millis event ≡ true) × OffersEvent (counted old millis event) new seconds event)
    ⊎ ((is_admitted old millis event ≡ false) × (new ≡ counted old millis event))

-- The reports that are due come before the line of an event.
abbrev pub AddsEvent : LogState → LogState → ℕ → ℕ → LogEvent → Type 0
AddsEvent old new seconds millis event = (mid : LogState) × ReportsDue old mid seconds millis × AddsOwn mid new seconds millis event

-- ---- whole lines

-- the line of some event
pub record IsEventLine (format : LogFormat) (line : List ℕ) : Type 0 where
  pub seconds : ℕ
  pub event : LogEvent
  pub is : IsLine format seconds event line

abbrev pub AreEventLines : LogFormat → List (List ℕ) → Type 0
AreEventLines format [] = ⊤
AreEventLines format (line ∷ lines) = IsEventLine format line × AreEventLines format lines

-- A report that waits ends a line.
abbrev pub EndsLine : Option WaitingReport → List ℕ → Type 0
EndsLine None bytes = ⊤
EndsLine (Some r) bytes = is_newline (slice_get bytes r.last) ≡ true

-- What the output has, and then the bytes that wait, are whole lines of events. The output is torn if the bytes begin
-- with the rest of a line.
pub record IsWhole (format : LogFormat) (output : List ℕ) (b : Buffered) : Type 0 where
  pub lines : List (List ℕ)
  pub each : AreEventLines format lines
  pub joined : output ++ b.bytes ≡ concat lines
  pub torn : b.torn ≡ is_torn_after false output
  pub report : EndsLine b.report b.bytes

-- Whatever the output has: if it is whole before, it is whole after.
abbrev pub StaysWhole : LogState → LogState → Type 0
StaysWhole old new = (output : List ℕ) → IsWhole old.format output old.buffer → IsWhole new.format output new.buffer

-- ---- counts

-- how many lines wait, were lost or were suppressed, since the start
abbrev pub lines_held : LogState → ℕ
lines_held s = lines_in s.buffer.bytes + s.buffer.lost + (s.reported_suppressed + s.limit.suppressed)

-- No counter has come to its largest value.
pub record IsExact (s : LogState) : Type 0 where
  pub lost : s.buffer.lost < 2 ^ 64 - 1
  pub suppressed : s.reported_suppressed + s.limit.suppressed < 2 ^ 64 - 1

-- This number of lines came, and at most two reports. Each of them waits, or is counted as lost or suppressed.
abbrev pub CountsLines : ℕ → LogState → LogState → Type 0
CountsLines came old new = IsExact new → (reports : ℕ) × (reports ≤ 2) × (lines_held new ≡ lines_held old + came + reports)

-- A report that waited was given up: it is not among the bytes that were written, and no longer waits.
abbrev pub reports_given_up : ℕ → Option WaitingReport → Option WaitingReport → ℕ
reports_given_up written None later = 0
reports_given_up written (Some r) (Some later) = 0
reports_given_up written (Some r) None = if nat_lt r.last written then 0 else 1

-- Bytes were written, and the output stays whole. Each line that waited was written, still waits, or is counted as lost. A report that was
-- given up is no lost line.
pub record WritesCounted (old new : LogState) (had has : Option (List ℕ)) : Type 0 where
  pub written : List ℕ
  pub takes : Appends had has written
  pub whole : (output : List ℕ) → IsWhole old.format output old.buffer → IsWhole new.format (output ++ written) new.buffer
  pub counts : (output : List ℕ) → IsWhole old.format output old.buffer → IsExact new
      → lines_in written + reports_given_up (length written) old.buffer.report new.buffer.report + lines_held new ≡ lines_held old

-- The bytes that waited still wait, in front of what was added.
abbrev pub Grows : LogState → LogState → Type 0
Grows old new = (more : List ℕ) × (new.buffer.bytes ≡ old.buffer.bytes ++ more)

-- the law of lines: a line has one newline
abbrev pub EachIsOneLine : Type 0
EachIsOneLine = (format : LogFormat) (seconds : ℕ) (event : LogEvent) (line : List ℕ) → IsLine format seconds event line → lines_in line ≡ 1

-- Nothing waits, and no report is missing.
abbrev pub is_empty : LogState → Bool
is_empty s = (length s.buffer.bytes == 0) && (s.buffer.dropped == 0) && (s.limit.suppressed == 0)
