-- Lines that wait to be written.
use Rattle.std.specs.Prelude.{◌≡◌, ℕ, suc, ◌+◌, ◌^◌, ◌-◌, ◌<◌, ◌≤◌, ◌==◌, ◌&&◌, not, nat_le, nat_lt, min, Bool, false, List, [], ◌∷◌, ◌++◌, length, take, drop, Option, Some, None, is_none, if◌then◌else◌}
use Rattle.std.specs.List.{count_by}
use Rattle.log_output.specs.declared.report.WaitingReport.{WaitingReport}

-- how many bytes may wait
abbrev pub buffer_bytes : ℕ
buffer_bytes = 65536

-- how many bytes one write may have
abbrev pub chunk_bytes : ℕ
chunk_bytes = 4096

-- The bytes that wait, how many lines were lost since the start, and how many since the last report that was written whole. A report may be
-- among the bytes. The output is torn if it has the head of a line: the rest of that line then waits in front.
pub record Buffered : Type 0 where
  pub bytes : List ℕ
  pub lost : ℕ
  pub dropped : ℕ
  pub report : Option WaitingReport
  pub torn : Bool

abbrev pub buffered : List ℕ → ℕ → ℕ → Option WaitingReport → Bool → Buffered
buffered bytes lost dropped report torn = record { bytes = bytes; lost = lost; dropped = dropped; report = report; torn = torn }

-- before the first line
abbrev pub no_lines : Buffered
no_lines = buffered [] 0 0 None false

-- Each line ends in a newline.
abbrev pub lines_in : List ℕ → ℕ
lines_in bytes = count_by (λ b. b == 10) bytes

abbrev pub is_newline : Option ℕ → Bool
is_newline None = false
is_newline (Some b) = b == 10

-- Whether an output is torn after these bytes, if it was before them: its last byte is not a newline.
abbrev pub is_torn_after : Bool → List ℕ → Bool
is_torn_after torn [] = torn
is_torn_after torn (b ∷ bs) = is_torn_after (not (b == 10)) bs

-- the length of the first line, with its newline
abbrev pub line_length : List ℕ → ℕ
line_length [] = 0
line_length (b ∷ bs) = if b == 10 then 1 else suc (line_length bs)

-- A counter stays at its largest value.
abbrev pub saturated : ℕ → ℕ
saturated n = min n (2 ^ 64 - 1)

-- ---- the report that waits: how many dropped lines it reports, and the place of its last byte among those that wait

abbrev pub report_of : ℕ → ℕ → WaitingReport
report_of lines last = record { lines = lines; last = last }

abbrev pub lines_reported : Option WaitingReport → ℕ
lines_reported None = 0
lines_reported (Some r) = r.lines

-- how many lines it reports if it is among the first n bytes,
abbrev pub reported_within : ℕ → Option WaitingReport → ℕ
reported_within n None = 0
reported_within n (Some r) = if nat_lt r.last n then r.lines else 0

-- what is left of it without the first n bytes,
abbrev pub report_behind : ℕ → Option WaitingReport → Option WaitingReport
report_behind n None = None
report_behind n (Some r) = if nat_lt r.last n then None else Some (report_of r.lines (r.last - n))

-- and with the first n bytes alone
abbrev pub report_within : ℕ → Option WaitingReport → Option WaitingReport
report_within n None = None
report_within n (Some r) = if nat_lt r.last n then Some r else None

-- how many reports are not among the first n bytes
abbrev pub reports_behind : ℕ → Option WaitingReport → ℕ
reports_behind n None = 0
reports_behind n (Some r) = if nat_lt r.last n then 0 else 1

-- ---- lines come

abbrev pub fits : List ℕ → Buffered → Bool
fits line b = nat_le (length line) (buffer_bytes - length b.bytes)

-- A line is added at the end.
abbrev pub and_line : List ℕ → Buffered → Buffered
and_line line b = record b { bytes = b.bytes ++ line }

-- A report of all dropped lines is added at the end.
abbrev pub and_report : List ℕ → Buffered → Buffered
and_report line b = record b { bytes = b.bytes ++ line; report = Some (report_of b.dropped (length b.bytes + length line - 1)) }

-- This number of lines is lost.
abbrev pub and_lost : ℕ → Buffered → Buffered
and_lost lines b = record b { lost = saturated (b.lost + lines); dropped = saturated (b.dropped + lines) }

-- A line is accepted if it fits, and if each line that is missing before it is reported by the report that waits.
abbrev pub is_accepted : List ℕ → Buffered → Bool
is_accepted line b = (b.dropped == lines_reported b.report) && fits line b

-- A line that is not accepted is lost whole.
abbrev pub after_line : List ℕ → Buffered → Buffered
after_line line b = if is_accepted line b then and_line line b else and_lost (lines_in line) b

-- Dropped lines are not yet reported, and no report waits.
abbrev pub is_report_due : Buffered → Bool
is_report_due b = not (b.dropped == 0) && is_none b.report

-- A report is added if none waits and it fits.
abbrev pub takes_report : List ℕ → Buffered → Bool
takes_report line b = is_none b.report && fits line b

abbrev pub after_report : List ℕ → Buffered → Buffered
after_report line b = if takes_report line b then and_report line b else b

-- ---- bytes are written

-- The first n bytes were written. With the last byte of a report its lines are reported.
abbrev pub after_written : ℕ → Buffered → Buffered
after_written n b =
    buffered (drop n b.bytes) b.lost (b.dropped - reported_within n b.report) (report_behind n b.report) (is_torn_after b.torn (take n b.bytes))

-- The rest of a line whose head was written is kept, up to its newline.
abbrev pub kept_bytes : Buffered → ℕ
kept_bytes b = if b.torn then line_length b.bytes else 0

abbrev pub first_bytes : ℕ → Buffered → Buffered
first_bytes n b = record b { bytes = take n b.bytes; report = report_within n b.report }

-- how many lines there are after the first n bytes, without the report
abbrev pub lines_behind : ℕ → Buffered → ℕ
lines_behind n b = lines_in (drop n b.bytes) - reports_behind n b.report

-- All other lines are given up, and lost. A report that is given up is no lost line, and what it reports is not yet reported.
abbrev pub after_loss : Buffered → Buffered
after_loss b = and_lost (lines_behind (kept_bytes b) b) (first_bytes (kept_bytes b) b)

-- the first bytes: at least one if there is any and one write may have one, and no more than one write may have
pub record IsChunk (most : ℕ) (bytes chunk : List ℕ) : Type 0 where
  pub first : (rest : List ℕ) × (bytes ≡ chunk ++ rest)
  pub some : 0 < most → 0 < length bytes → 0 < length chunk
  pub short : length chunk ≤ most
