-- The limit of lines about clients.
use Rattle.std.specs.Prelude.{ℕ, ◌+◌, ◌-◌, Bool, false, ◌||◌, not, nat_lt, Option, None, Some, if◌then◌else◌}
use Rattle.log_output.specs.Buffers.{saturated}

-- how many lines one window lets through
abbrev pub limit_lines : ℕ
limit_lines = 1000

-- and how many milliseconds it is open
abbrev pub limit_millis : ℕ
limit_millis = 10000

-- in seconds
abbrev pub limit_seconds : ℕ
limit_seconds = 10

-- when the last window began, how many lines it has let through, and how many were suppressed since the last report
pub record Limited : Type 0 where
  pub began : Option ℕ
  pub passed : ℕ
  pub suppressed : ℕ

abbrev pub limited : Option ℕ → ℕ → ℕ → Limited
limited began passed suppressed = record { began = began; passed = passed; suppressed = suppressed }

abbrev pub is_open_since : Option ℕ → ℕ → Bool
is_open_since None now = false
is_open_since (Some began) now = nat_lt (now - began) limit_millis

abbrev pub is_open : Limited → ℕ → Bool
is_open l now = is_open_since l.began now

-- The line that opens a window is let through, and so are the next ones up to the limit.
abbrev pub is_let_through : Limited → ℕ → Bool
is_let_through l now = not (is_open l now) || nat_lt l.passed limit_lines

abbrev pub after_client_line : Limited → ℕ → Limited
after_client_line l now =
    if not (is_open l now) then limited (Some now) 1 l.suppressed
    else if nat_lt l.passed limit_lines then limited l.began (l.passed + 1) l.suppressed
    else limited l.began l.passed (saturated (l.suppressed + 1))

-- Suppressed lines are reported when their window has ended.
abbrev pub lines_to_report : Limited → ℕ → ℕ
lines_to_report l now = if is_open l now then 0 else l.suppressed

abbrev pub after_take : Limited → ℕ → Limited
after_take l now = if is_open l now then l else limited l.began l.passed 0
