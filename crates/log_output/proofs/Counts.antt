-- Each line that comes waits, or is counted as lost or suppressed, and the output stays whole.
use Rattle.std.proofs.Common.{◌≡◌, ℕ, ◌+◌, ◌≤◌, inl, inr, not, ◌||◌, nat_lt, Bool, true, false, if◌then◌else◌, List, [], ◌++◌, length, take, drop, Option, Some, None, refl, sym, ap, ◌∙◌, arith, append-nil, append_assoc}
use Rattle.std.proofs.lemmas.List.{length-take-le}
use Rattle.std.proofs.lemmas.List.Sums.{sum_by-take-drop}
use Rattle.std.specs.Io.KnownBytes.{Appends}
use Rattle.event_log.specs.Levels.{is_of_client}
use Rattle.event_log.specs.declared.event.LogEvent.{LogEvent}
use Rattle.event_log.specs.declared.event.LogEvent.TheVariants.{Dropped, Suppressed}
use Rattle.log_output.specs.Buffers.{Buffered, after_line, after_loss, after_written, and_line, and_lost, and_report, is_accepted, kept_bytes, lines_in, report_behind, report_within, reports_behind, saturated, takes_report}
use Rattle.log_output.specs.Limits.{is_open, limit_lines, limit_seconds, limited, lines_to_report}
use Rattle.log_output.specs.Logs.{AddsEvent, AddsOwn, CountsLines, Formats, Grows, IsEventLine, IsExact, IsWhole, LogState, OffersEvent, ReportsDrops, ReportsDue, ReportsSuppressed, StaysWhole, WritesCounted, after_drops, after_offer, after_taking, counted, failed, lines_held, reports_given_up, with_buffer, with_limit}
use Rattle.log_output.specs.Sinks.{SinkAnswer, WritesOut}
use Rattle.log_output.proofs.OneLine.{lines-append, newline, one_line}
use Rattle.log_output.proofs.Reports.{behind_counted, given_up, none_given_up}
use Rattle.log_output.proofs.WholeLines.{whole_line, whole_loss, whole_lost, whole_report, whole_written}

-- a step that adds so many lines to those that wait, were lost or were suppressed
pub record Accounts (count : ℕ) (old new : LogState) : Type 0 where
  pub exact : IsExact new → IsExact old × (lines_held new ≡ lines_held old + count)
  pub grows : Grows old new
  pub whole : StaysWhole old new

-- at most so many
pub record AccountsUpTo (most : ℕ) (old new : LogState) : Type 0 where
  pub count : ℕ
  pub within : count ≤ most
  pub step : Accounts count old new

steady : (s : LogState) → Grows s s
steady s = ([], sym (append-nil s.buffer.bytes))

pub same : (s : LogState) → Accounts 0 s s
same s = record { exact = λ h. (h, omega arith); grows = steady s; whole = λ output w. w }

pub then_on : (n m : ℕ) (a b c : LogState) → Accounts n a b → Accounts m b c → Accounts (n + m) a c
then_on n m a b c p q = record {
  exact = λ h. let later = q.exact h in let sooner = p.exact later.0 in (sooner.0, omega (arith, later.1, sooner.1));
  grows =
      (p.grows.0 ++ q.grows.0, q.grows.1 ∙ ap (λ xs. xs ++ q.grows.0) p.grows.1 ∙ append_assoc a.buffer.bytes p.grows.0 q.grows.0);
  whole = λ output w. q.whole output (p.whole output w);
}

-- ---- one line

lost : (s : LogState) → Accounts 1 s (with_buffer (and_lost 1 s.buffer) (failed s))
lost s = record {
  exact = λ h. (record { lost = omega (arith, h.lost); suppressed = h.suppressed }, omega (arith, h.lost));
  grows = steady s;
  whole = λ output w. whole_lost s.format output 1 s.buffer w;
}

lined : (s : LogState) (line : List ℕ) → lines_in line ≡ 1 → IsEventLine s.format line → Accounts 1 s (with_buffer (after_line line s.buffer) s)
lined s line one is = by (is_accepted line s.buffer)
  where
    by : (t : Bool) → Accounts 1 s (with_buffer (if t then and_line line s.buffer else and_lost (lines_in line) s.buffer) s)
    by true = record {
      exact = λ h. (record { lost = h.lost; suppressed = h.suppressed }, omega (arith, lines-append s.buffer.bytes line, one));
      grows = (line, refl);
      whole = λ output w. whole_line s.format output line s.buffer is w;
    }
    by false = record {
      exact = λ h. (record { lost = omega (arith, h.lost, one); suppressed = h.suppressed }, omega (arith, h.lost, one));
      grows = steady s;
      whole = λ output w. whole_lost s.format output (lines_in line) s.buffer w;
    }

pub offers : (old new : LogState) (seconds : ℕ) (event : LogEvent) → OffersEvent old new seconds event → Accounts 1 old new
offers old new seconds event p = by p.0 p.1 p.2
  where
    by : (line : Option (List ℕ)) → Formats old.format seconds event line → new ≡ after_offer line old → Accounts 1 old new
    by None is e = rw e (lost old)
    by (Some line) is e = rw e (lined old line (one_line old.format seconds event line is) (record { seconds = seconds; event = event; is = is }))

-- ---- reports

unheld : (s : LogState) → Accounts 0 s (failed s)
unheld s = record {
  exact = λ h. (record { lost = h.lost; suppressed = h.suppressed }, omega arith);
  grows = steady s;
  whole = λ output w. w;
}

told : (s : LogState) (line : List ℕ) → lines_in line ≡ 1 → IsEventLine s.format line → AccountsUpTo 1 s (after_drops (Some line) s)
told s line one is = by (takes_report line s.buffer)
  where
    by : (t : Bool) → AccountsUpTo 1 s (with_buffer (if t then and_report line s.buffer else s.buffer) s)
    by true = record {
      count = 1;
      within = omega arith;
      step = record {
        exact = λ h. (record { lost = h.lost; suppressed = h.suppressed }, omega (arith, lines-append s.buffer.bytes line, one));
        grows = (line, refl);
        whole = λ output w. whole_report s.format output line s.buffer is w;
      };
    }
    by false = record { count = 0; within = omega arith; step = same s }

reports_drops : (old new : LogState) (seconds : ℕ) → ReportsDrops old new seconds → AccountsUpTo 1 old new
reports_drops old new seconds (inl p) = rw p.1 (record { count = 0; within = omega arith; step = same old })
reports_drops old new seconds (inr p) = by p.1.0 p.1.1 p.1.2
  where
    by : (line : Option (List ℕ)) → Formats old.format seconds (Dropped old.buffer.dropped) line → new ≡ after_drops line old → AccountsUpTo 1 old new
    by None is e = rw e (record { count = 0; within = omega arith; step = unheld old })
    by (Some line) is e =
        rw e (told old line (one_line old.format seconds (Dropped old.buffer.dropped) line is) (record { seconds = seconds; event = Dropped old.buffer.dropped; is = is }))

taken : (millis : ℕ) (s : LogState) → Accounts 0 s (after_taking millis s)
taken millis s = by (is_open s.limit millis)
  where
    by : (t : Bool)
        → Accounts 0 s (record s { limit = if t then s.limit else limited s.limit.began s.limit.passed 0; reported_suppressed = saturated (s.reported_suppressed + (if t then 0 else s.limit.suppressed)) })
    by true = record {
      exact = λ h. (record { lost = h.lost; suppressed = omega (arith, h.suppressed) }, omega (arith, h.suppressed));
      grows = steady s;
      whole = λ output w. w;
    }
    by false = record {
      exact = λ h. (record { lost = h.lost; suppressed = omega (arith, h.suppressed) }, omega (arith, h.suppressed));
      grows = steady s;
      whole = λ output w. w;
    }

reports_suppressed : (old new : LogState) (seconds millis : ℕ) → ReportsSuppressed old new seconds millis → AccountsUpTo 1 old new
reports_suppressed old new seconds millis (inl p) = rw p.1 (record { count = 0; within = omega arith; step = taken millis old })
reports_suppressed old new seconds millis (inr p) = record {
  count = 0 + 1;
  within = omega arith;
  step =
      then_on 0 1 old (after_taking millis old) new (taken millis old)
      (offers (after_taking millis old) new seconds (Suppressed (lines_to_report old.limit millis) limit_seconds) p.1);
}

pub reports_due : (old new : LogState) (seconds millis : ℕ) → ReportsDue old new seconds millis → AccountsUpTo 2 old new
reports_due old new seconds millis p =
    let drops = reports_drops old p.0 seconds p.1 in
    let suppressed = reports_suppressed p.0 new seconds millis p.2 in
    record {
      count = drops.count + suppressed.count;
      within = omega (arith, drops.within, suppressed.within);
      step = then_on drops.count suppressed.count old p.0 new drops.step suppressed.step;
    }

-- ---- events

same_numbers : (s : LogState) (began : Option ℕ) (passed : ℕ) → Accounts 0 s (with_limit (limited began passed s.limit.suppressed) s)
same_numbers s began passed = record {
  exact = λ h. (record { lost = h.lost; suppressed = h.suppressed }, omega arith);
  grows = steady s;
  whole = λ output w. w;
}

-- what the limit does to a line about a client, by its tests
abbrev pub judged : LogState → ℕ → Bool → Bool → Bool → LogState
judged s now client open_window below =
    if client
    then with_limit
    (if not open_window then limited (Some now) 1 s.limit.suppressed
    else if below then limited s.limit.began (s.limit.passed + 1) s.limit.suppressed
    else limited s.limit.began s.limit.passed (saturated (s.limit.suppressed + 1))) s
    else s

admits : (s : LogState) (now : ℕ) (client open_window below : Bool) → (not client || (not open_window || below)) ≡ true → Accounts 0 s (judged s now client open_window below)
admits s now false open_window below h = same s
admits s now true false below h = same_numbers s (Some now) 1
admits s now true true true h = same_numbers s s.limit.began (s.limit.passed + 1)
admits s now true true false h = cc

suppresses : (s : LogState) (now : ℕ) (client open_window below : Bool) → (not client || (not open_window || below)) ≡ false → Accounts 1 s (judged s now client open_window below)
suppresses s now false open_window below h = absurd (apart h)
  where
    apart : true ≡ false → ⊥
    apart e = cc
suppresses s now true false below h = absurd (apart h)
  where
    apart : true ≡ false → ⊥
    apart e = cc
suppresses s now true true true h = absurd (apart h)
  where
    apart : true ≡ false → ⊥
    apart e = cc
suppresses s now true true false h = record {
  exact = λ x. (record { lost = x.lost; suppressed = omega (arith, x.suppressed) }, omega (arith, x.suppressed));
  grows = steady s;
  whole = λ output w. w;
}

adds_own : (old new : LogState) (seconds millis : ℕ) (event : LogEvent) → AddsOwn old new seconds millis event → Accounts 1 old new
adds_own old new seconds millis event (inl p) =
    let now = counted old millis event in
    then_on 0 1 old now new (admits old millis (is_of_client event) (is_open old.limit millis) (nat_lt old.limit.passed limit_lines) p.0) (offers now new seconds event p.1)
adds_own old new seconds millis event (inr p) =
    rw p.1 (suppresses old millis (is_of_client event) (is_open old.limit millis) (nat_lt old.limit.passed limit_lines) p.0)

-- what so many steps add up to
pub record Steps (came : ℕ) (old new : LogState) : Type 0 where
  pub counts : CountsLines came old new
  pub grows : Grows old new
  pub whole : StaysWhole old new

pub adds_event : (old new : LogState) (seconds millis : ℕ) (event : LogEvent) → AddsEvent old new seconds millis event → Steps 1 old new
adds_event old new seconds millis event p =
    let due = reports_due old p.0 seconds millis p.1 in
    let all = then_on due.count 1 old p.0 new due.step (adds_own p.0 new seconds millis event p.2) in
    record { counts = λ h. (due.count, due.within, omega (arith, (all.exact h).1)); grows = all.grows; whole = all.whole }

pub ticks : (old new : LogState) (seconds millis : ℕ) → ReportsDue old new seconds millis → Steps 0 old new
ticks old new seconds millis p =
    let due = reports_due old new seconds millis p in
    record { counts = λ h. (due.count, due.within, omega (arith, (due.step.exact h).1)); grows = due.step.grows; whole = due.step.whole }

-- ---- writes

-- the lines among the first bytes and behind them
split : (n : ℕ) (bytes : List ℕ) → lines_in bytes ≡ lines_in (take n bytes) + lines_in (drop n bytes)
split n bytes = omega (arith, sum_by-take-drop newline bytes n)

-- some bytes were written, of which a report was not given up
written_counted : (old : LogState) (n : ℕ) (had has : Option (List ℕ)) → n ≤ length old.buffer.bytes → Appends had has (take n old.buffer.bytes)
    → WritesCounted old (with_buffer (after_written n old.buffer) old) had has
written_counted old n had has within takes = record {
  written = take n old.buffer.bytes;
  takes = takes;
  whole = λ output w. whole_written old.format output n old.buffer w;
  counts = λ output w h.
      let long = length-take-le n old.buffer.bytes within in
      let none = ap (λ k. reports_given_up k old.buffer.report (report_behind n old.buffer.report)) long ∙ none_given_up n old.buffer.report in
      omega (arith, split n old.buffer.bytes, none);
}

-- what is given up of what waits
loss_counted : (b : Buffered) (output : List ℕ) (old : LogState) → IsWhole old.format output b → IsExact (with_buffer (after_loss b) old)
    → lines_in (take (kept_bytes b) b.bytes) + (after_loss b).lost + reports_behind (kept_bytes b) b.report ≡ lines_in b.bytes + b.lost
loss_counted b output old w h = omega (arith, h.lost, split (kept_bytes b) b.bytes, behind_counted (kept_bytes b) b.report b.bytes w.report)

lost_counted : (old : LogState) (n : ℕ) (had has : Option (List ℕ)) → n ≤ length old.buffer.bytes → Appends had has (take n old.buffer.bytes)
    → WritesCounted old (with_buffer (after_loss (after_written n old.buffer)) old) had has
lost_counted old n had has within takes = record {
  written = take n old.buffer.bytes;
  takes = takes;
  whole = λ output w.
      whole_loss old.format (output ++ take n old.buffer.bytes) (after_written n old.buffer) (whole_written old.format output n old.buffer w);
  counts = λ output w h.
      let b = after_written n old.buffer in
      let long = length-take-le n old.buffer.bytes within in
      let report = report_within (kept_bytes b) (report_behind n old.buffer.report) in
      let gone = ap (λ k. reports_given_up k old.buffer.report report) long ∙ given_up n (kept_bytes b) old.buffer.report in
      let kept = loss_counted b (output ++ take n old.buffer.bytes) old (whole_written old.format output n old.buffer w) h in
      omega (arith, split n old.buffer.bytes, gone, kept);
}

pub writes_counted : (old : LogState) (b : Buffered) (had has : Option (List ℕ)) (last : Option SinkAnswer)
    → WritesOut 4096 old.buffer b had has last → WritesCounted old (with_buffer b old) had has
writes_counted old b had has last (inl p) = rw p.0.moves (written_counted old p.0.count had has p.0.within p.0.takes)
writes_counted old b had has last (inr (inl p)) = rw p.0.moves (written_counted old p.0.count had has p.0.within p.0.takes)
writes_counted old b had has last (inr (inr p)) = rw p.loses (lost_counted old p.count had has p.within p.takes)
