-- The output of a log, worked out.
use Rattle.std.specs.Prelude.{◌≡◌, true, false, [], codes, refl, Some, None}
use Rattle.log_output.specs.Buffers.{after_line, after_loss, after_report, after_written, buffered, is_report_due, is_torn_after, line_length, lines_in, report_of}
use Rattle.log_output.specs.Limits.{after_client_line, is_open, limited, lines_to_report}

two_lines : lines_in (codes "a\nb\n") ≡ 2
two_lines = refl

-- A line follows the others, and no line follows a gap.
behind_the_others : after_line (codes "b\n") (buffered (codes "a\n") 0 0 None false) ≡ buffered (codes "a\nb\n") 0 0 None false
behind_the_others = refl

behind_a_gap : after_line (codes "b\n") (buffered (codes "a\n") 1 1 None false) ≡ buffered (codes "a\n") 2 2 None false
behind_a_gap = refl

-- A report fills the gap, and lines follow it. Its lines are reported when its last byte was written.
a_report_fills_the_gap : after_report (codes "r\n") (buffered (codes "a\n") 2 2 None false) ≡ buffered (codes "a\nr\n") 2 2 (Some (report_of 2 3)) false
a_report_fills_the_gap = refl

behind_a_report : after_line (codes "b\n") (buffered (codes "r\n") 2 2 (Some (report_of 2 1)) false) ≡ buffered (codes "r\nb\n") 2 2 (Some (report_of 2 1)) false
behind_a_report = refl

a_report_is_not_whole : after_written 3 (buffered (codes "a\nr\nb\n") 2 2 (Some (report_of 2 3)) false) ≡ buffered (codes "\nb\n") 2 2 (Some (report_of 2 0)) true
a_report_is_not_whole = refl

a_report_is_whole : after_written 4 (buffered (codes "a\nr\nb\n") 2 2 (Some (report_of 2 3)) false) ≡ buffered (codes "b\n") 2 0 None false
a_report_is_whole = refl

-- Lines that are lost meanwhile are for the next report.
behind_a_report_and_a_gap : after_line (codes "b\n") (buffered (codes "r\n") 3 3 (Some (report_of 2 1)) false) ≡ buffered (codes "r\n") 4 4 (Some (report_of 2 1)) false
behind_a_report_and_a_gap = refl

no_second_report : is_report_due (buffered (codes "r\n") 3 3 (Some (report_of 2 1)) false) ≡ false
no_second_report = refl

what_it_left : after_written 2 (buffered (codes "r\n") 3 3 (Some (report_of 2 1)) false) ≡ buffered [] 3 1 None false
what_it_left = refl

-- The head of a line was written: its rest is kept, and is no lost line.
two_lines_are_lost : after_loss (buffered (codes "eady\nb\nc\n") 1 1 None true) ≡ buffered (codes "eady\n") 3 3 None true
two_lines_are_lost = refl

all_lines_are_lost : after_loss (buffered (codes "a\nb\n") 1 1 None false) ≡ buffered [] 3 3 None false
all_lines_are_lost = refl

-- A report is no lost line, and what it reports is not reported.
a_report_is_given_up : after_loss (buffered (codes "r\nb\n") 2 2 (Some (report_of 2 1)) false) ≡ buffered [] 3 3 None false
a_report_is_given_up = refl

a_torn_report_is_kept : after_loss (buffered (codes "eport\nb\n") 2 2 (Some (report_of 2 5)) true) ≡ buffered (codes "eport\n") 3 3 (Some (report_of 2 5)) true
a_torn_report_is_kept = refl

torn : is_torn_after false (codes "a\nb") ≡ true
torn = refl

not_torn : is_torn_after true (codes "b\n") ≡ false
not_torn = refl

without_a_newline : line_length (codes "ab") ≡ 2
without_a_newline = refl

-- both sides of the end of a window
last_moment : is_open (limited (Some 7) 1000 0) 10006 ≡ true
last_moment = refl

behind_the_window : is_open (limited (Some 7) 1000 0) 10007 ≡ false
behind_the_window = refl

-- both sides of the limit
last_line : after_client_line (limited (Some 7) 999 0) 10006 ≡ limited (Some 7) 1000 0
last_line = refl

a_line_too_many : after_client_line (limited (Some 7) 1000 0) 10006 ≡ limited (Some 7) 1000 1
a_line_too_many = refl

a_new_window : after_client_line (limited (Some 7) 1000 5) 10007 ≡ limited (Some 10007) 1 5
a_new_window = refl

-- Suppressed lines are reported after the window.
not_yet_reported : lines_to_report (limited (Some 7) 1000 5) 10006 ≡ 0
not_yet_reported = refl

reported : lines_to_report (limited (Some 7) 1000 5) 10007 ≡ 5
reported = refl
