-- Lines of the log, worked out.
use Rattle.std.specs.Prelude.{◌≡◌, true, false, ◌∷◌, [], codes, refl}
use Rattle.std.specs.Char.{encode_utf8}
use Rattle.std.specs.Fmt.{digits}
use Rattle.std.specs.Str.{chars}
use Rattle.event_log.specs.declared.line.LogFormat.TheVariants as form
use Rattle.event_log.specs.declared.level.LogLevel.TheVariants as level
use Rattle.event_log.specs.Entries.{Nothing, of_number, of_text, entry}
use Rattle.event_log.specs.Lines.{escaped, log_char, quoted, is_plain, line_text}
use Rattle.event_log.specs.ReportNames.{report_name}

-- a blank, a newline, a quote and a backslash
in_quotes : quoted (codes "a b\n\"\\") ≡ codes "\"a b\\u000a\\\"\\\\\""
unfolding quoted escaped log_char chars encode_utf8
in_quotes = refl

-- both ends of the control characters
first_control : escaped 0 ≡ codes "\\u0000"
unfolding escaped log_char
first_control = refl

before_blank : escaped 31 ≡ codes "\\u001f"
unfolding escaped log_char
before_blank = refl

delete : escaped 127 ≡ codes "\\u007f"
unfolding escaped log_char
delete = refl

last_control : escaped 159 ≡ codes "\\u009f"
unfolding escaped log_char
last_control = refl

behind_controls : escaped 160 ≡ 194 ∷ 160 ∷ []
unfolding escaped log_char encode_utf8
behind_controls = refl

no_text : is_plain [] ≡ false
no_text = refl

a_path : is_plain (codes "/var/lib/vrps.json") ≡ true
a_path = refl

with_equals_sign : is_plain (codes "a=b") ≡ false
with_equals_sign = refl

with_blank : is_plain (codes "a b") ≡ false
with_blank = refl

first_visible : is_plain (33 ∷ []) ≡ true
first_visible = refl

last_visible : is_plain (126 ∷ []) ≡ true
last_visible = refl

behind_visible : is_plain (127 ∷ []) ≡ false
behind_visible = refl

-- a line in each form
plain_line : line_text form.Text (codes "T") level.Info (codes "client-gone") (of_text (codes "why") (codes "a b") ∷ entry (codes "version") Nothing ∷ of_number (codes "read") 12 ∷ [])
    ≡ codes "T client-gone why=\"a b\" version=none read=12\n"
unfolding quoted escaped log_char chars digits encode_utf8
plain_line = refl

json_line : line_text form.Json (codes "T") level.Info (codes "client-gone") (of_text (codes "why") (codes "a b") ∷ entry (codes "version") Nothing ∷ of_number (codes "read") 12 ∷ [])
    ≡ codes "{\"time\":\"T\",\"level\":\"info\",\"event\":\"client-gone\",\"why\":\"a b\",\"version\":null,\"read\":12}\n"
unfolding quoted escaped log_char chars digits encode_utf8
json_line = refl

systemd_line : line_text form.Systemd (codes "T") level.Info (codes "client-gone") (of_text (codes "why") (codes "a b") ∷ entry (codes "version") Nothing ∷ of_number (codes "read") 12 ∷ [])
    ≡ codes "<6>T client-gone why=\"a b\" version=none read=12\n"
unfolding quoted escaped log_char chars digits encode_utf8
systemd_line = refl

without_values : line_text form.Text (codes "T") level.Notice (codes "ready") [] ≡ codes "T ready\n"
without_values = refl

-- each level, with the numbers of sd-daemon(3): SD_ERR, SD_WARNING, SD_NOTICE and SD_INFO
systemd_error : line_text form.Systemd (codes "T") level.Error (codes "failed") [] ≡ codes "<3>T failed\n"
unfolding digits
systemd_error = refl

json_error : line_text form.Json (codes "T") level.Error (codes "failed") [] ≡ codes "{\"time\":\"T\",\"level\":\"error\",\"event\":\"failed\"}\n"
json_error = refl

text_error : line_text form.Text (codes "T") level.Error (codes "failed") [] ≡ codes "T failed\n"
text_error = refl

systemd_warning : line_text form.Systemd (codes "T") level.Warning (codes "warning") [] ≡ codes "<4>T warning\n"
unfolding digits
systemd_warning = refl

json_warning : line_text form.Json (codes "T") level.Warning (codes "warning") [] ≡ codes "{\"time\":\"T\",\"level\":\"warning\",\"event\":\"warning\"}\n"
json_warning = refl

text_warning : line_text form.Text (codes "T") level.Warning (codes "warning") [] ≡ codes "T warning\n"
text_warning = refl

systemd_notice : line_text form.Systemd (codes "T") level.Notice (codes "ready") [] ≡ codes "<5>T ready\n"
unfolding digits
systemd_notice = refl

json_notice : line_text form.Json (codes "T") level.Notice (codes "ready") [] ≡ codes "{\"time\":\"T\",\"level\":\"notice\",\"event\":\"ready\"}\n"
json_notice = refl

text_notice : line_text form.Text (codes "T") level.Notice (codes "ready") [] ≡ codes "T ready\n"
text_notice = refl

systemd_info : line_text form.Systemd (codes "T") level.Info (codes "client-came") [] ≡ codes "<6>T client-came\n"
unfolding digits
systemd_info = refl

json_info : line_text form.Json (codes "T") level.Info (codes "client-came") [] ≡ codes "{\"time\":\"T\",\"level\":\"info\",\"event\":\"client-came\"}\n"
json_info = refl

text_info : line_text form.Text (codes "T") level.Info (codes "client-came") [] ≡ codes "T client-came\n"
text_info = refl

-- the ends of the codes of Error Reports that have a name
first_code : report_name 0 ≡ codes "Corrupt Data"
first_code = refl

last_code : report_name 8 ≡ codes "Unexpected Protocol Version"
last_code = refl

behind_the_last_code : report_name 9 ≡ codes "unknown"
behind_the_last_code = refl
