-- The lines of the event log, in each format.
use Rattle.std.specs.Prelude.{ℕ, ◌/◌, ◌%◌, Bool, not, ◌&&◌, ◌||◌, ◌==◌, if◌then◌else◌, List, [], ◌∷◌, ◌++◌, length, codes, Option, encode_utf8}
use Rattle.std.specs.Char.{digit_char, is_control}
use Rattle.std.specs.Fmt.{decimal}
use Rattle.std.specs.Io.KnownBytes.{Appends}
use Rattle.std.specs.List.{flat_map, list_all}
use Rattle.std.specs.Net.Text.{socket_text}
use Rattle.std.specs.Str.{chars}
use Rattle.der_lite.specs.Moments.{CivilMoment, is_between}
use Rattle.event_log.specs.declared.line.LogFormat.{LogFormat}
use Rattle.event_log.specs.declared.line.LogFormat.TheVariants as form
use Rattle.event_log.specs.declared.event.LogEvent.{LogEvent}
use Rattle.event_log.specs.declared.level.LogLevel.{LogLevel}
use Rattle.event_log.specs.Clock.{IsAt, time_text}
use Rattle.event_log.specs.Entries.{Entry, LogValue, Nothing, Number, Address, Text, word_of, entries_of}
use Rattle.event_log.specs.Levels.{level_of, level_word, severity}

-- A character of a quoted text (RFC 8259 section 7): a control character is escaped by its number, so that no line is broken.
unfoldable pub log_char : ℕ → List ℕ
log_char c = if is_control c then codes "\\u00" ++ digit_char (c / 16) ∷ digit_char (c % 16) ∷ [] else encode_utf8 c

-- A quote and a backslash are escaped by a backslash.
unfoldable pub escaped : ℕ → List ℕ
escaped c = if c == 34 || c == 92 then 92 ∷ c ∷ [] else log_char c

unfoldable pub quoted : List ℕ → List ℕ
quoted s = 34 ∷ (flat_map escaped (chars s) ++ 34 ∷ [])

-- A text that needs no quotes has only visible ASCII characters, and no quote, no equals sign and no backslash.
abbrev pub is_plain_byte : ℕ → Bool
is_plain_byte b = is_between 33 126 b && not (b == 34 || b == 61 || b == 92)

abbrev pub is_plain : List ℕ → Bool
is_plain s = not (length s == 0) && list_all is_plain_byte s

-- ---- values

abbrev pub plain_value : LogValue → List ℕ
plain_value Nothing = codes "none"
plain_value (Number n) = decimal n
plain_value (Address a) = socket_text a
plain_value (Text s) = if is_plain s then s else quoted s

abbrev pub json_value : LogValue → List ℕ
json_value Nothing = codes "null"
json_value (Number n) = decimal n
json_value (Address a) = 34 ∷ (socket_text a ++ 34 ∷ [])
json_value (Text s) = quoted s

-- ---- lines

abbrev pub plain_entry : Entry → List ℕ
plain_entry e = codes " " ++ e.key ++ codes "=" ++ plain_value e.value

abbrev pub json_entry : Entry → List ℕ
json_entry e = codes ",\"" ++ e.key ++ codes "\":" ++ json_value e.value

abbrev pub entry_text : LogFormat → Entry → List ℕ
entry_text form.Text e = plain_entry e
entry_text form.Json e = json_entry e
entry_text form.Systemd e = plain_entry e

abbrev pub plain_head : List ℕ → List ℕ → List ℕ
plain_head time word = time ++ codes " " ++ word

-- For systemd the severity comes first, as `<N>` (sd-daemon(3)).
abbrev pub head_text : LogFormat → List ℕ → LogLevel → List ℕ → List ℕ
head_text form.Text time level word = plain_head time word
head_text form.Json time level word =
    codes "{\"time\":\"" ++ time ++ (codes "\",\"level\":\"" ++ level_word level) ++ (codes "\",\"event\":\"" ++ word ++ codes "\"")
head_text form.Systemd time level word = codes "<" ++ decimal (severity level) ++ codes ">" ++ plain_head time word

abbrev pub end_text : LogFormat → List ℕ
end_text form.Text = codes "\n"
end_text form.Json = codes "}\n"
end_text form.Systemd = codes "\n"

-- a word with its values, at a time and a level
abbrev pub line_text : LogFormat → List ℕ → LogLevel → List ℕ → List Entry → List ℕ
line_text form time level word entries = head_text form time level word ++ flat_map (entry_text form) entries ++ end_text form

-- One line is appended: that of an event at this second.
abbrev pub LogsEvent : Option (List ℕ) → Option (List ℕ) → LogFormat → ℕ → LogEvent → Type 0
LogsEvent old new form seconds event =
    (m : CivilMoment) × IsAt m seconds × Appends old new (line_text form (time_text m) (level_of event) (word_of event) (entries_of event))
