-- Characters of texts from outside, escaped.
use Rattle.std.specs.Prelude.{ℕ, ◌/◌, ◌%◌, List, [], ◌∷◌, ◌++◌, ◌==◌, ◌||◌, nat_lt, if◌then◌else◌, codes, encode_utf8}
use Rattle.std.specs.Char.{digit_char}

-- A character in HTML: those with a meaning in markup are character references (the HTML Standard, section 13.1.4).
unfoldable pub html_char : ℕ → List ℕ
html_char c =
    if c == 38 then codes "&amp;"
    else if c == 60 then codes "&lt;"
    else if c == 62 then codes "&gt;"
    else if c == 34 then codes "&quot;"
    else if c == 39 then codes "&#39;"
    else encode_utf8 c

-- A character of a label value: a backslash, a quote and a newline are escaped by a backslash (Prometheus, text-based format).
unfoldable pub label_char : ℕ → List ℕ
label_char c =
    if c == 92 then codes "\\\\"
    else if c == 34 then codes "\\\""
    else if c == 10 then codes "\\n"
    else encode_utf8 c

-- A character below 32 by its number (RFC 8259 section 7)
abbrev pub control_escape : ℕ → List ℕ
control_escape c = codes "\\u00" ++ digit_char (c / 16) ∷ digit_char (c % 16) ∷ []

-- A character of a JSON text: a quote, a backslash and the characters below 32 are escaped (section 7).
unfoldable pub json_char : ℕ → List ℕ
json_char c =
    if c == 34 || c == 92 then codes "\\" ++ encode_utf8 c
    else if nat_lt c 32 then control_escape c
    else encode_utf8 c
