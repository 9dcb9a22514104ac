-- Texts inside other text, and a record as JSON, worked out.
use Rattle.std.proofs.Common.{◌≡◌, ◌++◌, codes, flat_map, refl}
use Rattle.std.specs.Char.{encode_utf8}
use Rattle.std.specs.Fmt.{digits}
use Rattle.std.specs.Str.{chars}
use Rattle.prefixes.specs.Text.{written_text}
use Rattle.prefixes.specs.declared.prefix.IpPrefix.{IpPrefix}
use Rattle.status_pages.specs.Escapes.{html_char, json_char, label_char}
use Rattle.status_pages.specs.ValidityText.{vrp_text}

-- what could begin or end something else in HTML
in_html : flat_map html_char (chars (codes "a<b>&\"'")) ≡ codes "a&lt;b&gt;&amp;&quot;&#39;"
unfolding html_char chars encode_utf8
in_html = refl

-- a backslash, a quote and a newline in a label
in_label : flat_map label_char (chars (codes "a\\b\"c\nd")) ≡ codes "a\\\\b\\\"c\\nd"
unfolding label_char chars encode_utf8
in_label = refl

-- a quote, a backslash and a control character in JSON
in_json : flat_map json_char (chars (codes "a\"b\\c\nd")) ≡ codes "a\\\"b\\\\c\\u000ad"
unfolding json_char chars encode_utf8
in_json = refl

-- a record
as_json : (p : IpPrefix) → vrp_text (record { prefix = p; max_len = 24; asn = 64496 }) ≡ codes "{\"asn\":\"AS64496\",\"prefix\":\"" ++ (written_text p ++ codes "\",\"max_length\":\"24\"}")
unfolding vrp_text digits
as_json p = refl
