-- The records as the array of objects that Routinator and StayRTR write.
use Rattle.std.specs.Prelude.{ℕ, List, [], ◌∷◌, ◌++◌, codes}
use Rattle.std.specs.Fmt.{decimal}
use Rattle.std.specs.List.{concat, flat_map}
use Rattle.prefixes.specs.Payload.{Payload}
use Rattle.prefixes.specs.Text.{written_text}

-- A record: its AS as a text, its prefix and its maximum length. Its trust anchor is not known.
unfoldable pub roa_text : Payload → List ℕ
roa_text v =
    concat (codes "{\"asn\":\"AS" ∷ decimal v.asn ∷ codes "\",\"prefix\":\"" ∷ written_text v.prefix ∷ codes "\",\"maxLength\":" ∷ decimal v.max_len ∷ codes ",\"ta\":\"\"}" ∷ [])

-- records, separated by commas
abbrev pub roa_after_comma : Payload → List ℕ
roa_after_comma v = codes "," ++ roa_text v

abbrev pub joined_roas : List Payload → List ℕ
joined_roas [] = []
joined_roas (v ∷ vs) = roa_text v ++ flat_map roa_after_comma vs

unfoldable pub roas_text : List Payload → List ℕ
roas_text vs = codes "[" ++ joined_roas vs ++ codes "]"
