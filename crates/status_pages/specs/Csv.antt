-- The records as CSV: with three columns, and with a fourth one, as Routinator writes it.
use Rattle.std.specs.Prelude.{ℕ, List, [], ◌∷◌, ◌++◌, codes}
use Rattle.std.specs.Fmt.{decimal}
use Rattle.std.specs.List.{concat, flat_map}
use Rattle.prefixes.specs.Payload.{Payload}
use Rattle.prefixes.specs.Text.{written_text}

-- the line of a record, with this end
unfoldable pub csv_line : List ℕ → Payload → List ℕ
csv_line end v = concat (codes "AS" ∷ decimal v.asn ∷ codes "," ∷ written_text v.prefix ∷ codes "," ∷ decimal v.max_len ∷ end ∷ [])

-- the heads of the columns, and a line for each record
unfoldable pub csv_text : List Payload → List ℕ
csv_text vs = codes "ASN,IP Prefix,Max Length\n" ++ flat_map (csv_line (codes "\n")) vs

-- The same with a column for the trust anchor, which is not known.
unfoldable pub routinator_csv_text : List Payload → List ℕ
routinator_csv_text vs = codes "ASN,IP Prefix,Max Length,Trust Anchor\n" ++ flat_map (csv_line (codes ",\n")) vs
