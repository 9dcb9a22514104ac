-- A record in each form, and the start of an export, worked out.
use Rattle.std.proofs.Common.{◌≡◌, ◌++◌, codes, refl}
use Rattle.std.specs.Fmt.{digits}
use Rattle.prefixes.specs.Text.{written_text}
use Rattle.prefixes.specs.declared.prefix.IpPrefix.{IpPrefix}
use Rattle.status_pages.specs.Csv.{csv_line}
use Rattle.status_pages.specs.Export.{routinator_head}
use Rattle.status_pages.specs.Roas.{roa_text}

-- three columns
in_csv : (p : IpPrefix) → csv_line (codes "\n") (record { prefix = p; max_len = 24; asn = 64496 }) ≡ codes "AS64496," ++ (written_text p ++ codes ",24\n")
unfolding csv_line digits
in_csv p = refl

-- and four, the last one without a text
in_routinator_csv : (p : IpPrefix) → csv_line (codes ",\n") (record { prefix = p; max_len = 24; asn = 64496 }) ≡ codes "AS64496," ++ (written_text p ++ codes ",24,\n")
unfolding csv_line digits
in_routinator_csv p = refl

-- an object of Routinator's array
as_roa : (p : IpPrefix) → roa_text (record { prefix = p; max_len = 24; asn = 64496 }) ≡ codes "{\"asn\":\"AS64496\",\"prefix\":\"" ++ (written_text p ++ codes "\",\"maxLength\":24,\"ta\":\"\"}")
unfolding roa_text digits
as_roa p = refl

-- and what is before them
before_roas : routinator_head (codes "2026-11-26T00:27:00Z") 1795652820 ≡ codes "{\"metadata\":{\"generated\":1795652820,\"generatedTime\":\"2026-11-26T00:27:00Z\"},\"roas\":"
unfolding routinator_head digits
before_roas = refl
