-- What the program prints of a ROA.
use Rattle.std.specs.Prelude.{ℕ, List, ◌++◌, codes}
use Rattle.std.specs.List.{flat_map}
use Rattle.std.specs.Fmt.{decimal}
use Rattle.prefixes.specs.Text.{written_text}
use Rattle.payloads.specs.declared.roa_entry.RoaEntry.{RoaEntry}
use Rattle.payloads.specs.RoaEntries.{greatest_length}
use Rattle.payloads.specs.RoaValues.{RoaValue}

-- an entry: the prefix, the maximum length, the AS
abbrev pub entry_line : ℕ → RoaEntry → List ℕ
entry_line asn entry = written_text entry.prefix ++ codes " " ++ decimal (greatest_length entry) ++ codes " " ++ decimal asn ++ codes "\n"

-- a line for each entry, in their order
abbrev pub roa_lines : RoaValue → List ℕ
roa_lines roa = flat_map (entry_line roa.asn) roa.entries
