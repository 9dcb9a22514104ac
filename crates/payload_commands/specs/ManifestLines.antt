-- What the program prints of a manifest.
use Rattle.std.specs.Prelude.{ℕ, List, ◌++◌, codes}
use Rattle.std.specs.List.{flat_map}
use Rattle.hex.specs.Hex.{encode_lower}
use Rattle.der_lite.specs.Moments.{moment_text}
use Rattle.payloads.specs.Manifest.{ListedFile, ManifestValue}

-- the number's content in hexadecimal, thisUpdate, nextUpdate
abbrev pub front_lines : ManifestValue → List ℕ
front_lines m =
    codes "number " ++ encode_lower m.number ++ codes "\n" ++ (codes "this " ++ moment_text m.this_update ++ codes "\n") ++ (codes "next " ++ moment_text m.next_update ++ codes "\n")

-- a file: its hash in hexadecimal, its name
abbrev pub file_line : ListedFile → List ℕ
file_line file = encode_lower file.hash ++ codes " " ++ file.name ++ codes "\n"

-- the lines in front, and then one for each file
abbrev pub manifest_lines : ManifestValue → List ℕ
manifest_lines m = front_lines m ++ flat_map file_line m.files
