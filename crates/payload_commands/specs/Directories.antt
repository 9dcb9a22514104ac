-- What a directory offers to a publication point.
use Rattle.std.specs.Prelude.{◌≡◌, ℕ, List, map}
use Rattle.std.specs.String.{string_bytes}
use Rattle.points.specs.declared.file.FileIn.{FileIn}
use Rattle.payload_commands.specs.declared.directories.Directory.{Directory}
use Rattle.payload_commands.specs.declared.directories.ReadFile.{ReadFile}

-- The name, the object and the content of a file that was read, and of one that is supplied
abbrev pub parts_read : ReadFile → List ℕ × (List ℕ × List ℕ)
parts_read file = (string_bytes file.name, (file.object.items, file.content.items))

abbrev pub parts_supplied : FileIn → List ℕ × (List ℕ × List ℕ)
parts_supplied file = (file.name.now, (file.object.now, file.content.now))

-- The files that were read are supplied, in their order.
abbrev pub Supplies : Directory → List FileIn → Type 0
Supplies directory files = map parts_supplied files ≡ map parts_read directory.files.items
