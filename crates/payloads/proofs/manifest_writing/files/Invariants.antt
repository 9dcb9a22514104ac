use Rattle.std.proofs.Common.{◌≡◌, take}
use Rattle.std.specs.List.{All}
use Rattle.payloads.specs.ManifestBytes.{files_bytes}
use Rattle.payloads.specs.ManifestRefusal.{HasHash}
use Rattle.payloads.proofs.manifest_writing.files.Given as goal

-- the list of the files so far, and each has its hash
abbrev pub invariant-loop-file : goal.invariant-loop-file
invariant-loop-file l = (l.list ≡ files_bytes (take l.file-index l.files)) × All HasHash (take l.file-index l.files)
