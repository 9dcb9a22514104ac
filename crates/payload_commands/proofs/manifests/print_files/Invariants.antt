use Rattle.std.proofs.Common.{take}
use Rattle.std.specs.List.{flat_map}
use Rattle.std.specs.Io.KnownBytes.{Appends}
use Rattle.payload_commands.specs.ManifestLines.{file_line}
use Rattle.payload_commands.proofs.manifests.print_files.Given as goal

-- the files so far are printed
abbrev pub invariant-loop-file : goal.invariant-loop-file
invariant-loop-file g l = Appends (g.W.Write.contents l.initial.out) (g.W.Write.contents l.out) (flat_map file_line (take l.file-index l.files))
