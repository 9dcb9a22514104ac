-- So far the files before this one are supplied.
use Rattle.std.proofs.Common.{◌≡◌, map, take}
use Rattle.payload_commands.specs.Directories.{parts_read, parts_supplied}
use Rattle.payload_commands.proofs.directories.Directory.files.Given as goal

abbrev pub invariant-loop-file : goal.invariant-loop-file
invariant-loop-file l = map parts_supplied l.files.items ≡ map parts_read (take l.file-index l.self.files.items)
