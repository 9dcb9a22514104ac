use Rattle.std.proofs.Common.{◌≡◌, ◌++◌, string_bytes, take}
use Rattle.rpkirtrd_cli.specs.Derived.{path_lines}
use Rattle.rpkirtrd_cli.proofs.derived.add_paths.Given as goal

-- the lines before this one are written
abbrev pub invariant-loop-path : goal.invariant-loop-path
invariant-loop-path l = string_bytes l.text ≡ string_bytes l.initial.text ++ path_lines l.option (take l.path-index l.paths)
