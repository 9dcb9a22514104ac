use Rattle.std.proofs.Common.{flat_map}
use Rattle.std.specs.Io.KnownBytes.{Appends}
use Rattle.status_pages.specs.Escapes.{json_char}
use Rattle.status_pages.proofs.text.write_json.Given as goal

-- the characters so far are written
abbrev pub invariant-loop-character : goal.invariant-loop-character
invariant-loop-character g l = Appends (g.W.Write.contents l.initial.out) (g.W.Write.contents l.out) (flat_map json_char l.yielded)
