use Rattle.std.proofs.Common.{flat_map, map, take}
use Rattle.std.specs.Io.KnownBytes.{Appends}
use Rattle.event_log.specs.Entries.{log_pair}
use Rattle.event_log.specs.Lines.{entry_text}
use Rattle.event_log.proofs.line.write_pairs.Given as goal

-- the pairs before this one are written
abbrev pub invariant-loop-pair : goal.invariant-loop-pair
invariant-loop-pair g l =
    Appends (g.W.Write.contents l.initial.out) (g.W.Write.contents l.out) (flat_map (entry_text l.form) (map log_pair (take l.pair-index l.pairs)))
