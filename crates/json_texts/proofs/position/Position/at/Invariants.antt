use Rattle.std.proofs.Common.{take, ◌≤◌, suc}
use Rattle.json_texts.specs.Position.{StandsAt}
use Rattle.json_texts.proofs.position.Position.at.Given as goal

-- the bytes before this one are passed
abbrev pub invariant-loop-byte : goal.invariant-loop-byte
invariant-loop-byte l = StandsAt (take l.byte-index l.byte-items) l.line l.column × (l.line ≤ suc l.byte-index) × (l.column ≤ suc l.byte-index)
