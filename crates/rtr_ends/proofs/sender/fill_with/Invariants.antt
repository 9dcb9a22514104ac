use Rattle.rtr_ends.proofs.Words.{map, Prefix}
use Rattle.rtr_ends.specs.Sender.{FillsWith}
use Rattle.rtr_ends.proofs.sender.fill_with.Given as goal

-- the records so far are written
abbrev pub invariant-loop-count : goal.invariant-loop-count
invariant-loop-count l = FillsWith l.version (map (λ v. Prefix l.announce v) l.records) l.fn.out l.filled l.count l.end l.out
