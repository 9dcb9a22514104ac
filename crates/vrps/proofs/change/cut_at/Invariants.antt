use Rattle.std.proofs.Common.{◌≡◌, take}
use Rattle.std.specs.List.{All}
use Rattle.std.specs.declared.cmp.Ordering.TheVariants.{Less}
use Rattle.prefixes.specs.Payload.{vrp_cmp}
use Rattle.vrps.proofs.change.cut_at.Given as goal

-- the records so far are below
abbrev pub invariant-loop-index : goal.invariant-loop-index
invariant-loop-index l = All (λ v. vrp_cmp v l.at ≡ Less) (take l.index l.records)
