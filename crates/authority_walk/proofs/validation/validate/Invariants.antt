use Rattle.std.proofs.Common.{◌≡◌}
use Rattle.authority_walk.specs.Stands.{Stands}
use Rattle.authority_walk.proofs.validation.validate.Given as goal

abbrev pub invariant-loop-depth : goal.invariant-loop-depth
invariant-loop-depth g l =
    Stands g.R.Authority.Ord.cmp g.R.Reader.value (g.R.Reader.hierarchy (g.R.Reader.files l.fn.reader)) l.walk × (l.walk.depth ≡ l._depth) × (g.R.Reader.files l.reader ≡ g.R.Reader.files l.fn.reader)
