use Rattle.std.proofs.Common.{◌≡◌}
use Rattle.authority_walk.specs.Progress.{Steps}
use Rattle.authority_walk.proofs.validation.Validation.steps.Given as goal

abbrev pub invariant-loop-step : goal.invariant-loop-step
invariant-loop-step g l = (g.R.Reader.files l.self.reader ≡ g.R.Reader.files l.fn.self.reader) × Steps l._step l.fn.self l.self
