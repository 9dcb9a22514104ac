use Rattle.std.proofs.Common.{◌∙◌, ap}
use Rattle.std.specs.Prelude.{slice_get}
use Rattle.vrps.proofs.log.VersionLog.newest_step.Goals as goal

pub returns : goal.returns
returns c = λ keep i h. c.front.ensures ∙ ap (λ l. slice_get l 0) (ap (λ s. s.steps) c.self.view_is ∙ h.steps_are)
