use Rattle.std.proofs.Common.{◌∙◌, ap, reverse}
use Rattle.std.specs.Prelude.{slice_get}
use Rattle.vrps.proofs.StepLaws.{from_back}
use Rattle.vrps.proofs.log.VersionLog.kept.Goals as goal

pub returns : goal.returns
returns c = λ keep i h.
    c.nth_back.ensures ∙ from_back c.self.inside.steps.items c.args.i ∙ ap (λ l. slice_get (reverse l) c.args.i) (ap (λ s. s.steps) c.self.view_is ∙ h.steps_are)
