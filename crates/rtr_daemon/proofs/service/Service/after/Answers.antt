use Rattle.std.proofs.Common.{◌∙◌, ap}
use Rattle.rtr_daemon.proofs.service.Service.after.Goals as goal

pub returns-clause-shows : goal.returns-clause-shows
returns-clause-shows g c none begun =
    let was = c.in_ok-service.ensures.shows begun in
    record { server = was.server; newest = was.newest; families = was.families; points = λ e. ap (λ s. s.repository) c.in_ok-service.ensures.sources ∙ none; made_with = was.made_with }
