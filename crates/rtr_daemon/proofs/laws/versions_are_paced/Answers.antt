use Rattle.rtr_daemon.proofs.PacingLaws.{drops_later, drops_paced, restarts_later, stays_paced}
use Rattle.rtr_daemon.proofs.laws.versions_are_paced.Goals as goal

pub returns-clause-stays : goal.returns-clause-stays
returns-clause-stays c = stays_paced

pub returns-clause-drops : goal.returns-clause-drops
returns-clause-drops c = drops_paced

pub returns-clause-dropped : goal.returns-clause-dropped
returns-clause-dropped c = drops_later

pub returns-clause-restarts : goal.returns-clause-restarts
returns-clause-restarts c = restarts_later
