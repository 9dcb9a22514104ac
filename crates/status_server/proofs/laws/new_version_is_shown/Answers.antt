use Rattle.status_server.proofs.VersionLaws.{drop_keeps, new_is_shown}
use Rattle.status_server.proofs.laws.new_version_is_shown.Goals as goal

pub returns-clause-shown : goal.returns-clause-shown
returns-clause-shown c = new_is_shown

pub returns-clause-dropped : goal.returns-clause-dropped
returns-clause-dropped c = drop_keeps
