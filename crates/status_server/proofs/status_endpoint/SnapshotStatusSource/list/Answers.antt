use Rattle.status_server.proofs.VersionLaws.{answer_is_shown}
use Rattle.status_server.proofs.status_endpoint.SnapshotStatusSource.list.Goals as goal

pub returns-clause-shown : goal.returns-clause-shown
returns-clause-shown g c = answer_is_shown c.args.form _ _ c.list.result c.list.ensures.list
