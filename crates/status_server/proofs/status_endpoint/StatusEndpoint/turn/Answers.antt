use Rattle.status_server.specs.Versions.{version_of}
use Rattle.status_server.proofs.VersionLaws.{dropped_keeps, turns_as}
use Rattle.status_server.proofs.status_endpoint.StatusEndpoint.turn.Goals as goal

-- What was made of an older version was dropped, which changes no answer.
pub returns : goal.returns
returns g c = record {
  version = version_of c.current-version.result;
  is = c.current-version.ensures;
  turns = turns_as _ _ _ _ _ _ _ _ _ _ (dropped_keeps _ _ _ c.drop_old.ensures) c.text_of-name.ensures c.turn.ensures;
}
