use Rattle.status_server.proofs.VersionLaws.{dropped_keeps, list_step}
use Rattle.status_server.proofs.version_cache.VersionCache.list.Goals as goal

pub returns-in_default-clause-keeps : goal.returns-in_default-clause-keeps
returns-in_default-clause-keeps c = dropped_keeps _ _ _ c.drop_old.ensures

pub returns-in_err-list_of-clause-keeps : goal.returns-in_err-list_of-clause-keeps
returns-in_err-list_of-clause-keeps c = list_step _ _ _ _ _ _ c.in-Some.is c.drop_old.ensures c.args.form c.list_of.ensures.keeps

pub returns-clause-keeps : goal.returns-clause-keeps
returns-clause-keeps c = list_step _ _ _ _ _ _ c.in-Some.is c.drop_old.ensures c.args.form c.list_of.ensures.keeps
