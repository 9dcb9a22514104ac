use Rattle.session_names.proofs.RunLaws.{restart_is_later, restart_at_once_is_later}
use Rattle.session_names.proofs.laws.restart_is_later.Goals as goal

pub returns-clause-later : goal.returns-clause-later
returns-clause-later c = restart_is_later

pub returns-clause-at_once : goal.returns-clause-at_once
returns-clause-at_once c = restart_at_once_is_later
