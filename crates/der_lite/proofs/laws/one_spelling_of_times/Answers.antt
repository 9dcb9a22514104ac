use Rattle.der_lite.specs.Times.{timed, timed_at}
use Rattle.der_lite.proofs.GrammarLaws.{one_front}
use Rattle.der_lite.proofs.TimeLaws.{exact_timed, spelled_once}
use Rattle.der_lite.proofs.laws.one_spelling_of_times.Goals as goal

pub returns : goal.returns
returns c = λ rules. (spelled_once rules, one_front (timed rules) (timed_at rules) (exact_timed rules))
