use Rattle.rtr_world.proofs.WorldSteps.{answers_now}
use Rattle.rtr_world.proofs.OneAnswers.{one_answer}
use Rattle.rtr_world.proofs.laws.one_answer.Goals as goal

pub returns : goal.returns
returns c = record { one = one_answer; now = answers_now }
