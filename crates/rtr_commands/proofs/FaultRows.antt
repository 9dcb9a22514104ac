-- The numbers of faults, worked out.
use Rattle.std.specs.Prelude.{◌≡◌, refl}
use Rattle.rtr_commands.specs.AnswerFaults.{answer_fault_number}
use Rattle.rtr_commands.specs.declared.answering.AnswerFault.TheVariants as answers

numbers : (answer_fault_number answers.BadHex ≡ 1) × (answer_fault_number answers.Memory ≡ 2)
numbers = (refl, refl)
