-- The numbers of faults.
use Rattle.std.specs.Prelude.{ℕ}
use Rattle.rtr_commands.specs.declared.answering.AnswerFault.{AnswerFault}
use Rattle.rtr_commands.specs.declared.answering.AnswerFault.TheVariants as answers

abbrev pub answer_fault_number : AnswerFault → ℕ
answer_fault_number answers.BadHex = 1
answer_fault_number answers.Memory = 2
