use Rattle.rtr_commands.specs.Lines.{cache_of}
use Rattle.rtr_commands.proofs.answering.answer_lines.Goals as goal

pub answers_of-requires : goal.answers_of-requires
answers_of-requires c = (cache_of c.args.session c.args.session0 c.args.serial c.args.set, c.in_ok-cache.ensures)
