use Rattle.rtr_pdu.proofs.JudgingLaws.{begins_exactly, faulty_exactly, whole_exactly}
use Rattle.rtr_pdu.proofs.laws.judges_exactly.Goals as goal

pub returns : goal.returns
returns c = record { begins = begins_exactly; faulty = faulty_exactly; whole = whole_exactly }
