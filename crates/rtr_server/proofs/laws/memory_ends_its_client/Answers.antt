use Rattle.rtr_server.proofs.MemoryLaws.{memory_ends}
use Rattle.rtr_server.proofs.laws.memory_ends_its_client.Goals as goal

pub returns : goal.returns
returns c = memory_ends
