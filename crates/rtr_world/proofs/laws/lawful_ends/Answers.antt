use Rattle.rtr_world.proofs.EndsNoted.{ends_noted, ends_kept, lawful_ends, none_by_memory}
use Rattle.rtr_world.proofs.laws.lawful_ends.Goals as goal

pub returns : goal.returns
returns c = record { lawful = lawful_ends; noted = ends_noted; kept = ends_kept; memory = none_by_memory }
