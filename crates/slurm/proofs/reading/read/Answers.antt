use Rattle.std.proofs.Common.{inl, refl, subst}
use Rattle.slurm.specs.Chains.{UnlessMemory, seen}
use Rattle.slurm.specs.Scoped.{ReadsScoped, scoped_of}
use Rattle.slurm.proofs.reading.read.Goals as goal

pub returns-in-Ok : goal.returns-in-Ok
returns-in-Ok c = subst (λ t. UnlessMemory (ReadsScoped t) (seen scoped_of c.read_text.result)) c.in-Ok.ensures.cases.0 c.read_text.ensures

pub returns-in-Err : goal.returns-in-Err
returns-in-Err c = inl (inl (refl, λ d h. c.in-Err.ensures.cases.0 h.0))
