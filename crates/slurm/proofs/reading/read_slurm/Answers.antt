use Rattle.std.proofs.Common.{Ok, ap, subst, sym, ◌∙◌, Err}
use Rattle.std.proofs.lemmas.Result.{err_from_is_err_and}
use Rattle.slurm.specs.Chains.{UnlessMemory, seen}
use Rattle.slurm.specs.Exceptions.{exceptions_of}
use Rattle.slurm.specs.SlurmFile.{ReadsSlurm}
use Rattle.slurm.proofs.Exactly as exactly
use Rattle.slurm.proofs.Scopes.{fault_without, read_without}
use Rattle.slurm.proofs.reading.read_slurm.Goals as goal

pub returns-in_err-scoped-clause-reads : goal.returns-in_err-scoped-clause-reads
returns-in_err-scoped-clause-reads c =
    let p = err_from_is_err_and c.from_residual.result c.from_residual.ensures.1 in
    subst (λ q. UnlessMemory (ReadsSlurm c.args.bytes.now) q) (sym (ap (seen exceptions_of) (p.1 ∙ ap Err p.2))) (fault_without c.args.bytes.now c.in_err-scoped.field-0.0 c.in_err-scoped.ensures)

pub returns-in_err-scoped-clause-only : goal.returns-in_err-scoped-clause-only
returns-in_err-scoped-clause-only c e is = exactly.read_file c.args.bytes.now (seen exceptions_of c.from_residual.result) e (returns-in_err-scoped-clause-reads c) is

pub returns-clause-reads : goal.returns-clause-reads
returns-clause-reads c =
    subst (λ e. UnlessMemory (ReadsSlurm c.args.bytes.now) (Ok e)) (sym c.into_exceptions.ensures) (read_without c.args.bytes.now c.in_ok-scoped.scoped c.in_ok-scoped.ensures)

pub returns-clause-file : goal.returns-clause-file
returns-clause-file c = exactly.file_read c.args.bytes.now (exceptions_of c.into_exceptions.result) (returns-clause-reads c)

pub returns-clause-only : goal.returns-clause-only
returns-clause-only c e is = exactly.read_file c.args.bytes.now (Ok (exceptions_of c.into_exceptions.result)) e (returns-clause-reads c) is
