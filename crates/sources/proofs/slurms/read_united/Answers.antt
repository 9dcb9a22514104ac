use Rattle.std.proofs.Common.{◌≡◌, ◌⊎◌, Err, length, map, subst, sym, ◌∙◌}
use Rattle.std.proofs.lemmas.Result.{err_from_is_err_and}
use Rattle.prefixes.proofs.Basics.{not_eq_of}
use Rattle.slurm.specs.Scoped.{scoped_of}
use Rattle.slurm.specs.Uniting.{Unites}
use Rattle.slurm.specs.declared.unite_fault.UniteFault.TheVariants.{Memory}
use Rattle.sources.specs.Served.{AreApplied}
use Rattle.sources.proofs.Files.{not_united, united_files}
use Rattle.sources.proofs.slurms.read_united.Goals as goal

pub returns-in_err-slurms-clause-err : goal.returns-in_err-slurms-clause-err
returns-in_err-slurms-clause-err c =
    let p = err_from_is_err_and c.from_residual-in_err-slurms.result c.from_residual-in_err-slurms.ensures.1 in
    not_united (map (λ f. f.items) c.args.files.now) (map scoped_of c.in_ok-read.read.items) c.from_residual-in_err-slurms.result p.0 c.in_err-slurms.field-0.0 p.1 p.2 c.in_ok-read.ensures.ok
    (subst (λ fs. (c.in_err-slurms.field-0.0 ≡ Memory) ⊎ Unites (map scoped_of fs) (Err c.in_err-slurms.field-0.0)) c.as_slice.ensures.value c.in_err-slurms.ensures.err)

pub returns-clause-ok : goal.returns-clause-ok
returns-clause-ok c =
    united_files (λ f. f.items) c.args.files.now (map scoped_of c.in_ok-read.read.items) c.in_ok-slurms.slurms (not_eq_of (length c.args.files.now) 0 (sym c.is_empty.ensures ∙ c.if-is_empty.false)) c.in_ok-read.ensures.ok
    (subst (λ fs. AreApplied (map scoped_of fs) c.in_ok-slurms.slurms) c.as_slice.ensures.value c.in_ok-slurms.ensures.ok)
