use Rattle.std.proofs.Common.{◌≡◌, ◌⊎◌, ◌∷◌, ◌++◌, ◌∙◌, [], if◌then◌else◌, IfErr, Err, ap, subst, sym}
use Rattle.std.proofs.lemmas.Result.{err_from_is_err_and}
use Rattle.slurm.specs.Scoped.{ReadsScoped, scoped_of}
use Rattle.slurm.specs.SlurmFile.{ReadsSlurm}
use Rattle.slurm.specs.declared.fault.SlurmFault.TheVariants.{Memory}
use Rattle.slurm.proofs.Chaining.{is_read}
use Rattle.slurm.proofs.Scopes.{fault_without}
use Rattle.sources.proofs.Files.{one_applied, why}
use Rattle.sources.proofs.slurms.read_applied.Goals as goal

pub returns-in_err-read-clause-err : goal.returns-in_err-read-clause-err
returns-in_err-read-clause-err c =
    let fault = c.in_err-read.field-0.0 in
    let p = err_from_is_err_and c.from_residual.result c.from_residual.ensures.1 in
    let so = why c.args.bytes.now fault (fault_without c.args.bytes.now fault c.in_err-read.ensures.reads) in
    subst (λ r. IfErr r (λ f. (f ≡ Memory) ⊎ ReadsSlurm c.args.bytes.now (Err f))) (sym p.1) (subst (λ f. (f ≡ Memory) ⊎ ReadsSlurm c.args.bytes.now (Err f)) (sym p.2) so)

pub returns-clause-ok : goal.returns-clause-ok
returns-clause-ok c =
    let s = scoped_of c.in_ok-read.read in
    let reads = is_read (ReadsScoped c.args.bytes.now) s c.in_ok-read.ensures.reads in
    let pushed : c.push.new.self.items ≡ c.new-ignored.result.items ++ c.ignored.result ∷ [] =
    c.push.ensures.items ∙ ap (λ b. if b then c.new-ignored.result.items ++ c.ignored.result ∷ [] else c.new-ignored.result.items) c.if-is_err.ensures.negation in
    let counts = pushed ∙ ap (λ xs. xs ++ c.ignored.result ∷ []) c.new-ignored.ensures.items ∙ ap (λ n. n ∷ []) c.ignored.ensures in
    (s, reads, one_applied c.args.bytes.now s _ reads c.into_exceptions.ensures counts)
