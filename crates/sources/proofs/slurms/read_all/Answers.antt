use Rattle.std.proofs.Common.{◌≡◌, ◌∷◌, ◌++◌, ◌∙◌, [], Err, Ok, if◌then◌else◌, map, ap, subst}
use Rattle.slurm.specs.Chains.{UnlessMemory}
use Rattle.slurm.specs.Scoped.{ReadsScoped, scoped_of}
use Rattle.slurm.proofs.Chaining.{is_read}
use Rattle.sources.proofs.Files.{first_fault, one_more}
use Rattle.sources.proofs.slurms.read_all.Goals as goal

pub returns-in-Err-clause-err : goal.returns-in-Err-clause-err
returns-in-Err-clause-err c =
    first_fault (λ f. f.items) c.args.files.now c.loop-index.index c.index-files-index.result (map scoped_of c.loop-index.read.items) c.in-Err.fault c.loop-index-test.true c.index-files-index.is c.loop-index.invariant
    (subst (λ bs. UnlessMemory (ReadsScoped bs) (Err c.in-Err.fault)) c.as_slice.ensures.value c.in-Err.ensures.reads)

pub loop-index-preserved : goal.loop-index-preserved
loop-index-preserved c =
    let pushed : c.push.new.self.items ≡ c.loop-index.read.items ++ c.in-Ok.scoped ∷ [] =
    c.push.ensures.items ∙ ap (λ b. if b then c.loop-index.read.items ++ c.in-Ok.scoped ∷ [] else c.loop-index.read.items) c.if-is_err.ensures.negation in
    one_more (λ f. f.items) scoped_of c.args.files.now c.loop-index.index c.index-files-index.result c.loop-index-test.true c.index-files-index.is c.loop-index.read.items c.push.new.self.items c.in-Ok.scoped c.loop-index.invariant
    (is_read (ReadsScoped c.index-files-index.result.items) (scoped_of c.in-Ok.scoped) (subst (λ bs. UnlessMemory (ReadsScoped bs) (Ok (scoped_of c.in-Ok.scoped))) c.as_slice.ensures.value c.in-Ok.ensures.reads)) pushed
