use Rattle.slurm.specs.Claims.{prefix_claim}
use Rattle.slurm.specs.Scoped.{scoped_of}
use Rattle.slurm.specs.Uniting.{prefixes_of}
use Rattle.slurm.proofs.Gathering.{one_file}
use Rattle.slurm.proofs.claims.gathered_prefixes.Goals as goal

pub loop-file-preserved : goal.loop-file-preserved
loop-file-preserved c =
    one_file prefix_claim prefixes_of scoped_of c.args.files.now c.loop-file.file c.index-files-file.result c.loop-file.claims.items c.add_prefixes.new.claims.items
    c.loop-file-test.true c.index-files-file.is c.loop-file.invariant c.in_ok-add_prefixes.ensures
