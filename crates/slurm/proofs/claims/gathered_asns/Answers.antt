use Rattle.slurm.specs.Claims.{asn_claim}
use Rattle.slurm.specs.Scoped.{scoped_of}
use Rattle.slurm.specs.Uniting.{asns_of}
use Rattle.slurm.proofs.Gathering.{one_file}
use Rattle.slurm.proofs.claims.gathered_asns.Goals as goal

pub loop-file-preserved : goal.loop-file-preserved
loop-file-preserved c =
    one_file asn_claim asns_of scoped_of c.args.files.now c.loop-file.file c.index-files-file.result c.loop-file.claims.items c.add_asns.new.claims.items
    c.loop-file-test.true c.index-files-file.is c.loop-file.invariant c.in_ok-add_asns.ensures
