use Rattle.payload_commands.specs.ManifestLines.{file_line}
use Rattle.payload_commands.proofs.Printing.{prints_next}
use Rattle.payload_commands.proofs.manifests.print_files.Goals as goal

pub loop-file-preserved : goal.loop-file-preserved
loop-file-preserved g c =
    prints_next file_line (g.W.Write.contents c.args.out.now) (g.W.Write.contents c.loop-file.out) (g.W.Write.contents c.print_file.new.out) c.args.files.now c.loop-file.file-index c.file-item.result c.loop-file-test.true c.file-item.is
    c.loop-file.invariant c.in_ok-print_file.ensures
