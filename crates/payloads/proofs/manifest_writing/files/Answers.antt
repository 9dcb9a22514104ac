use Rattle.payloads.proofs.ManifestSpellings.{files_step, hashes_step}
use Rattle.payloads.proofs.manifest_writing.files.Goals as goal

pub loop-file-preserved : goal.loop-file-preserved
loop-file-preserved c =
    let files = c.args.files.now in
    let index = c.loop-file.file-index in
    let file = c.file-item.result in (
      files_step files index file c.loop-file.list c.add_file.new.list c.loop-file-test.true c.file-item.is c.loop-file.invariant.0 c.in_ok-add_file.ensures.0,
      hashes_step files index file c.loop-file-test.true c.file-item.is c.loop-file.invariant.1 c.in_ok-add_file.ensures.1,
    )
