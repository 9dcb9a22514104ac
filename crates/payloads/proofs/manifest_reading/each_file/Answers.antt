use Rattle.std.proofs.Common.{◌≢◌, []}
use Rattle.payloads.proofs.ManifestListing.{file_shorter, files_on}
use Rattle.payloads.proofs.manifest_reading.each_file.Goals as goal

pub loop-members-smaller : goal.loop-members-smaller
loop-members-smaller c =
    let read = c.in_ok-file.ensures in
    file_shorter c.loop-members.files c.loop-members.members read.0 c.file.new.cursor read.1

pub loop-members-preserved : goal.loop-members-preserved
loop-members-preserved c =
    let l = c.loop-members in
    let read = c.in_ok-file.ensures in
    let more : l.members.rest ≢ [] = λ e. (let h = c.at_end.ensures.1 e in cc) in
    files_on c.args.members l.files c.file.new.files l.members c.file.new.cursor read.0 l.invariant more read.1 read.2
