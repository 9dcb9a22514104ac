use Rattle.std.proofs.Common.{◌≢◌, []}
use Rattle.resource_certificates.specs.Places.{Access}
use Rattle.resource_certificates.proofs.SeenPlaces.{access_shorter, accesses_more}
use Rattle.resource_certificates.proofs.places.each_access.Goals as goal

pub loop-members-smaller : goal.loop-members-smaller
loop-members-smaller c =
    let a : Access = (c.in_ok-access.access.method.now, (c.in_ok-access.access.location.tag, c.in_ok-access.access.location.content.now)) in
    access_shorter c.loop-members.members a c.read_access.new.cursor c.in_ok-access.ensures

pub loop-members-preserved : goal.loop-members-preserved
loop-members-preserved c =
    let l = c.loop-members in
    let a : Access = (c.in_ok-access.access.method.now, (c.in_ok-access.access.location.tag, c.in_ok-access.access.location.content.now)) in
    let more : l.members.rest ≢ [] = λ e. (let h = c.at_end.ensures.1 e in cc) in
    accesses_more c.args.members l.found c.put-found.result l.members c.read_access.new.cursor a l.invariant more c.in_ok-access.ensures c.put-found.ensures
