use Rattle.std.proofs.Common.{◌≢◌, []}
use Rattle.resource_certificates.proofs.Revoking.{revoked_shorter, revoked_on}
use Rattle.resource_certificates.proofs.crl.each_revoked.Goals as goal

pub loop-members-smaller : goal.loop-members-smaller
loop-members-smaller c =
    revoked_shorter c.loop-members.members c.in_ok-serial.serial.now c.revoked.new.cursor c.in_ok-serial.ensures

pub loop-members-preserved : goal.loop-members-preserved
loop-members-preserved c =
    let l = c.loop-members in
    let more : l.members.rest ≢ [] = λ e. (let h = c.at_end.ensures.1 e in cc) in
    revoked_on c.args.members l.serials c.push.new.self l.members c.revoked.new.cursor c.in_ok-serial.serial.now l.invariant more c.in_ok-serial.ensures c.in_ok-push.ensures
