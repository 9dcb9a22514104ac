use Rattle.std.proofs.Common.{◌≢◌, []}
use Rattle.ccr.specs.Families.{of_roa}
use Rattle.ccr.proofs.Sets.{blocks_are}
use Rattle.ccr.proofs.attestation.ip_addr_blocks.Goals as goal

pub returns : goal.returns
returns c =
    let first = c.in_ok-first.ensures in
    let more : c.in_ok-members.members.rest ≢ [] = λ e. (let h = c.at_end.ensures.1 e in cc) in
    blocks_are c.args.cursor.now c.in_ok-members.members c.sequence.new.self first.0 (of_roa c.in_ok-first.first) c.ip_family.new.cursor c.args.asn.0 c.args.vrps.now.items c.ip_family.new.vrps.items c.second_family.new.vrps.items
    c.second_family.result c.in_ok-members.ensures more first.1 first.2 first.3 c.second_family.ensures
