use Rattle.std.proofs.Common.{◌≢◌, []}
use Rattle.payloads.proofs.RoaGrowing.{blocks_are}
use Rattle.payloads.proofs.roa_reading.ip_addr_blocks.Goals as goal

pub returns : goal.returns
returns c =
    let first = c.in_ok-first.ensures in
    let more : c.in_ok-members.members.rest ≢ [] = λ e. (let h = c.at_end.ensures.1 e in cc) in
    blocks_are c.args.cursor.now c.in_ok-members.members c.sequence.new.self first.0 c.in_ok-first.first c.ip_family.new.cursor c.args.entries.now c.ip_family.new.entries c.second_family.new.entries
    c.second_family.result c.in_ok-members.ensures more c.requires first.1 first.2 first.3 c.second_family.ensures
