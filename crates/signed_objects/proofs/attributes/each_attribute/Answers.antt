use Rattle.std.proofs.Common.{◌≢◌, []}
use Rattle.signed_objects.specs.Attributes.{Attribute}
use Rattle.signed_objects.proofs.Loops.{attribute_shorter, attributes_on}
use Rattle.signed_objects.proofs.attributes.each_attribute.Goals as goal

pub loop-members-smaller : goal.loop-members-smaller
loop-members-smaller c =
    let a : Attribute = (c.in_ok-kind.kind, c.in_ok-kind.value.now) in
    attribute_shorter c.loop-members.found c.loop-members.members a c.attribute.new.cursor c.in_ok-kind.ensures

pub loop-members-preserved : goal.loop-members-preserved
loop-members-preserved c =
    let l = c.loop-members in
    let a : Attribute = (c.in_ok-kind.kind, c.in_ok-kind.value.now) in
    let more : l.members.rest ≢ [] = λ e. (let h = c.at_end.ensures.1 e in cc) in
    attributes_on c.args.members l.found c.put.new.self l.members c.attribute.new.cursor a l.invariant more c.in_ok-kind.ensures c.put.ensures
