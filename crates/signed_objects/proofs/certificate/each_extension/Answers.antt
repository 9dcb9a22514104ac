use Rattle.std.proofs.Common.{◌≢◌, ◌∙◌, Bool, [], ap, sym}
use Rattle.signed_objects.specs.Certificates.{Extension}
use Rattle.signed_objects.specs.Reading.{extension_from}
use Rattle.signed_objects.proofs.Loops.{extension_shorter, extensions_on}
use Rattle.signed_objects.proofs.certificate.each_extension.Goals as goal

pub loop-members-smaller : goal.loop-members-smaller
loop-members-smaller c =
    let e : Extension = (c.in_ok-extension.extension.id.now, c.in_ok-extension.extension.value.now) in
    extension_shorter c.is_some.result c.loop-members.members e c.next_extension.new.cursor c.in_ok-extension.ensures

pub loop-members-preserved : goal.loop-members-preserved
loop-members-preserved c =
    let l = c.loop-members in
    let e : Extension = (c.in_ok-extension.extension.id.now, c.in_ok-extension.extension.value.now) in
    let more : l.members.rest ≢ [] = λ e. (let h = c.at_end.ensures.1 e in cc) in
    let read = ap (λ (b : Bool). extension_from b l.members) (sym c.is_some.ensures) ∙ c.in_ok-extension.ensures in
    extensions_on (λ value. value.now) c.args.members l.identifier c.identifier.result c.or-identifier.result l.members c.next_extension.new.cursor e l.invariant more read c.identifier.ensures c.or-identifier.ensures
