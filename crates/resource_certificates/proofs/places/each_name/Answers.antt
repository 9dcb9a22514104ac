use Rattle.std.proofs.Common.{◌≢◌, [], ◌∙◌, ap, ℕ, List, Option, option_map}
use Rattle.std.specs.Option.{option_or}
use Rattle.resource_certificates.specs.Places.{GeneralName}
use Rattle.resource_certificates.proofs.SeenPlaces.{any_shorter, names_on}
use Rattle.resource_certificates.proofs.places.each_name.Goals as goal

pub loop-members-smaller : goal.loop-members-smaller
loop-members-smaller c =
    let n : GeneralName = (c.in_ok-name.name.tag, c.in_ok-name.name.content.now) in
    any_shorter c.loop-members.members n c.any_element.new.cursor c.in_ok-name.ensures

pub loop-members-preserved : goal.loop-members-preserved
loop-members-preserved c =
    let l = c.loop-members in
    let n : GeneralName = (c.in_ok-name.name.tag, c.in_ok-name.name.content.now) in
    let more : l.members.rest ≢ [] = λ e. (let h = c.at_end.ensures.1 e in cc) in
    let first : Option (List ℕ) = option_map (λ u. u.now) l.first in
    names_on c.args.members first (option_map (λ u. u.now) c.first_of-first.result) l.members c.any_element.new.cursor n l.invariant more c.in_ok-name.ensures
    (c.first_of-first.ensures ∙ ap (λ (o : Option (List ℕ)). option_or first o) c.rsync_uri.ensures)
