-- What was taken of a file is known at later moments too.
use Rattle.std.proofs.Common.{◌≡◌, length, ap, ◌∙◌, sym}
use Rattle.vrps.specs.VrpSet.{listing, set_of, size}
use Rattle.exports.specs.ExportLaws.{LaterExports}
use Rattle.exports.specs.Lasting.{counting}
use Rattle.sources.specs.Served.{counting_at}
use Rattle.sources.specs.TakenLaws.{CountsExpired, StaysTaken}
use Rattle.sources.proofs.Counts.{counted_all}

pub stays_taken : LaterExports → StaysTaken
stays_taken later bytes now expired l taken at not_before small =
    let law = later bytes now taken.read taken.is at not_before small in
    let same : set_of (counting at (listing taken.read.export.set) taken.read.lasts.items) ≡ counting_at at l = λ i. set_of (counting at (listing (sym taken.set_is i)) (sym taken.lasts_are i)) in
    (law.0, λ y is. law.1 y is ∙ same)

pub counts_expired : CountsExpired
counts_expired bytes now expired l taken at small = counted_all at l (ap length taken.lasts_are ∙ taken.is.one_each ∙ ap (λ s. size s) (sym taken.set_is))
