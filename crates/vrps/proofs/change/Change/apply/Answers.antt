use Rattle.std.proofs.Common.{◌≡◌, ◌∙◌, length, ap, arith}
use Rattle.vrps.specs.Change.{apply}
use Rattle.vrps.specs.VrpSet.{set_of, size}
use Rattle.vrps.proofs.Listed.{listing_of, size_of_listing}
use Rattle.vrps.proofs.SetLaws.{set_of-listing}
use Rattle.vrps.proofs.change.Change.apply.Goals as goal

pub returns-then-len-gt-LIMIT-clause-too_many : goal.returns-then-len-gt-LIMIT-clause-too_many
returns-then-len-gt-LIMIT-clause-too_many c =
    let members = apply c.args.self.now c.args.set.now in
    λ _. omega (arith, c.in_ok-items.items.ok.0, ap (λ l. length l) c.in_ok-items.ensures.0, size_of_listing members)

pub from_listing-requires : goal.from_listing-requires
from_listing-requires c =
    listing_of (apply c.args.self.now c.args.set.now) c.in_ok-items.items.items c.in_ok-items.ensures.0 c.in_ok-items.ensures.1 (omega (arith, c.in_ok-items.items.ok.0))

pub returns-clause-ok : goal.returns-clause-ok
returns-clause-ok c =
    let members = apply c.args.self.now c.args.set.now in
    let is : c.from_listing.result ≡ members = c.from_listing.ensures ∙ ap (λ l. set_of l) c.in_ok-items.ensures.0 ∙ set_of-listing members in
    (is, omega (arith, ap (λ s. size s) is, c.in_ok-items.items.ok.0, ap (λ l. length l) c.in_ok-items.ensures.0, size_of_listing members))
