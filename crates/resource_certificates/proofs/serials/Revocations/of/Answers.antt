use Rattle.resource_certificates.proofs.Searches.{copied}
use Rattle.resource_certificates.proofs.serials.Revocations.of.Goals as goal

pub returns : goal.returns
returns c =
    copied (λ s. s.now) c.new-sorted.result.items c.as_slice.result.now c.extend_from_slice.new.self.items c.sort_unstable.new.self.items c.args.serials.now c.new-sorted.ensures.items c.in_ok-extend_from_slice.ensures.items
    c.as_slice.ensures c.sort_unstable.ensures.permutation
