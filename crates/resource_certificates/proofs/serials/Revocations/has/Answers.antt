use Rattle.resource_certificates.proofs.Searches.{searched_in}
use Rattle.resource_certificates.proofs.serials.Revocations.has.Goals as goal

pub returns : goal.returns
returns c =
    searched_in (λ s. s.now) c.self.inside.sorted.items c.deref.result.now c.args.self.now c.args.serial.now c.binary_search.result c.is_ok.result c.is_ok.ensures.value c.deref.ensures.value c.self.view_is
    c.binary_search.ensures.bound c.binary_search.ensures.position c.self.invariant
