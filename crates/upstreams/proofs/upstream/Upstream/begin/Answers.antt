use Rattle.std.proofs.Common.{◌∙◌, ap, subst, if◌then◌else◌}
use Rattle.rtr_pdu.specs.declared.version.Version.TheVariants.{V0, V1}
use Rattle.rtr_ends.specs.Router.{Speaks, called}
use Rattle.rtr_ends.specs.RouterShown.{IsShown}
use Rattle.upstreams.proofs.upstream.Upstream.begin.Goals as goal

pub returns-clause-calls : goal.returns-clause-calls
returns-clause-calls g c = λ calls b h.
    let by_test = ap (λ x. if x then V0 else V1) (c.is_of_version_0-is_0.ensures calls b h) in
    (λ r shown. c.connect.ensures.calls _ (subst (λ v. IsShown (called (Speaks v) r).router c.speak.new.self) (c.version_if.ensures ∙ by_test) (c.speak.ensures.calls r shown)), c.version_if-2.ensures ∙ by_test)

pub returns-clause-fallback : goal.returns-clause-fallback
returns-clause-fallback g c = λ calls b h. ap (λ s. record c.args.self.now.fallback { since = s }) (c.fallback_since-since.ensures calls b h)
