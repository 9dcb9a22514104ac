use Rattle.std.proofs.Common.{ap, sym, ◌∙◌}
use Rattle.rtr_ends.specs.RouterLink.{name_of}
use Rattle.rtr_ends.specs.LinkRules.{Router}
use Rattle.rtr_ends.specs.Seen.{seen_versions}
use Rattle.rtr_ends.proofs.KeptLaws.{router_keeps}
use Rattle.rtr_ends.proofs.router.Router.committed.Goals as goal

pub returns-in-Some-clause-kept : goal.returns-in-Some-clause-kept
returns-in-Some-clause-kept c calls s =
    sym (ap (λ v. name_of (seen_versions v)) c.in-Some.is) ∙ sym (ap (λ (x : Router). name_of x.version) s.machine.is) ∙ ap name_of (router_keeps calls).version

pub returns-in-None-clause-kept : goal.returns-in-None-clause-kept
returns-in-None-clause-kept c calls s =
    sym (ap (λ v. name_of (seen_versions v)) c.in-None.is) ∙ sym (ap (λ (x : Router). name_of x.version) s.machine.is) ∙ ap name_of (router_keeps calls).version
