use Rattle.std.proofs.Common.{ap, sym, ◌∙◌}
use Rattle.rtr_ends.specs.LinkRules.{Router}
use Rattle.rtr_ends.proofs.KeptLaws.{router_keeps}
use Rattle.rtr_ends.proofs.router.Router.config.Goals as goal

pub returns-clause-kept : goal.returns-clause-kept
returns-clause-kept c calls s = sym (ap (λ (x : Router). x.config) s.machine.is) ∙ (router_keeps calls).config
