-- What a router's call shows of the session that it is in.
use Rattle.std.proofs.Common.{◌≡◌, ℤ, Option, ap, subst, ◌∙◌}
use Rattle.rtr_ends.specs.LinkRules as rules
use Rattle.rtr_ends.specs.declared.configuration.RouterConfig.{RouterConfig}
use Rattle.rpkirtr_c.specs.Configurations.{IsConfigTold}
use Rattle.rpkirtr_c.specs.declared.configuration.CConfig.{CConfig}
use Rattle.vrps.specs.Change.{between}
use Rattle.vrps.specs.VrpSet.{VrpSet}
use Rattle.rpkirtr_c.specs.Changes.{IsBegun}
use Rattle.rpkirtr_c.specs.Live.{New}
use Rattle.rpkirtr_c.specs.declared.judge.Judge.{Judge}
use Rattle.rpkirtr_c.specs.declared.session.Pending.{Pending}
use Rattle.rtr_ends.specs.RouterShown.{IsShown}
use Rattle.rpkirtr_c.specs.Sessions.{Shows}
use Rattle.rpkirtr_c.specs.declared.session.Session.{Session}

-- The change to the table of a router is one to that of whatever router the value is.
pub begins : (s : Session) (p : Pending) (table : VrpSet) → IsBegun s.taken table p → ((r : rules.Router) → IsShown r s.router → table ≡ r.table) → Shows s (λ r. IsBegun s.taken r.table p)
begins s p table begun same r shown = (begun.0 ∙ ap (between s.taken) (same r shown), begun.1 ∙ same r shown)

-- An index over the table of a router is one over that of whatever router the value is.
pub indexes : (s : Session) (table : VrpSet) (old new : Option Judge) (answer : ℤ) → New old new answer (λ j. j.index ≡ table) → ((r : rules.Router) → IsShown r s.router → table ≡ r.table)
    → Shows s (λ r. New old new answer (λ j. j.index ≡ r.table))
indexes s table old new answer made same r shown = subst (λ x. New old new answer (λ j. j.index ≡ x)) (same r shown) made

-- The configuration of a router that is told is that of whatever router the value is.
pub tells : (s : Session) (c : RouterConfig) (answer : ℤ) (old new : CConfig) → IsConfigTold c answer old new → ((r : rules.Router) → IsShown r s.router → c ≡ r.config)
    → Shows s (λ r. IsConfigTold r.config answer old new)
tells s c answer old new told same r shown = subst (λ x. IsConfigTold x answer old new) (same r shown) told
