-- What a router's fields say, step by step.
use Rattle.rtr_ends.proofs.Words.{◌≡◌, ℕ, List, refl, sym, subst, Payload, Unit}
use Rattle.rtr_ends.specs.LinkRules.{Router, on_unit}
use Rattle.rtr_ends.specs.Seen.{Does, ShowsRouter, Stages, seen, seen_link}
use Rattle.rtr_ends.specs.declared.machine.Machine.{Machine}
use Rattle.rtr_ends.specs.declared.machine.State.{State}

-- A step is looked at for what is seen.
pub does_from : (step : Router → Router) (old new : Machine)
    → ((withdrawn announced : List Payload) (held : List ℕ) → Stages old.state old.table withdrawn announced old.staging → ShowsRouter (step (seen old withdrawn announced held)) new)
    → Does step old new
does_from step old new h r s = subst (λ x. ShowsRouter (step x) new) (sym s.is) (h s.withdrawn s.announced r.held s.staged)

-- What is seen of a machine is shown by it.
pub shown : (m : Machine) (withdrawn announced : List Payload) (held : List ℕ) → Stages m.state m.table withdrawn announced m.staging → ShowsRouter (seen m withdrawn announced held) m
shown m withdrawn announced held staged = record { withdrawn = withdrawn; announced = announced; staged = staged; is = refl }

-- So is a step to what is seen of another machine.
pub shown_as : (r : Router) (m : Machine) (withdrawn announced : List Payload) (held : List ℕ) → r ≡ seen m withdrawn announced held → Stages m.state m.table withdrawn announced m.staging → ShowsRouter r m
shown_as r m withdrawn announced held is staged = subst (λ x. ShowsRouter x m) (sym is) (shown m withdrawn announced held staged)

-- A PDU is read in a state of the link.
pub unit_does : (u : Unit) (s : State) (old new : Machine) → old.state ≡ s
    → ((withdrawn announced : List Payload) (held : List ℕ) → Stages s old.table withdrawn announced old.staging → ShowsRouter (on_unit (seen_link s withdrawn announced) u (seen old withdrawn announced held)) new)
    → Does (λ r. on_unit r.link u r) old new
unit_does u s old new is h =
    does_from (λ r. on_unit r.link u r) old new
    (λ withdrawn announced held staged. subst (λ x. ShowsRouter (on_unit (seen_link x withdrawn announced) u (seen old withdrawn announced held)) new) (sym is)
    (h withdrawn announced held (subst (λ x. Stages x old.table withdrawn announced old.staging) is staged)))
