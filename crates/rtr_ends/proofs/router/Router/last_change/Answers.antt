use Rattle.std.proofs.Common.{Some, ap, sym, ◌∙◌}
use Rattle.vrps.specs.Change.{between}
use Rattle.rtr_ends.specs.LinkRules.{Router}
use Rattle.rtr_ends.specs.Seen.{seen_versions}
use Rattle.rtr_ends.specs.Transcript.{last_change}
use Rattle.rtr_ends.proofs.KeptLaws.{played_tells}
use Rattle.rtr_ends.proofs.KeptUnits.{holds}
use Rattle.rtr_ends.proofs.router.Router.last_change.Goals as goal

pub returns-in-None-clause-kept : goal.returns-in-None-clause-kept
returns-in-None-clause-kept c calls s =
    sym (ap (λ v. last_change (record { version = seen_versions v; table = c.args.self.now.machine.table; before = c.args.self.now.machine.before })) c.in-None.is)
    ∙ sym (ap (λ (x : Router). last_change (holds x)) s.machine.is) ∙ sym (ap last_change (played_tells calls).kept_is)

pub returns-in_ok-change-in-Some-clause-kept : goal.returns-in_ok-change-in-Some-clause-kept
returns-in_ok-change-in-Some-clause-kept c calls s =
    ap Some (c.in_ok-change-in-Some.ensures ∙ ap (λ t. between c.args.self.now.machine.before t) c.set-table.ensures)
    ∙ sym (ap (λ v. last_change (record { version = seen_versions v; table = c.args.self.now.machine.table; before = c.args.self.now.machine.before })) c.in-Some.is)
    ∙ sym (ap (λ (x : Router). last_change (holds x)) s.machine.is) ∙ sym (ap last_change (played_tells calls).kept_is)
