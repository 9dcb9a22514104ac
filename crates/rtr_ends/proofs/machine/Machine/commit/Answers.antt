use Rattle.std.proofs.Common.{sym, subst, ap, ◌∙◌}
use Rattle.rtr_ends.specs.Transcript.{base_of, sum_of}
use Rattle.rtr_ends.specs.Seen.{IsStaged, seen_question}
use Rattle.rtr_ends.proofs.MachineCells.{commits_so, lacks_end, sum_min}
use Rattle.rtr_ends.proofs.machine.Machine.commit.Goals as goal

pub returns-in-Ok : goal.returns-in-Ok
returns-in-Ok c is =
    commits_so c.args.self.now c.args.question c.args.session c.args.serial c.args.refresh c.args.retry c.args.expire is c.in-Ok.table c.version_of-version.result c.saturating_add.result c.over.result _
    (λ b st. c.in-Ok.ensures b (subst (λ s. IsStaged (base_of (seen_question c.args.question) c.args.self.now.table) b.withdrawn b.announced s) (sym c.replace-staging.ensures.value) st))
    c.version_of-version.ensures
    (sum_min c.args.self.now.clock c.from.result c.saturating_add.result c.saturating_add.ensures ∙ ap (λ n. sum_of c.args.self.now.clock n) c.from.ensures)
    (rw (c.replace-staging.ensures.after, c.into_set.ensures, c.replace-before.ensures.value, c.replace-before.ensures.after))

pub returns-in-Err : goal.returns-in-Err
returns-in-Err c is =
    lacks_end c.args.self.now c.args.question c.args.session c.args.serial c.args.refresh c.args.retry c.args.expire is _ _
    (λ b st. c.in-Err.ensures b (subst (λ s. IsStaged (base_of (seen_question c.args.question) c.args.self.now.table) b.withdrawn b.announced s) (sym c.replace-staging.ensures.value) st))
