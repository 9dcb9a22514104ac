use Rattle.std.proofs.Common.{◌∙◌, ap, arith, subst, sym}
use Rattle.rtr_daemon.specs.Files.{FollowsSlurms, loads_of, paths_of}
use Rattle.rtr_daemon.specs.SlurmRefusals.{SlurmRefusalsFollow}
use Rattle.rtr_daemon.proofs.ContentLaws.{same_many, written_back}
use Rattle.rtr_daemon.proofs.daemon.Daemon.follow_slurms.Goals as goal

pub returns-clause-follows : goal.returns-clause-follows
returns-clause-follows g c =
    let files = c.args.self.now.slurms in
    let after = c.follow.new.slurms in
    let old = c.args.self.now.service.sources in
    let new = c.follow.new.service.sources in
    let same = same_many files.items after (c.follow.ensures.paths ∙ ap paths_of c.deref_mut.ensures.value) in
    let whole = files.ok.0 in
    subst (λ all. FollowsSlurms g.W.Disk.answers files.items (loads_of all) old new) (sym (written_back after files.items files.len (omega (arith, whole, same)) same))
    (subst (λ before. FollowsSlurms g.W.Disk.answers before (loads_of after) old new) c.deref_mut.ensures.value c.follow.ensures.follows)

pub returns-clause-refusals : goal.returns-clause-refusals
returns-clause-refusals g c =
    let files = c.args.self.now.slurms in
    let after = c.follow.new.slurms in
    let same = same_many files.items after (c.follow.ensures.paths ∙ ap paths_of c.deref_mut.ensures.value) in
    let whole = files.ok.0 in
    subst (SlurmRefusalsFollow g.W.Disk.answers files.items) (sym (written_back after files.items files.len (omega (arith, whole, same)) same))
    (subst (λ before. SlurmRefusalsFollow g.W.Disk.answers before after) c.deref_mut.ensures.value c.follow.ensures.refusals)
