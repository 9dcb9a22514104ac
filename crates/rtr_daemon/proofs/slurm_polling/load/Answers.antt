use Rattle.std.proofs.Common.{IfErr, inl, inr, refl, subst, sym}
use Rattle.std.proofs.lemmas.Result.{err_from_is_err_and}
use Rattle.std.specs.Prelude.{Err}
use Rattle.rtr_daemon.specs.Files.{FollowsSlurms, loads_of, paths_of, texts_of}
use Rattle.rtr_daemon.specs.SlurmRefusals.{IsOfPaths}
use Rattle.rtr_daemon.proofs.SlurmRefusalLaws.{of_no_stamp, refused_of}
use Rattle.rtr_daemon.proofs.slurm_polling.load.Goals as goal

pub returns-in_err-contents-clause-refuses : goal.returns-in_err-contents-clause-refuses
returns-in_err-contents-clause-refuses g c =
    let files = c.args.slurms.now in
    let sources = c.args.service.now.sources in
    let p = err_from_is_err_and c.from_residual.result c.from_residual.ensures.1 in
    subst (λ r. IfErr r (λ _. FollowsSlurms g.W.Disk.answers files (loads_of files) sources sources)) (sym p.1) (inr (inr c.in_err-contents.ensures.fails, refl, refl))

pub returns-in_err-take-clause-refuses : goal.returns-in_err-take-clause-refuses
returns-in_err-take-clause-refuses g c =
    let files = c.args.slurms.now in
    let taken = c.in_err-take.ensures.loads in
    let contents = c.in_ok-contents.contents in
    let p = err_from_is_err_and c.from_residual-in_err-take.result c.from_residual-in_err-take.ensures.1 in
    subst (λ r. IfErr r (λ _. FollowsSlurms g.W.Disk.answers files (loads_of files) c.args.service.now.sources c.take.new.service.sources)) (sym p.1)
    (inl (Err taken.0, record { stamps = contents.stamps.items; contents = texts_of contents; read = c.in_ok-contents.ensures.reads; taken = taken.1; noted = refl }))

pub returns-in_err-contents-clause-refused : goal.returns-in_err-contents-clause-refused
returns-in_err-contents-clause-refused g c =
    let answers = g.W.Disk.answers in
    let paths = paths_of c.args.slurms.now in
    let p = err_from_is_err_and c.from_residual.result c.from_residual.ensures.1 in
    subst (λ r. IfErr r (λ refusal. IsOfPaths answers paths refusal)) (sym p.1)
    (subst (IsOfPaths answers paths) (sym p.2) (of_no_stamp answers paths c.in_err-contents.field-0.0 c.in_err-contents.ensures.unread))

pub returns-in_err-take-clause-refused : goal.returns-in_err-take-clause-refused
returns-in_err-take-clause-refused g c =
    let answers = g.W.Disk.answers in
    let files = c.args.slurms.now in
    let p = err_from_is_err_and c.from_residual-in_err-take.result c.from_residual-in_err-take.ensures.1 in
    subst (λ r. IfErr r (λ refusal. IsOfPaths answers (paths_of files) refusal)) (sym p.1)
    (subst (IsOfPaths answers (paths_of files)) (sym p.2)
    (refused_of answers files c.in_ok-contents.contents c.in_err-take.field-0.0 c.in_ok-contents.ensures.reads c.in_err-take.ensures.refused))
