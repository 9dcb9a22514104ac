use Rattle.std.proofs.Common.{Err, ap, map, subst, sym, ◌∙◌}
use Rattle.std.proofs.lemmas.Result.{err_from_is_err_and}
use Rattle.slurm.specs.Chains.{seen}
use Rattle.slurm.specs.Exceptions.{exceptions_of}
use Rattle.slurm.specs.Scoped.{scoped_of}
use Rattle.slurm.specs.Uniting.{Unites}
use Rattle.slurm.proofs.United.{overlap_unites, unites}
use Rattle.slurm.proofs.uniting.unite.Goals as goal

pub returns-in_err-know_prefixes_apart : goal.returns-in_err-know_prefixes_apart
returns-in_err-know_prefixes_apart c =
    let p = err_from_is_err_and c.from_residual.result c.from_residual.ensures.1 in
    subst (λ q. Unites (map scoped_of c.args.files.now) q) (sym (ap (seen exceptions_of) (p.1 ∙ ap Err p.2))) (overlap_unites (map scoped_of c.args.files.now) _ c.in_err-know_prefixes_apart.ensures.err)

pub returns-in_err-know_asns_apart : goal.returns-in_err-know_asns_apart
returns-in_err-know_asns_apart c =
    let p = err_from_is_err_and c.from_residual-in_err-know_asns_apart.result c.from_residual-in_err-know_asns_apart.ensures.1 in
    subst (λ q. Unites (map scoped_of c.args.files.now) q) (sym (ap (seen exceptions_of) (p.1 ∙ ap Err p.2))) (overlap_unites (map scoped_of c.args.files.now) _ c.in_err-know_asns_apart.ensures.err)

pub returns : goal.returns
returns c = unites (map scoped_of c.args.files.now) c.united.result c.in_ok-know_prefixes_apart.ensures.ok c.in_ok-know_asns_apart.ensures.ok c.united.ensures.ok c.united.ensures.err
