use Rattle.std.proofs.Common.{◌∙◌, ap, Err}
use Rattle.std.proofs.lemmas.Result.{err_from_is_err_and}
use Rattle.slurm.specs.Chains.{seen}
use Rattle.slurm.specs.Scoped.{scoped_by, scoped_of}
use Rattle.slurm.specs.Steps.{arrays_view}
use Rattle.slurm.proofs.Chaining.{all_read, keys_stop}
use Rattle.slurm.proofs.reading.entries_said.Goals as goal

pub returns-in_err-bgpsec_assertions : goal.returns-in_err-bgpsec_assertions
returns-in_err-bgpsec_assertions c =
    let p = err_from_is_err_and c.from_residual-in_err-bgpsec_assertions.result c.from_residual-in_err-bgpsec_assertions.ensures.1 in
    keys_stop (arrays_view c.args.arrays.now) c.in_ok-filters.filters.items c.in_ok-bgpsec_filters.bgpsec_filters.items c.in_ok-records.records.items (seen scoped_of c.from_residual-in_err-bgpsec_assertions.result) _
    (c.in_ok-filters.ensures, c.in_ok-bgpsec_filters.ensures, c.in_ok-records.ensures) c.in_err-bgpsec_assertions.ensures (ap (seen scoped_of) (p.1 ∙ ap Err p.2))

pub returns-in_err-slurm : goal.returns-in_err-slurm
returns-in_err-slurm c =
    let p = err_from_is_err_and c.from_residual-in_err-slurm.result c.from_residual-in_err-slurm.ensures.1 in
    let xs = c.in_ok-bgpsec_filters.bgpsec_filters.items in
    let ys = c.in_ok-bgpsec_assertions.bgpsec_assertions.items in
    all_read (arrays_view c.args.arrays.now) c.in_ok-filters.filters.items xs c.in_ok-records.records.items ys (seen scoped_of c.from_residual-in_err-slurm.result)
    (c.in_ok-filters.ensures, c.in_ok-bgpsec_filters.ensures, c.in_ok-records.ensures) c.in_ok-bgpsec_assertions.ensures
    (ap (seen scoped_of) (p.1 ∙ ap Err p.2) ∙ ap (seen (scoped_by xs ys)) c.in_err-slurm.ensures)

pub returns : goal.returns
returns c =
    let xs = c.in_ok-bgpsec_filters.bgpsec_filters.items in
    let ys = c.in_ok-bgpsec_assertions.bgpsec_assertions.items in
    all_read (arrays_view c.args.arrays.now) c.in_ok-filters.filters.items xs c.in_ok-records.records.items ys _
    (c.in_ok-filters.ensures, c.in_ok-bgpsec_filters.ensures, c.in_ok-records.ensures) c.in_ok-bgpsec_assertions.ensures
    (ap (seen (scoped_by xs ys)) c.in_ok-slurm.ensures)
