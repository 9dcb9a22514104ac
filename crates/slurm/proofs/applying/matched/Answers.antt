use Rattle.std.proofs.Common.{◌≤◌, ap, filter, subst, sym, ◌∙◌}
use Rattle.vrps.specs.VrpSet.{set_of, size}
use Rattle.slurm.specs.Exceptions.{is_filtered}
use Rattle.slurm.proofs.ExceptionLaws.{few, is_made}
use Rattle.slurm.proofs.applying.matched.Goals as goal

pub unwrap-requires : goal.unwrap-requires
unwrap-requires c =
    let is = c.in_ok-records.ensures ∙ ap (filter (is_filtered c.args.filters.now)) c.as_slice.ensures.value in
    is_made c.from_list.result (size (set_of c.in_ok-records.records.items)) c.from_list.ensures.only (λ e. c.from_list.ensures.too_many.0 e)
    (subst (λ vs. size (set_of vs) ≤ 16777215) (sym is) (few c.args.filters.now c.args.set.now c.as_slice.ensures.set))
