use Rattle.std.proofs.Common.{◌∙◌, ap, length, sym}
use Rattle.std.proofs.lemmas.Result.{err_from_is_err_and}
use Rattle.vrps.specs.VrpSet.{set_of, union, without}
use Rattle.vrps.specs.declared.set.SetFault.TheVariants.{TooMany}
use Rattle.sources.proofs.Together.{left_out_over, narrowed_over, over_so, same_fault, whole, withdrawn}
use Rattle.sources.proofs.sources.narrowed.Goals as goal

pub returns-then-left_out-eq0-clause-ok : goal.returns-then-left_out-eq0-clause-ok
returns-then-left_out-eq0-clause-ok c = (
  whole c.args.leaves c.args.set c.in_ok-found.found.items c.in_ok-found.ensures (sym (ap length c.as_slice.ensures.value) ∙ c.if-left_out-eq0.true),
  ap length (c.as_slice.ensures.value ∙ c.in_ok-found.ensures),
)

pub returns-in_err-from_list-clause-too_many : goal.returns-in_err-from_list-clause-too_many
returns-in_err-from_list-clause-too_many c e =
    left_out_over c.args.leaves c.args.set
    (over_so _ _ (ap set_of c.in_ok-found.ensures) (c.from_list.ensures.too_many.0 (c.in_err-from_list.was ∙ c.in_err-from_list.ensures.only)))

pub returns-in_err-set-clause-too_many : goal.returns-in_err-set-clause-too_many
returns-in_err-set-clause-too_many c e =
    let p = err_from_is_err_and c.from_residual-in_err-set.result c.from_residual-in_err-set.ensures.1 in
    let w = c.in_ok-from_list.field-0 in
    narrowed_over c.args.set w
    (over_so _ _ ((λ i. union (without c.args.set w) (c.empty.ensures i)) ∙ withdrawn c.args.set w)
    (c.apply.ensures.too_many (same_fault c.from_residual-in_err-set.result c.apply.result p.0 _ TooMany p.1 p.2 c.in_err-set.was e)))

pub returns-clause-ok : goal.returns-clause-ok
returns-clause-ok c =
    let w = c.in_ok-from_list.field-0 in (
      c.in_ok-set.ensures.ok.0 ∙ (λ i. union (without c.args.set w) (c.empty.ensures i)) ∙ withdrawn c.args.set w
          ∙ ap (λ t. without c.args.set t) (c.in_ok-from_list.ensures.ok ∙ ap set_of c.in_ok-found.ensures),
      ap length (c.as_slice.ensures.value ∙ c.in_ok-found.ensures),
    )
