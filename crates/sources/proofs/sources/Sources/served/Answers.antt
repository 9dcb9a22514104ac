use Rattle.std.proofs.Common.{◌∙◌, ap, inl, inr, refl}
use Rattle.std.proofs.lemmas.Result.{err_from_is_err_and}
use Rattle.der_lite.specs.Seconds.{seconds_of}
use Rattle.vrps.specs.VrpSet.{set_of, size}
use Rattle.vrps.specs.declared.set.SetFault.TheVariants.{TooMany}
use Rattle.sources.specs.Served.{excepted_by, with_lists}
use Rattle.sources.proofs.Together.{all_served, beyond, is_counted, is_given, is_made, over_so, same_fault}
use Rattle.sources.proofs.sources.Sources.served.Goals as goal

pub returns-in_err-used-clause-too_many : goal.returns-in_err-used-clause-too_many
returns-in_err-used-clause-too_many c e =
    let used = c.in_ok-payloads.field-0.items in record {
      used = used;
      in_use = c.in_ok-payloads.ensures;
      passes = inl (beyond (seconds_of c.args.now) (set_of used) c.args.self.now.lists.items _ refl (c.from_list.ensures.too_many.0 (c.in_err-used.was ∙ c.in_err-used.ensures.only)));
    }

pub returns-in_err-all-clause-too_many : goal.returns-in_err-all-clause-too_many
returns-in_err-all-clause-too_many c e =
    let p = err_from_is_err_and c.from_residual-in_err-all.result c.from_residual-in_err-all.ensures.1 in
    record {
      used = c.in_ok-payloads.field-0.items;
      in_use = c.in_ok-payloads.ensures;
      passes = inl (over_so _ _ (λ i. with_lists (c.seconds.ensures i) (c.in_ok-used.ensures.ok i) (c.as_slice.ensures.value i))
          (c.all_of.ensures.too_many (same_fault c.from_residual-in_err-all.result c.all_of.result p.0 _ TooMany p.1 p.2 c.in_err-all.was e)));
    }

pub returns-in_err-left-clause-too_many : goal.returns-in_err-left-clause-too_many
returns-in_err-left-clause-too_many c e =
    let p = err_from_is_err_and c.from_residual-in_err-left.result c.from_residual-in_err-left.ensures.1 in
    record {
      used = c.in_ok-payloads.field-0.items;
      in_use = c.in_ok-payloads.ensures;
      passes = inr (over_so _ _ (ap (excepted_by c.args.self.now.exceptions) (c.in_ok-all.ensures.ok ∙ (λ i. with_lists (c.seconds.ensures i) (c.in_ok-used.ensures.ok i) (c.as_slice.ensures.value i))))
          (c.excepted.ensures.too_many (same_fault c.from_residual-in_err-left.result c.excepted.result p.0 _ TooMany p.1 p.2 c.in_err-left.was e)));
    }

pub returns-clause-is : goal.returns-clause-is
returns-clause-is c =
    let lists = c.args.self.now.lists.items in
    let used = c.in_ok-payloads.field-0.items in
    is_made c.args.self.now.repository lists c.args.self.now.exceptions c.args.self.now.leaves_out c.args.now used c.in_ok-left.left c.narrowed.result c.in_ok-payloads.ensures
    (c.in_ok-left.ensures.ok ∙ ap (excepted_by c.args.self.now.exceptions) (c.in_ok-all.ensures.ok ∙ (λ i. with_lists (c.seconds.ensures i) (c.in_ok-used.ensures.ok i) (c.as_slice.ensures.value i)))) c.narrowed.ensures.ok

pub returns-clause-those : goal.returns-clause-those
returns-clause-those c = all_served c.args.self.now.repository c.args.self.now.lists.items c.args.self.now.exceptions c.args.self.now.leaves_out c.args.now c.narrowed.result (returns-clause-is c)

pub returns-clause-gives : goal.returns-clause-gives
returns-clause-gives c =
    let lists = c.args.self.now.lists.items in
    let used = c.in_ok-payloads.field-0.items in
    is_given c.args.self.now.repository lists c.args.now used _ c.narrowed.result c.in_ok-payloads.ensures
    (c.len-given.ensures.value ∙ ap size (c.in_ok-all.ensures.ok ∙ (λ i. with_lists (c.seconds.ensures i) (c.in_ok-used.ensures.ok i) (c.as_slice.ensures.value i)))) c.narrowed.ensures.given

pub returns-clause-left_out : goal.returns-clause-left_out
returns-clause-left_out c =
    let lists = c.args.self.now.lists.items in
    let used = c.in_ok-payloads.field-0.items in
    is_counted c.args.self.now.repository lists c.args.self.now.exceptions c.args.self.now.leaves_out c.args.now used c.in_ok-left.left c.narrowed.result c.in_ok-payloads.ensures
    (c.in_ok-left.ensures.ok ∙ ap (excepted_by c.args.self.now.exceptions) (c.in_ok-all.ensures.ok ∙ (λ i. with_lists (c.seconds.ensures i) (c.in_ok-used.ensures.ok i) (c.as_slice.ensures.value i)))) c.narrowed.ensures.ok

pub returns-clause-too_many : goal.returns-clause-too_many
returns-clause-too_many c e =
    record {
      used = c.in_ok-payloads.field-0.items;
      in_use = c.in_ok-payloads.ensures;
      passes = inr (over_so _ _ (c.in_ok-left.ensures.ok ∙ ap (excepted_by c.args.self.now.exceptions) (c.in_ok-all.ensures.ok ∙ (λ i. with_lists (c.seconds.ensures i) (c.in_ok-used.ensures.ok i) (c.as_slice.ensures.value i)))) (c.narrowed.ensures.too_many e));
    }
