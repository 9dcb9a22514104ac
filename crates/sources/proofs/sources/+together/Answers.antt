use Rattle.std.proofs.Common.{◌≡◌, ◌∙◌, ap}
use Rattle.std.proofs.lemmas.Result.{err_from_is_err_and}
use Rattle.vrps.specs.VrpSet.{empty, union}
use Rattle.vrps.specs.declared.set.SetFault.TheVariants.{TooMany}
use Rattle.sources.specs.Served.{counting_at, with_lists}
use Rattle.sources.proofs.Together.{beyond_first, beyond_second, both_parts, one_list, over_so, said_so, same_fault}
use Rattle.sources.proofs.sources.+together.Goals as goal

pub returns-then-lists-eq1-clause-ok : goal.returns-then-lists-eq1-clause-ok
returns-then-lists-eq1-clause-ok t c =
    said_so c.counted.result (counting_at c.args.now c.index-lists-0.result) (with_lists c.args.now empty c.args.lists.now) c.counted.ensures.ok
    (ap (counting_at c.args.now) c.index-lists-0.is ∙ one_list c.args.now c.args.lists.now c.index-lists-0.result c.if-lists-eq1.true)

pub returns-then-lists-eq1-clause-too_many : goal.returns-then-lists-eq1-clause-too_many
returns-then-lists-eq1-clause-too_many t c e =
    over_so (counting_at c.args.now c.index-lists-0.result) (with_lists c.args.now empty c.args.lists.now)
    (ap (counting_at c.args.now) c.index-lists-0.is ∙ one_list c.args.now c.args.lists.now c.index-lists-0.result c.if-lists-eq1.true) (c.counted.ensures.too_many e)

pub returns-in_err-one-clause-too_many : goal.returns-in_err-one-clause-too_many
returns-in_err-one-clause-too_many t c e =
    let p = err_from_is_err_and c.from_residual.result c.from_residual.ensures.1 in
    beyond_first c.args.now c.args.lists.now c.split_at.result.0.now c.split_at.result.1.now c.split_at.ensures.by_index.0
    (c.together.ensures.too_many (same_fault c.from_residual.result c.together.result p.0 _ TooMany p.1 p.2 c.in_err-one.was e))

pub returns-in_err-other-clause-too_many : goal.returns-in_err-other-clause-too_many
returns-in_err-other-clause-too_many t c e =
    let p = err_from_is_err_and c.from_residual-in_err-other.result c.from_residual-in_err-other.ensures.1 in
    beyond_second c.args.now c.args.lists.now c.split_at.result.0.now c.split_at.result.1.now c.split_at.ensures.by_index.0
    (c.together-2.ensures.too_many (same_fault c.from_residual-in_err-other.result c.together-2.result p.0 _ TooMany p.1 p.2 c.in_err-other.was e))

pub returns-clause-ok : goal.returns-clause-ok
returns-clause-ok t c =
    let lists = c.args.lists.now in
    let parts : union c.in_ok-one.one c.in_ok-other.other ≡ with_lists c.args.now empty lists =
    (λ i. union (c.in_ok-one.ensures.ok i) (c.in_ok-other.ensures.ok i)) ∙ both_parts c.args.now lists c.split_at.result.0.now c.split_at.result.1.now c.split_at.ensures.by_index.0 in
    said_so c.joined.result (union c.in_ok-one.one c.in_ok-other.other) (with_lists c.args.now empty lists) c.joined.ensures.ok parts

pub returns-clause-too_many : goal.returns-clause-too_many
returns-clause-too_many t c e =
    let lists = c.args.lists.now in
    let parts : union c.in_ok-one.one c.in_ok-other.other ≡ with_lists c.args.now empty lists =
    (λ i. union (c.in_ok-one.ensures.ok i) (c.in_ok-other.ensures.ok i)) ∙ both_parts c.args.now lists c.split_at.result.0.now c.split_at.result.1.now c.split_at.ensures.by_index.0 in
    over_so _ _ parts (c.joined.ensures.too_many e)
