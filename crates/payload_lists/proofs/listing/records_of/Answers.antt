use Rattle.std.proofs.Common.{◌≡◌, ◌+◌, ◌++◌, ◌∷◌, if◌then◌else◌, ◌∙◌, [], drop, subst, sym, ap}
use Rattle.std.proofs.lemmas.List.{drop_all}
use Rattle.serde_json.specs.View.{items_view, view}
use Rattle.payload_lists.proofs.Entries.{SoFar, finish, finish_one, next_item, step, stop}
use Rattle.payload_lists.proofs.listing.records_of.Goals as goal

pub returns-in_default-clause-no_list : goal.returns-in_default-clause-no_list
returns-in_default-clause-no_list c e vs h =
    let left = next_item c.args.list.now c.loop-item.item-index c.item-item.result c.loop-item-test.true c.item-item.is in
    stop (items_view c.args.list.now) (items_view (drop (c.loop-item.item-index + 1) c.args.list.now)) (view c.item-item.result) c.loop-item.records.items
    (subst (λ ds. SoFar (items_view c.args.list.now) ds c.loop-item.records.items) left c.loop-item.invariant) c.in_default.ensures.none vs h

pub returns-clause-ok : goal.returns-clause-ok
returns-clause-ok c =
    let none : drop c.loop-item.item-index c.args.list.now ≡ [] = drop_all c.loop-item.item-index c.args.list.now c.loop-item-test.false in
    finish (items_view c.args.list.now) c.loop-item.records.items
    (subst (λ l. SoFar (items_view c.args.list.now) (items_view l) c.loop-item.records.items) none c.loop-item.invariant)

pub returns-clause-one : goal.returns-clause-one
returns-clause-one c =
    let none : drop c.loop-item.item-index c.args.list.now ≡ [] = drop_all c.loop-item.item-index c.args.list.now c.loop-item-test.false in
    finish_one (items_view c.args.list.now) c.loop-item.records.items
    (subst (λ l. SoFar (items_view c.args.list.now) (items_view l) c.loop-item.records.items) none c.loop-item.invariant)

pub loop-item-preserved : goal.loop-item-preserved
loop-item-preserved c =
    let left = next_item c.args.list.now c.loop-item.item-index c.item-item.result c.loop-item-test.true c.item-item.is in
    let pushed : c.push.new.self.items ≡ c.loop-item.records.items ++ c.in-Some.vrp ∷ [] =
    c.push.ensures.items ∙ ap (λ b. if b then c.loop-item.records.items ++ c.in-Some.vrp ∷ [] else c.loop-item.records.items) c.if-is_err.ensures.negation in
    subst (λ vs. SoFar (items_view c.args.list.now) (items_view (drop (c.loop-item.item-index + 1) c.args.list.now)) vs) (sym pushed)
    (step (items_view c.args.list.now) (items_view (drop (c.loop-item.item-index + 1) c.args.list.now)) (view c.item-item.result) c.loop-item.records.items c.in-Some.vrp
    (subst (λ ds. SoFar (items_view c.args.list.now) ds c.loop-item.records.items) left c.loop-item.invariant) c.in-Some.ensures.some c.in-Some.ensures.one)
