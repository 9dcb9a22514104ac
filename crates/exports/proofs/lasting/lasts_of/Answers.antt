use Rattle.std.proofs.Common.{◌≡◌, ◌∙◌, ◌+◌, get_or, length, refl, set, subst, sym, take, arith}
use Rattle.std.specs.Prelude.{max}
use Rattle.std.proofs.lemmas.List.{take_all}
use Rattle.std.proofs.lemmas.Option.{slice_get_read, slice_get_within}
use Rattle.exports.specs.Lasting.{last_at}
use Rattle.exports.proofs.Lasts.{Raised, all_raised, begun, is_member, members_ascend, one_more}
use Rattle.exports.proofs.Places.{Numbered, all_numbered, none_numbered, one_more_numbered}
use Rattle.exports.proofs.lasting.lasts_of.Goals as goal

pub loop-index-init : goal.loop-index-init
loop-index-init c = (
  begun c.args.members.now c.args.lasts.now c.in_ok-found.found.items (c.in_ok-found.ensures.items_if_clones_equal (λ x h. h)),
  none_numbered c.args.members.now c.args.records.now c.args.numbers.now c.in_ok-of_each.of_each.items (c.in_ok-of_each.ensures.items_if_clones_equal (λ x h. h)),
)

pub place_of-place-requires-clause-ascends : goal.place_of-place-requires-clause-ascends
place_of-place-requires-clause-ascends c = members_ascend c.args.members.now c.args.records.now c.requires

pub place_of-place-requires-clause-member : goal.place_of-place-requires-clause-member
place_of-place-requires-clause-member c =
    is_member c.args.members.now c.args.records.now c.loop-index.index c.index-records-index.result c.requires
    (slice_get_read c.args.records.now (length c.args.records.now) c.loop-index.index c.index-records-index.result refl c.loop-index-test.true c.index-records-index.is)

pub index-requires : goal.index-requires
index-requires c =
    let inside = slice_get_within c.args.members.now c.place_of-place.result c.index-records-index.result c.place_of-place.ensures in
    omega (arith, inside, c.loop-index.invariant.0.long, c.loop-index.found.ok.0)

pub index_mut-requires : goal.index_mut-requires
index_mut-requires c =
    let inside = slice_get_within c.args.members.now c.place_of-place.result c.index-records-index.result c.place_of-place.ensures in
    omega (arith, inside, c.loop-index.invariant.0.long, c.loop-index.found.ok.0, c.loop-index.invariant.1.long, c.loop-index.of_each.ok.0)

pub index_mut-requires-in-loop-index : goal.index_mut-requires-in-loop-index
index_mut-requires-in-loop-index c =
    let inside = slice_get_within c.args.members.now c.place_of-place.result c.index-records-index.result c.place_of-place.ensures in
    omega (arith, inside, c.loop-index.invariant.0.long, c.loop-index.found.ok.0, c.loop-index.invariant.1.long, c.loop-index.of_each.ok.0)

pub overflow_add-guess : goal.overflow_add-guess
overflow_add-guess c =
    let inside = slice_get_within c.args.members.now c.place_of-place.result c.index-records-index.result c.place_of-place.ensures in
    omega (arith, inside, c.loop-index.invariant.0.long, c.loop-index.found.ok.0, c.loop-index.found.small)

pub loop-index-preserved : goal.loop-index-preserved
loop-index-preserved c =
    let found = c.loop-index.found.items in
    let place = c.place_of-place.result in
    let raised : c.max.result ≡ max (get_or found place c.index.result.now) (last_at c.args.lasts.now c.loop-index.index) = c.max.ensures ∙ (λ i. max (c.index.ensures i) (c.last_at.ensures i)) in
    let here = slice_get_read c.args.records.now (length c.args.records.now) c.loop-index.index c.index-records-index.result refl c.loop-index-test.true c.index-records-index.is in
    let of_each = c.loop-index.of_each.items in (
      subst (λ n. Raised c.args.members.now (take (c.loop-index.index + 1) c.args.records.now) c.args.lasts.now (set found place n)) (sym raised)
          (one_more c.args.members.now c.args.records.now c.args.lasts.now found c.loop-index.index place c.index-records-index.result c.index.result.now c.loop-index.invariant.0 here c.place_of-place.ensures),
      subst (λ n. Numbered c.args.members.now c.args.records.now (c.loop-index.index + 1) c.args.numbers.now (set of_each place n)) (sym c.number_at.ensures)
          (one_more_numbered c.args.members.now c.args.records.now c.loop-index.index place c.index-records-index.result c.args.numbers.now of_each c.requires here c.place_of-place.ensures c.loop-index.invariant.1),
    )

pub returns-clause-lasts : goal.returns-clause-lasts
returns-clause-lasts c =
    all_raised c.args.members.now c.args.records.now c.args.lasts.now c.loop-index.found.items c.requires
    (subst (λ vs. Raised c.args.members.now vs c.args.lasts.now c.loop-index.found.items) (take_all c.loop-index.index c.args.records.now c.loop-index-test.false) c.loop-index.invariant.0)

pub returns-clause-numbers : goal.returns-clause-numbers
returns-clause-numbers c =
    all_numbered c.args.members.now c.args.records.now c.loop-index.index c.args.numbers.now c.loop-index.of_each.items c.requires (take_all c.loop-index.index c.args.records.now c.loop-index-test.false) c.loop-index.invariant.1
