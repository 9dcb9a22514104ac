use Rattle.std.proofs.Common.{◌≡◌, ◌∙◌, ◌+◌, ◌*◌, ◌≤◌, length, ap, sym, subst, arith}
use Rattle.std.specs.List.{list_any}
use Rattle.prefixes.specs.Payload.{block_of}
use Rattle.vrps.specs.Groups.{begin, group_count, prefixes_of}
use Rattle.vrps.specs.Origin.{matches, state_among}
use Rattle.vrps.specs.Search.{digit_count}
use Rattle.vrps.proofs.Grouped.{costs_joined, some_read}
use Rattle.vrps.proofs.JudgingRoutes.{at_most_128, few_groups, few_probes, judged_none, matched_part, none_more, now_covered}
use Rattle.vrps.proofs.Listed.{listing_is}
use Rattle.vrps.proofs.origin.OriginIndex.state_counted.Goals as goal

pub next_covering-requires-clause-probes : goal.next_covering-requires-clause-probes
next_covering-requires-clause-probes c =
    let i = c.loop-group.invariant in
    let g = c.self.inside.groups.sorted in
    let few = i.cost.few in
    let wide = at_most_128 c.args.route.now.prefix in
    let family = i.left.in_family in
    let groups = few_groups c.self.inside.groups.records.items c.self.inside.groups.starts.items g in
    let limit = c.self.invariant.within_limit in
    let bound = few_probes (block_of c.args.route.now.prefix).len (length c.self.inside.groups.starts.items) (omega (arith, wide, family)) (omega (arith, groups, limit)) in
    omega (arith, few, bound, groups, limit)

pub returns-then-is_matched-clause-state : goal.returns-then-is_matched-clause-state
returns-then-is_matched-clause-state c =
    let records = c.self.inside.groups.records.items in
    let starts = c.self.inside.groups.starts.items in
    let g = c.self.inside.groups.sorted in
    let i = c.loop-group.invariant in
    let next = c.in-Some.ensures.next.0 in
    let fewer = next.fewer in
    let places = i.left.in_places in
    let some = g.grow c.next_covering.new.rest.places (omega (arith, fewer, places)) in
    sym (matched_part records c.args.route.now (begin records starts c.next_covering.new.rest.places) (begin records starts (c.next_covering.new.rest.places + 1)) (omega (arith, some))
    (ap (λ l. list_any (matches c.args.route.now) l) (sym next.is) ∙ sym c.is_matched.ensures ∙ c.if-is_matched.true))
    ∙ ap (λ l. state_among l c.args.route.now) (listing_is c.args.self.now records c.self.view_is c.self.invariant)

pub returns-then-is_matched-clause-probes : goal.returns-then-is_matched-clause-probes
returns-then-is_matched-clause-probes c =
    let records = c.self.inside.groups.records.items in
    let g = c.self.inside.groups.sorted in
    let i = c.loop-group.invariant in
    let few = (costs_joined (length c.self.inside.groups.starts.items) ((block_of c.args.route.now.prefix).len + 1) c.loop-group.rest.lengths c.next_covering.new.rest.lengths 0 c.loop-group.probes c.next_covering.new.probes i.cost c.in-Some.ensures.cost).few in
    let same : length c.self.inside.groups.starts.items ≡ group_count c.args.self.now = g.counted ∙ ap (λ l. length (prefixes_of l)) (listing_is c.args.self.now records c.self.view_is c.self.invariant) in
    let bound = subst (λ n. c.next_covering.new.probes ≤ ((block_of c.args.route.now.prefix).len + 1) * digit_count n) same (omega (arith, few)) in
    omega (arith, bound)

pub loop-group-preserved : goal.loop-group-preserved
loop-group-preserved c =
    let records = c.self.inside.groups.records.items in
    let starts = c.self.inside.groups.starts.items in
    let g = c.self.inside.groups.sorted in
    let i = c.loop-group.invariant in
    let next = c.in-Some.ensures.next in
    record {
      left = next.1;
      judged = now_covered records starts g c.args.route.now c.loop-group.rest.places c.next_covering.new.rest.places c.in-Some.group.now i.left.in_places next.0;
      none = none_more records starts g c.args.route.now c.loop-group.rest.places c.next_covering.new.rest.places c.in-Some.group.now i.left.in_places next.0 i.none (sym c.is_matched.ensures ∙ c.if-is_matched.false);
      cost = costs_joined (length starts) ((block_of c.args.route.now.prefix).len + 1) c.loop-group.rest.lengths c.next_covering.new.rest.lengths 0 c.loop-group.probes c.next_covering.new.probes i.cost c.in-Some.ensures.cost;
      some = λ none.
          let counted = c.in-Some.ensures.cost.counted in
          let first = i.some (omega (arith, counted, none)) in
          let fewer = next.0.fewer in
          let read = c.in-Some.ensures.some (omega (arith, fewer)) first.1 in
          absurd (omega (arith, read, none));
    }

pub returns-clause-state : goal.returns-clause-state
returns-clause-state c =
    let records = c.self.inside.groups.records.items in
    let starts = c.self.inside.groups.starts.items in
    let i = c.loop-group.invariant in
    judged_none records c.args.route.now (begin records starts c.loop-group.rest.places) c.loop-group.state i.judged i.none c.in_default.ensures.next.0
    ∙ ap (λ l. state_among l c.args.route.now) (listing_is c.args.self.now records c.self.view_is c.self.invariant)

pub returns-clause-probes : goal.returns-clause-probes
returns-clause-probes c =
    let records = c.self.inside.groups.records.items in
    let g = c.self.inside.groups.sorted in
    let i = c.loop-group.invariant in
    let few = (costs_joined (length c.self.inside.groups.starts.items) ((block_of c.args.route.now.prefix).len + 1) c.loop-group.rest.lengths c.next_covering.new.rest.lengths 0 c.loop-group.probes c.next_covering.new.probes i.cost c.in_default.ensures.cost).few in
    let same : length c.self.inside.groups.starts.items ≡ group_count c.args.self.now = g.counted ∙ ap (λ l. length (prefixes_of l)) (listing_is c.args.self.now records c.self.view_is c.self.invariant) in
    let bound = subst (λ n. c.next_covering.new.probes ≤ ((block_of c.args.route.now.prefix).len + 1) * digit_count n) same (omega (arith, few)) in
    omega (arith, bound)

pub returns-then-is_matched-clause-some : goal.returns-then-is_matched-clause-some
returns-then-is_matched-clause-some c have =
    let g = c.self.inside.groups.sorted in
    let i = c.loop-group.invariant in
    let same : length c.self.inside.groups.starts.items ≡ group_count c.args.self.now = g.counted ∙ ap (λ l. length (prefixes_of l)) (listing_is c.args.self.now c.self.inside.groups.records.items c.self.view_is c.self.invariant) in
    some_read (length c.self.inside.groups.starts.items) c.loop-group.rest.places c.loop-group.rest.lengths c.loop-group.probes c.next_covering.new.probes i.some c.in-Some.ensures.some c.in-Some.ensures.cost.counted (omega (arith, same, have))

pub returns-clause-some : goal.returns-clause-some
returns-clause-some c have =
    let g = c.self.inside.groups.sorted in
    let i = c.loop-group.invariant in
    let same : length c.self.inside.groups.starts.items ≡ group_count c.args.self.now = g.counted ∙ ap (λ l. length (prefixes_of l)) (listing_is c.args.self.now c.self.inside.groups.records.items c.self.view_is c.self.invariant) in
    some_read (length c.self.inside.groups.starts.items) c.loop-group.rest.places c.loop-group.rest.lengths c.loop-group.probes c.next_covering.new.probes i.some c.in_default.ensures.some c.in_default.ensures.cost.counted (omega (arith, same, have))
