use Rattle.std.proofs.Common.{◌∙◌, ◌+◌, length, filter, ap, arith}
use Rattle.prefixes.specs.Payload.{block_of}
use Rattle.vrps.specs.Origin.{covers_route}
use Rattle.vrps.proofs.Grouped.{costs_joined}
use Rattle.vrps.proofs.JudgingRoutes.{at_most_128, few_groups, few_probes, found_all, found_more}
use Rattle.vrps.proofs.Listed.{listing_is}
use Rattle.vrps.proofs.origin.OriginIndex.covering.Goals as goal

pub next_covering-requires-clause-probes : goal.next_covering-requires-clause-probes
next_covering-requires-clause-probes c =
    let i = c.loop-group.invariant in
    let g = c.self.inside.groups.sorted in
    let few = i.cost.few in
    let wide = at_most_128 c.args.route.now.prefix in
    let family = i.left.in_family in
    let groups = few_groups c.self.inside.groups.records.items c.self.inside.groups.starts.items g in
    let limit = c.self.invariant.within_limit in
    let bound = few_probes (block_of c.args.route.now.prefix).len (length c.self.inside.groups.starts.items) (omega (arith, wide, family)) (omega (arith, groups, limit)) in
    omega (arith, few, bound, groups, limit)

pub loop-group-preserved : goal.loop-group-preserved
loop-group-preserved c =
    let records = c.self.inside.groups.records.items in
    let starts = c.self.inside.groups.starts.items in
    let i = c.loop-group.invariant in
    let next = c.in-Some.ensures.next in
    record {
      left = next.1;
      found = found_more records starts c.self.inside.groups.sorted c.args.route.now c.loop-group.rest.places c.next_covering.new.rest.places c.in-Some.group.now c.loop-group.found.items _ i.left.in_places next.0 i.found c.in_ok-push_back_to_front.ensures;
      cost = costs_joined (length starts) ((block_of c.args.route.now.prefix).len + 1) c.loop-group.rest.lengths c.next_covering.new.rest.lengths 0 c.loop-group.probes c.next_covering.new.probes i.cost c.in-Some.ensures.cost;
    }

pub returns : goal.returns
returns c =
    let records = c.self.inside.groups.records.items in
    c.reverse.ensures.items ∙ found_all records c.self.inside.groups.starts.items c.self.inside.groups.sorted c.args.route.now c.loop-group.rest.places c.loop-group.found.items c.in_default.ensures.next.0 c.loop-group.invariant.found
    ∙ ap (λ l. filter (covers_route c.args.route.now) l) (listing_is c.args.self.now records c.self.view_is c.self.invariant)
