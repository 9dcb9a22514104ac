use Rattle.std.proofs.Common.{◌≡◌, ◌∙◌, ◌+◌, ◌-◌, ◌<◌, length, ap, sym, subst, refl, arith}
use Rattle.vrps.specs.Found.{IsLastOf}
use Rattle.vrps.specs.Groups.{begin, group_at, prefix_at}
use Rattle.vrps.specs.Keys.{key_prefix}
use Rattle.vrps.specs.Search.{IsLeft, NoneCovers}
use Rattle.vrps.proofs.Grouped.{last_shorter, left_after_cover, left_after_pass, next_group, none_after, none_joined, one_length}
use Rattle.vrps.proofs.JudgingRoutes.{first_payload}
use Rattle.vrps.proofs.search.next_covering.Goals as goal

pub returns-in_default-clause-next : goal.returns-in_default-clause-next
returns-in_default-clause-next c =
    let records = c.args.groups.now.records.items in
    let starts = c.args.groups.now.starts.items in
    let g = c.args.groups.now.sorted in
    let i = c.loop-rest.invariant in
    let test = c.loop-rest-test.true in
    let found = c.last_up_to-found.result.places in
    let up = rw c.cut-key.ensures at c.last_up_to-found.ensures.found in
    let none : found ≡ 0 = subst (λ last. IsLastOf c.args.groups.now found last) c.in_default.is c.last_up_to-found.ensures.last in
    let start : begin records starts found ≡ 0 = ap (λ n. begin records starts n) none ∙ g.first in
    let after = none_after records starts g c.args.prefix.now c.loop-rest.rest.places c.loop-rest.rest.lengths (c.loop-rest.rest.lengths - 1) found i.left (omega (arith, test)) up in
    (none_joined records starts g c.args.prefix.now 0 _ _ (subst (λ n. NoneCovers records c.args.prefix.now n (begin records starts c.loop-rest.rest.places)) start after) i.none, refl)

pub returns-in_default-clause-cost : goal.returns-in_default-clause-cost
returns-in_default-clause-cost c =
    let i = c.loop-rest.invariant in
    one_length (length c.args.groups.now.starts.items) c.args.rest.now.lengths c.loop-rest.rest.lengths c.args.probes.now c.loop-rest.probes c.loop-rest.rest.places c.last_up_to-found.new.probes 0 i.cost i.left.in_places c.last_up_to-found.ensures.cost c.loop-rest-test.true

pub returns-then-covers-clause-next : goal.returns-then-covers-clause-next
returns-then-covers-clause-next c =
    let records = c.args.groups.now.records.items in
    let starts = c.args.groups.now.starts.items in
    let g = c.args.groups.now.sorted in
    let i = c.loop-rest.invariant in
    let test = c.loop-rest-test.true in
    let lengths = c.loop-rest.rest.lengths in
    let is : lengths ≡ lengths - 1 + 1 = omega (arith, test) in
    let found = c.last_up_to-found.result.places in
    let up = rw c.cut-key.ensures at c.last_up_to-found.ensures.found in
    let last = subst (λ last. IsLastOf c.args.groups.now found last) c.in-Some.is c.last_up_to-found.ensures.last in
    let some : 0 < found = last.0 in
    let name : key_prefix c.key-other.result ≡ prefix_at records starts (found - 1) first_payload =
    c.key-other.ensures first_payload ∙ (λ j. prefix_at (last.2 j).records.items (last.2 j).starts.items (last.1 j) first_payload) in
    let it = sym c.covers.ensures ∙ c.if-covers.true in
    let len = c.len-rest.ensures in
    let shorter = last_shorter records starts g c.args.prefix.now c.loop-rest.rest.places lengths (lengths - 1) found i.left is up some first_payload (key_prefix c.key-other.result) name it in
    let cost = i.cost.fewer in (
      next_group records starts g c.args.prefix.now c.loop-rest.rest.places lengths (lengths - 1) found i.left is up some first_payload (key_prefix c.key-other.result) name c.args.rest.now.places i.fewer i.none it c.records.result.now
          (c.records.ensures.part ∙ (λ j. group_at (last.2 j).records.items (last.2 j).starts.items (last.1 j))),
      subst (λ n. IsLeft records starts c.args.prefix.now (found - 1) n) (sym len)
          (left_after_cover records starts g c.args.prefix.now c.loop-rest.rest.places lengths (lengths - 1) found i.left is up some first_payload (key_prefix c.key-other.result) name it),
      omega (arith, shorter, len, cost),
    )

pub returns-then-covers-clause-cost : goal.returns-then-covers-clause-cost
returns-then-covers-clause-cost c =
    let records = c.args.groups.now.records.items in
    let starts = c.args.groups.now.starts.items in
    let g = c.args.groups.now.sorted in
    let i = c.loop-rest.invariant in
    let test = c.loop-rest-test.true in
    let lengths = c.loop-rest.rest.lengths in
    let is : lengths ≡ lengths - 1 + 1 = omega (arith, test) in
    let found = c.last_up_to-found.result.places in
    let up = rw c.cut-key.ensures at c.last_up_to-found.ensures.found in
    let last = subst (λ last. IsLastOf c.args.groups.now found last) c.in-Some.is c.last_up_to-found.ensures.last in
    let some : 0 < found = last.0 in
    let name : key_prefix c.key-other.result ≡ prefix_at records starts (found - 1) first_payload =
    c.key-other.ensures first_payload ∙ (λ j. prefix_at (last.2 j).records.items (last.2 j).starts.items (last.1 j) first_payload) in
    let it = sym c.covers.ensures ∙ c.if-covers.true in
    let len = c.len-rest.ensures in
    let shorter = last_shorter records starts g c.args.prefix.now c.loop-rest.rest.places lengths (lengths - 1) found i.left is up some first_payload (key_prefix c.key-other.result) name it in
    one_length (length starts) c.args.rest.now.lengths lengths c.args.probes.now c.loop-rest.probes c.loop-rest.rest.places c.last_up_to-found.new.probes c.len-rest.result i.cost i.left.in_places c.last_up_to-found.ensures.cost (omega (arith, shorter, len))

pub loop-rest-preserved : goal.loop-rest-preserved
loop-rest-preserved c =
    let records = c.args.groups.now.records.items in
    let starts = c.args.groups.now.starts.items in
    let g = c.args.groups.now.sorted in
    let i = c.loop-rest.invariant in
    let test = c.loop-rest-test.true in
    let lengths = c.loop-rest.rest.lengths in
    let is : lengths ≡ lengths - 1 + 1 = omega (arith, test) in
    let found = c.last_up_to-found.result.places in
    let up = rw c.cut-key.ensures at c.last_up_to-found.ensures.found in
    let last = subst (λ last. IsLastOf c.args.groups.now found last) c.in-Some.is c.last_up_to-found.ensures.last in
    let some : 0 < found = last.0 in
    let name : key_prefix c.key-other.result ≡ prefix_at records starts (found - 1) first_payload =
    c.key-other.ensures first_payload ∙ (λ j. prefix_at (last.2 j).records.items (last.2 j).starts.items (last.1 j) first_payload) in
    let not_it = sym c.covers.ensures ∙ c.if-covers.false in
    let least = c.min-rest.ensures in
    let a = up.fewer in
    let b = i.fewer in
    record {
      left = left_after_pass records starts g c.args.prefix.now c.loop-rest.rest.places lengths (lengths - 1) found i.left is up some first_payload (key_prefix c.key-other.result) name
          c.shared_lengths.result not_it c.shared_lengths.ensures c.min-rest.result (λ m low high. omega (arith, least, low, high)) (omega (arith, least));
      fewer = omega (arith, a, b);
      none = none_joined records starts g c.args.prefix.now _ _ _ (none_after records starts g c.args.prefix.now c.loop-rest.rest.places lengths (lengths - 1) found i.left is up) i.none;
      cost = one_length (length starts) c.args.rest.now.lengths lengths c.args.probes.now c.loop-rest.probes c.loop-rest.rest.places c.last_up_to-found.new.probes c.min-rest.result i.cost i.left.in_places c.last_up_to-found.ensures.cost (omega (arith, least, test));
      some = λ have none.
          let counted = i.cost.counted in
          let more = c.last_up_to-found.ensures.cost.counted in
          let first = (i.some have (omega (arith, more, none))).0 in
          let read = c.last_up_to-found.ensures.some (omega (arith, have, first)) in
          absurd (omega (arith, read, none, counted));
    }
