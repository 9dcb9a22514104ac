use Rattle.std.proofs.Common.{◌≡◌, ◌∙◌, ◌+◌, ◌-◌, ◌*◌, ◌/◌, ◌^◌, ◌≤◌, ap, sym, subst, arith}
use Rattle.prefixes.specs.Payload.{Payload}
use Rattle.vrps.specs.Groups.{prefix_at}
use Rattle.vrps.specs.Keys.{key_prefix, up_to}
use Rattle.vrps.proofs.Grouped.{half_more, stays_after}
use Rattle.vrps.proofs.search.last_up_to.Goals as goal

pub loop-low-preserved-then-is_up_to : goal.loop-low-preserved-then-is_up_to
loop-low-preserved-then-is_up_to c =
    let records = c.args.groups.now.records.items in
    let starts = c.args.groups.now.starts.items in
    let low = c.loop-low.low in
    let high = c.loop-low.high in
    let middle = low + (high - low) / 2 in
    let i = c.loop-low.invariant in
    let ordered = i.low in
    let test = c.loop-low-test.true in
    let back : middle ≡ middle + 1 - 1 = omega arith in
    let one : c.at-group.new.probes ≡ c.loop-low.probes + 1 = c.at-group.ensures.counted in
    let counted = i.counted in
    let room = i.room in
    let more : c.at-group.new.probes - c.args.probes.now ≡ c.loop-low.probes - c.args.probes.now + 1 = omega (arith, one, counted) in
    let halves = half_more (c.loop-low.probes - c.args.probes.now) (high - low) (high - (middle + 1)) c.args.places (omega (arith, test)) (omega (arith, test)) i.halves in
    let same = c.at-group.ensures.groups in
    let read : (d : Payload) → key_prefix c.key.result ≡ prefix_at records starts middle d =
    λ d. c.key.ensures d ∙ (λ j. prefix_at (same j).records.items (same j).starts.items (c.at-group.ensures.place j) d) in
    record {
      low = omega (arith, test);
      high = i.high;
      last = (omega arith, c.at-group.ensures.place ∙ back, same);
      before = λ d some. ap (λ n. up_to (prefix_at records starts n d) (key_prefix c.args.key.now)) (sym back) ∙ ap (λ p. up_to p (key_prefix c.args.key.now)) (sym (read d)) ∙ sym c.is_up_to.ensures ∙ c.if-is_up_to.true;
      after = i.after;
      counted = omega (arith, one, counted);
      room = omega (arith, one, room, test);
      halves = subst (λ n. 2 ^ n * (high - (middle + 1)) ≤ c.args.places) (sym more) halves.0;
      few = subst (λ n. 2 ^ n ≤ 2 * c.args.places + 1) (sym more) halves.1;
      some = λ none. omega (arith, one, counted, none);
    }

pub loop-low-preserved : goal.loop-low-preserved
loop-low-preserved c =
    let records = c.args.groups.now.records.items in
    let starts = c.args.groups.now.starts.items in
    let g = c.args.groups.now.sorted in
    let low = c.loop-low.low in
    let high = c.loop-low.high in
    let middle = low + (high - low) / 2 in
    let i = c.loop-low.invariant in
    let bound = i.high in
    let places = c.requires.places in
    let test = c.loop-low-test.true in
    let one : c.at-group.new.probes ≡ c.loop-low.probes + 1 = c.at-group.ensures.counted in
    let counted = i.counted in
    let room = i.room in
    let more : c.at-group.new.probes - c.args.probes.now ≡ c.loop-low.probes - c.args.probes.now + 1 = omega (arith, one, counted) in
    let halves = half_more (c.loop-low.probes - c.args.probes.now) (high - low) (middle - low) c.args.places (omega (arith, test)) (omega (arith, test)) i.halves in
    let same = c.at-group.ensures.groups in
    let read : (d : Payload) → key_prefix c.key.result ≡ prefix_at records starts middle d =
    λ d. c.key.ensures d ∙ (λ j. prefix_at (same j).records.items (same j).starts.items (c.at-group.ensures.place j) d) in
    record {
      low = omega (arith, test);
      high = omega (arith, bound, test);
      last = i.last;
      before = i.before;
      after = λ place d from to.
          stays_after records starts g middle place d (key_prefix c.args.key.now) (ap (λ p. up_to p (key_prefix c.args.key.now)) (sym (read d)) ∙ sym c.is_up_to.ensures ∙ c.if-is_up_to.false) from (omega (arith, to, places));
      counted = omega (arith, one, counted);
      room = omega (arith, one, room, test);
      halves = subst (λ n. 2 ^ n * (middle - low) ≤ c.args.places) (sym more) halves.0;
      few = subst (λ n. 2 ^ n ≤ 2 * c.args.places + 1) (sym more) halves.1;
      some = λ none. omega (arith, one, counted, none);
    }
