use Rattle.std.proofs.Common.{◌≡◌, ◌∙◌, ◌+◌, true, false, not, ◌||◌, cond, [], ◌∷◌, ◌++◌, append_assoc, append-nil, drop, length, ap, sym, subst, arith}
use Rattle.std.proofs.lemmas.List.{drop_all}
use Rattle.vrps.specs.Walk.{led}
use Rattle.vrps.proofs.Cuts.{from_next}
use Rattle.vrps.proofs.Listed.{led_payloads, lists}
use Rattle.vrps.proofs.Walks.{Ascends, ascends_drop, cut_ascends, kept_or_not, led_cut, led_end, led_listings}
use Rattle.vrps.proofs.change.applied.Goals as goal
use Rattle.vrps.proofs.change.applied.Goals.{then-announced+in_ok-push, then-announced-via-then-announced, then-announced-via-else-announced+then-not-withdrawn, else-announced+else-not-withdrawn}

pub overflow_add-expected : goal.overflow_add-expected
overflow_add-expected c =
    let members = (lists c.args.set.now c.as_slice-members.ensures.set).within_limit in
    let announce = (lists c.args.change.now.announce c.as_slice-announce.ensures.set).within_limit in
    omega (arith, members, announce, ap (λ l. length l) c.as_slice-members.ensures.value, ap (λ l. length l) c.as_slice-announce.ensures.value)

pub loop-vrp-init : goal.loop-vrp-init
loop-vrp-init c = record {
  items =
      ap (λ l. l ++ led c.as_slice-members.result.now c.as_slice-withdraw.result.now c.as_slice-announce.result.now) c.in_ok-items.ensures.items
      ∙ (λ i. led (c.as_slice-members.ensures.value i) (c.as_slice-withdraw.ensures.value i) (c.as_slice-announce.ensures.value i))
      ∙ led_listings c.args.change.now c.args.set.now;
  withdraw = c.as_slice-withdraw.ensures.ascends;
  announce = c.as_slice-announce.ensures.ascends;
}

pub cut_at-withdrawn-requires : goal.cut_at-withdrawn-requires
cut_at-withdrawn-requires c = c.loop-vrp.invariant.withdraw

pub cut_at-announced-requires : goal.cut_at-announced-requires
cut_at-announced-requires c = c.loop-vrp.invariant.announce

pub loop-vrp-preserved : goal.loop-vrp-preserved
loop-vrp-preserved c =
    let members = c.as_slice-members.result.now in
    let i = c.loop-vrp.vrp-index in
    let x = c.vrp-item.result in
    let gone = c.cut_at-withdrawn.result in
    let new = c.cut_at-announced.result in
    let old = c.loop-vrp.items.items in
    let left = drop (i + 1) members in
    let next = from_next members i x c.loop-vrp-test.true c.vrp-item.is in
    let ascends = subst (λ l. Ascends l) next (ascends_drop i members c.as_slice-members.ensures.ascends) in
    let keep = new.found || not gone.found in
    let pushed : c.if-announced.items.items ≡ c.extend_from_slice.new.self.items ++ cond keep (x ∷ []) [] =
    elim c.if-announced.branch [
      | then-announced+in_ok-push w ↦
          let stays : keep ≡ true = elim w.then-announced.branch [
            | then-announced-via-then-announced h ↦ ap (λ b. b || not gone.found) h.if-announced.true
            | then-announced-via-else-announced+then-not-withdrawn h ↦ (λ k. h.if-announced.false k || not (h.if-not-withdrawn.true k))
          ] in
          (λ k. (w.items-is k).items) ∙ w.in_ok-push.ensures.items ∙ ap (λ b. c.extend_from_slice.new.self.items ++ cond b (x ∷ []) []) (sym stays)
      | else-announced+else-not-withdrawn w ↦
          let goes : keep ≡ false = (λ k. w.if-announced.false k || not (w.if-not-withdrawn.false k)) in
          (λ k. (w.items-is k).items) ∙ sym (append-nil c.extend_from_slice.new.self.items) ∙ ap (λ b. c.extend_from_slice.new.self.items ++ cond b (x ∷ []) []) (sym goes)
    ] in
    let more = led left gone.above.now new.above.now in
    record {
      items =
          kept_or_not x c.extend_from_slice.new.self.items c.if-announced.items.items more keep pushed
          ∙ ap (λ l. l ++ cond keep (x ∷ more) more) c.in_ok-extend_from_slice.ensures.items
          ∙ append_assoc old new.below.now (cond keep (x ∷ more) more)
          ∙ ap (λ l. old ++ l) (sym (led_cut x left c.loop-vrp.withdraw.now c.loop-vrp.announce.now gone.below.now gone.found gone.above.now new.below.now new.found new.above.now
          ascends c.loop-vrp.invariant.announce c.cut_at-withdrawn.ensures c.cut_at-announced.ensures))
          ∙ ap (λ l. old ++ led l c.loop-vrp.withdraw.now c.loop-vrp.announce.now) (sym next)
          ∙ c.loop-vrp.invariant.items;
      withdraw = cut_ascends x c.loop-vrp.withdraw.now gone.below.now gone.found gone.above.now c.loop-vrp.invariant.withdraw c.cut_at-withdrawn.ensures;
      announce = cut_ascends x c.loop-vrp.announce.now new.below.now new.found new.above.now c.loop-vrp.invariant.announce c.cut_at-announced.ensures;
    }

pub returns : goal.returns
returns c =
    let members = c.as_slice-members.result.now in
    let old = c.loop-vrp.items.items in
    let all : drop c.loop-vrp.vrp-index members ≡ [] = drop_all c.loop-vrp.vrp-index members c.loop-vrp-test.false in
    let is = c.in_ok-extend_from_slice-2.ensures.items
    ∙ ap (λ l. old ++ l) (sym (led_end c.loop-vrp.withdraw.now c.loop-vrp.announce.now c.loop-vrp.invariant.announce))
    ∙ ap (λ l. old ++ led l c.loop-vrp.withdraw.now c.loop-vrp.announce.now) (sym all)
    ∙ c.loop-vrp.invariant.items in
    (is, led_payloads c.args.change.now c.args.set.now _ is c.as_slice-members.ensures.set c.as_slice-announce.ensures.set)
