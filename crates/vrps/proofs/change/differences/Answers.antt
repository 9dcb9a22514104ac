use Rattle.std.proofs.Common.{◌≡◌, ◌∙◌, ◌+◌, not, cond, [], ◌∷◌, ◌++◌, append_assoc, append-nil, drop, ap, sym, subst}
use Rattle.std.proofs.lemmas.List.{drop_all}
use Rattle.vrps.specs.Walk.{left_out}
use Rattle.vrps.proofs.Cuts.{from_next}
use Rattle.vrps.proofs.Walks.{Ascends, ascends_drop, cut_ascends, cut_left_out, kept_or_not, left_out_all, left_out_cut, left_out_none}
use Rattle.vrps.proofs.change.differences.Goals as goal
use Rattle.vrps.proofs.change.differences.Goals.{then-not-parts+in_ok-push, else-not-parts}

pub loop-vrp-init : goal.loop-vrp-init
loop-vrp-init c = record {
  only_s = ap (λ l. l ++ left_out c.args.s.now c.args.t.now) c.new-only_s.ensures.items;
  only_t = ap (λ l. l ++ left_out c.args.t.now c.args.s.now) c.new-only_t.ensures.items;
  ascends = c.requires.t_ascends;
}

pub cut_at-parts-requires : goal.cut_at-parts-requires
cut_at-parts-requires c = c.loop-vrp.invariant.ascends

pub loop-vrp-preserved : goal.loop-vrp-preserved
loop-vrp-preserved c =
    let s = c.args.s.now in
    let i = c.loop-vrp.vrp-index in
    let x = c.vrp-item.result in
    let rest = c.loop-vrp.rest.now in
    let parts = c.cut_at-parts.result in
    let next = from_next s i x c.loop-vrp-test.true c.vrp-item.is in
    let ascends = subst (λ l. Ascends l) next (ascends_drop i s c.requires.s_ascends) in
    let pushed : c.if-not-parts.only_s.items ≡ c.loop-vrp.only_s.items ++ cond (not parts.found) (x ∷ []) [] =
    elim c.if-not-parts.branch [
      | then-not-parts+in_ok-push w ↦ (λ k. (w.only_s-is k).items) ∙ w.in_ok-push.ensures.items ∙ ap (λ b. c.loop-vrp.only_s.items ++ cond (not b) (x ∷ []) []) (sym w.if-not-parts.true)
      | else-not-parts w ↦ (λ k. (w.only_s-is k).items) ∙ sym (append-nil c.loop-vrp.only_s.items) ∙ ap (λ b. c.loop-vrp.only_s.items ++ cond (not b) (x ∷ []) []) (sym w.if-not-parts.false)
    ] in
    record {
      only_s =
          kept_or_not x c.loop-vrp.only_s.items _ (left_out (drop (i + 1) s) parts.above.now) (not parts.found) pushed
          ∙ ap (λ l. c.loop-vrp.only_s.items ++ l) (sym (left_out_cut x (drop (i + 1) s) rest parts.below.now parts.found parts.above.now ascends c.cut_at-parts.ensures))
          ∙ ap (λ l. c.loop-vrp.only_s.items ++ left_out l rest) (sym next)
          ∙ c.loop-vrp.invariant.only_s;
      only_t =
          ap (λ l. l ++ left_out parts.above.now (drop (i + 1) s)) c.in_ok-extend_from_slice.ensures.items ∙ append_assoc c.loop-vrp.only_t.items parts.below.now (left_out parts.above.now (drop (i + 1) s))
          ∙ ap (λ l. c.loop-vrp.only_t.items ++ l) (sym (cut_left_out x (drop (i + 1) s) rest parts.below.now parts.found parts.above.now ascends c.loop-vrp.invariant.ascends c.cut_at-parts.ensures))
          ∙ ap (λ l. c.loop-vrp.only_t.items ++ left_out rest l) (sym next)
          ∙ c.loop-vrp.invariant.only_t;
      ascends = cut_ascends x rest parts.below.now parts.found parts.above.now c.loop-vrp.invariant.ascends c.cut_at-parts.ensures;
    }

pub returns : goal.returns
returns c =
    let s = c.args.s.now in
    let rest = c.loop-vrp.rest.now in
    let all : drop c.loop-vrp.vrp-index s ≡ [] = drop_all c.loop-vrp.vrp-index s c.loop-vrp-test.false in (
      sym (append-nil c.loop-vrp.only_s.items) ∙ ap (λ l. c.loop-vrp.only_s.items ++ l) (sym (left_out_none rest)) ∙ ap (λ l. c.loop-vrp.only_s.items ++ left_out l rest) (sym all) ∙ c.loop-vrp.invariant.only_s,
      c.in_ok-extend_from_slice-2.ensures.items ∙ ap (λ l. c.loop-vrp.only_t.items ++ l) (sym (left_out_all rest c.loop-vrp.invariant.ascends)) ∙ ap (λ l. c.loop-vrp.only_t.items ++ left_out rest l) (sym all) ∙ c.loop-vrp.invariant.only_t,
    )
