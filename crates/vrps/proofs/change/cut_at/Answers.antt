use Rattle.std.proofs.Common.{◌≡◌, ◌∙◌, ◌-◌, ◌+◌, true, false, sym, subst, take, drop, length, length-drop, arith}
use Rattle.std.proofs.lemmas.List.{take_all}
use Rattle.std.proofs.lemmas.List.Elements.{All-more}
use Rattle.prefixes.specs.Payload.{vrp_cmp}
use Rattle.std.specs.declared.cmp.Ordering.TheVariants.{Less}
use Rattle.vrps.specs.Walk.{IsCut}
use Rattle.vrps.proofs.Cuts.{cut_found, cut_between, cut_past}
use Rattle.vrps.proofs.change.cut_at.Goals as goal

pub loop-index-preserved : goal.loop-index-preserved
loop-index-preserved c =
    let vs = c.args.records.now in
    let i = c.loop-index.index in
    let x = c.index-records-index.result in
    All-more (λ v. vrp_cmp v c.args.at.now ≡ Less) vs i x c.loop-index-test.true c.loop-index.invariant
    (subst (λ y. vrp_cmp y c.args.at.now ≡ Less) c.index-records-index.is (sym c.cmp.ensures ∙ c.in-Less.is))

pub returns-in-Equal : goal.returns-in-Equal
returns-in-Equal c =
    let vs = c.args.records.now in
    let i = c.loop-index.index in
    let all : take (length vs - (i + 1)) (drop (i + 1) vs) ≡ drop (i + 1) vs = take_all (length vs - (i + 1)) (drop (i + 1) vs) (omega (arith, length-drop (i + 1) vs)) in
    subst (λ l. IsCut vs c.args.at.now (take i vs) true l) (sym all)
    (cut_found vs i c.index-records-index.result c.args.at.now c.requires c.loop-index-test.true c.index-records-index.is c.loop-index.invariant (sym c.cmp.ensures ∙ c.in-Equal.is))

pub returns-in-Greater : goal.returns-in-Greater
returns-in-Greater c =
    let vs = c.args.records.now in
    let i = c.loop-index.index in
    let all : take (length vs - i) (drop i vs) ≡ drop i vs = take_all (length vs - i) (drop i vs) (omega (arith, length-drop i vs)) in
    subst (λ l. IsCut vs c.args.at.now (take i vs) false l) (sym all)
    (cut_between vs i c.index-records-index.result c.args.at.now c.requires c.loop-index-test.true c.index-records-index.is c.loop-index.invariant (sym c.cmp.ensures ∙ c.in-Greater.is))

pub returns : goal.returns
returns c = cut_past c.args.records.now c.loop-index.index c.args.at.now c.loop-index-test.false c.loop-index.invariant
