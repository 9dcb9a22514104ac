use Rattle.std.proofs.Common.{◌∙◌, sym}
use Rattle.vrps.proofs.Fronts.{above_at, above_none, both_at, both_fewer, front_at_s, front_at_t, front_none, none_of, rest_ascends, swaps, swaps_equal}
use Rattle.vrps.proofs.merge.front_of.Goals as goal

pub returns-in_default-rest_t : goal.returns-in_default-rest_t
returns-in_default-rest_t c =
    let l = c.loop-rest_s in
    rw (c.made_front.ensures.first, c.made_front.ensures.of_s, c.made_front.ensures.s, c.made_front.ensures.t)
    (record {
      front = front_at_s c.args.s.now c.args.t.now l.rest_s.now l.rest_t.now c.x-item.result c.in-len1-up.len_at_least c.x-item.is l.invariant.s_ascends l.invariant.t_ascends
          (above_none c.x-item.result l.rest_t.now c.in_default-rest_t.len_below) l.invariant.only_s l.invariant.only_t l.invariant.fewer;
    })

pub returns-in-Less : goal.returns-in-Less
returns-in-Less c =
    let l = c.loop-rest_s in
    rw (c.made_front-in-Less.ensures.first, c.made_front-in-Less.ensures.of_s, c.made_front-in-Less.ensures.s, c.made_front-in-Less.ensures.t)
    (record {
      front = front_at_s c.args.s.now c.args.t.now l.rest_s.now l.rest_t.now c.x-item.result c.in-len1-up.len_at_least c.x-item.is l.invariant.s_ascends l.invariant.t_ascends
          (above_at c.x-item.result c.y-item.result l.rest_t.now c.in-len1-up-rest_t.len_at_least c.y-item.is l.invariant.t_ascends (sym c.cmp.ensures ∙ c.in-Less.is)) l.invariant.only_s l.invariant.only_t l.invariant.fewer;
    })

pub returns-in-Greater : goal.returns-in-Greater
returns-in-Greater c =
    let l = c.loop-rest_s in
    rw (c.made_front-in-Greater.ensures.first, c.made_front-in-Greater.ensures.of_s, c.made_front-in-Greater.ensures.s, c.made_front-in-Greater.ensures.t)
    (record {
      front = front_at_t c.args.s.now c.args.t.now l.rest_s.now l.rest_t.now c.y-item.result c.in-len1-up-rest_t.len_at_least c.y-item.is l.invariant.s_ascends l.invariant.t_ascends
          (above_at c.y-item.result c.x-item.result l.rest_s.now c.in-len1-up.len_at_least c.x-item.is l.invariant.s_ascends (swaps c.x-item.result c.y-item.result (sym c.cmp.ensures ∙ c.in-Greater.is)))
          l.invariant.only_s l.invariant.only_t l.invariant.fewer;
    })

pub loop-rest_s-preserved : goal.loop-rest_s-preserved
loop-rest_s-preserved c =
    let l = c.loop-rest_s in
    let i = l.invariant in
    let x = c.x-item.result in
    let y = c.y-item.result in
    let some = c.in-len1-up.len_at_least in
    let more = c.in-len1-up-rest_t.len_at_least in
    let same = sym c.cmp.ensures ∙ c.in-Equal.is in
    record {
      only_s = both_at l.rest_s.now l.rest_t.now x y some more c.x-item.is c.y-item.is i.s_ascends i.t_ascends same ∙ i.only_s;
      only_t = both_at l.rest_t.now l.rest_s.now y x more some c.y-item.is c.x-item.is i.t_ascends i.s_ascends (swaps_equal x y same) ∙ i.only_t;
      s_ascends = rest_ascends l.rest_s.now x some c.x-item.is i.s_ascends;
      t_ascends = rest_ascends l.rest_t.now y more c.y-item.is i.t_ascends;
      fewer = both_fewer l.rest_s.now l.rest_t.now _ i.fewer;
    }

pub returns-in-empty : goal.returns-in-empty
returns-in-empty c =
    let l = c.loop-rest_s in
    rw (c.made_front-in-empty.ensures.first, c.made_front-in-empty.ensures.of_s, c.made_front-in-empty.ensures.s, c.made_front-in-empty.ensures.t)
    (record { front = front_none c.args.s.now c.args.t.now l.rest_s.now l.rest_t.now (none_of l.rest_s.now c.in_default.len_below) (none_of l.rest_t.now c.in-empty.len_below) l.invariant.only_s l.invariant.only_t })

pub returns-in-len1-up-rest_t-2 : goal.returns-in-len1-up-rest_t-2
returns-in-len1-up-rest_t-2 c =
    let l = c.loop-rest_s in
    rw (c.made_front-in-len1-up-rest_t-2.ensures.first, c.made_front-in-len1-up-rest_t-2.ensures.of_s, c.made_front-in-len1-up-rest_t-2.ensures.s, c.made_front-in-len1-up-rest_t-2.ensures.t)
    (record {
      front = front_at_t c.args.s.now c.args.t.now l.rest_s.now l.rest_t.now c.y-item-2.result c.in-len1-up-rest_t-2.len_at_least c.y-item-2.is l.invariant.s_ascends l.invariant.t_ascends
          (above_none c.y-item-2.result l.rest_s.now c.in_default.len_below) l.invariant.only_s l.invariant.only_t l.invariant.fewer;
    })
