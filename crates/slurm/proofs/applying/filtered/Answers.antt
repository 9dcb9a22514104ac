use Rattle.std.proofs.Common.{◌∙◌, ◌||◌, ap, subst}
use Rattle.std.specs.List.{list_any}
use Rattle.slurm.specs.Arranged.{Opens, hit_anywhere}
use Rattle.prefixes.specs.Payload.{covers}
use Rattle.slurm.proofs.Walking.{one_ahead}
use Rattle.slurm.proofs.applying.filtered.Goals as goal

pub loop-vrp-preserved : goal.loop-vrp-preserved
loop-vrp-preserved c =
    let o = subst (λ fs. Opens fs c.prefix-prefix.result c.loop-vrp.next c.loop-vrp.opened.items c.in_ok-next.next c.add_up_to.new.opened.items) c.as_slice.ensures.value c.in_ok-next.ensures in
    let hit = c.is_hit.ensures ∙ ap (λ gs. list_any (λ f. covers f c.vrp-item.result.prefix) gs || hit_anywhere c.in_ok-index.index c.vrp-item.result) c.as_slice-in-loop-vrp.ensures.value in
    one_ahead c.args.filters.now c.in_ok-index.index c.args.records.now c.loop-vrp.vrp-index c.loop-vrp.next c.in_ok-next.next c.vrp-item.result c.prefix-prefix.result
    c.loop-vrp.opened.items c.add_up_to.new.opened.items c.keep_covering.new.opened.items c.loop-vrp.matched.items c.push_if.new.records.items c.is_hit.result
    c.in_ok-index.ensures.hits c.in_ok-index.ensures.by_prefix c.in_ok-index.ensures.prefixes c.requires c.loop-vrp-test.true c.vrp-item.is c.prefix-prefix.ensures.value c.prefix-prefix.ensures.payload
    c.loop-vrp.invariant o c.keep_covering.ensures hit c.in_ok-push_if.ensures
