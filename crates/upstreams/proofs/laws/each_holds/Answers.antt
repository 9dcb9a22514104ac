use Rattle.rtr_ends.proofs.ConsumedLaws.{router_splits}
use Rattle.rtr_ends.proofs.KeptLaws.{router_keeps}
use Rattle.rtr_ends.proofs.SaidLaws.{router_says}
use Rattle.upstreams.proofs.laws.each_holds.Goals as goal

pub returns : goal.returns
returns g c = λ calls b shown. record { shown = shown; split = router_splits calls shown.can_be; kept = router_keeps calls; said = router_says calls }
