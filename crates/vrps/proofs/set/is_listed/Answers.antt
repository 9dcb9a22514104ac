use Rattle.std.proofs.Common.{◌∙◌}
use Rattle.vrps.proofs.Searching.{has_searched}
use Rattle.vrps.proofs.set.is_listed.Goals as goal

pub returns : goal.returns
returns c =
    c.is_ok.ensures.value ∙ has_searched _ c.args.vrp.now c.requires c.binary_search.result c.binary_search.ensures.bound c.binary_search.ensures.position
