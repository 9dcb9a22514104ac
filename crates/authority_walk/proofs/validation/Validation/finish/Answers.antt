use Rattle.std.proofs.Common.{◌≡◌, true, subst, rules}
use Rattle.authority_walk.specs.Hierarchy.{Lists}
use Rattle.authority_walk.proofs.Progressing.{reader_is, done_inside}
use Rattle.authority_walk.proofs.Standing.{lists}
use Rattle.authority_walk.proofs.validation.Validation.finish.Goals as goal

pub returns-clause-gives : goal.returns-clause-gives
returns-clause-gives g c =
    let is : c.is_done-is_done.result ≡ true = search rules in
    let walk = c.self.inside.walk in
    let h = g.R.Reader.hierarchy (g.R.Reader.files c.self.inside.reader) in
    let done = c.is_done-is_done.ensures.0 is in
    let inside = done_inside _ _ c.self.view_is done in
    record {
      listed = subst (λ r. Lists (g.R.Reader.hierarchy (g.R.Reader.files r)) walk.vrps.items) (reader_is _ _ c.self.view_is) (lists g.R.Authority.Ord.cmp g.R.Reader.value h walk c.self.invariant.0 inside.0 inside.1);
      deeper = (λ t. (c.has_deeper-has_deeper.ensures.0 t).1, λ k. c.has_deeper-has_deeper.ensures.1 (done, k));
    }
