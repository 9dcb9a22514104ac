use Rattle.std.proofs.Common.{◌≡◌, true, sym, subst, rules}
use Rattle.authority_walk.specs.Hierarchy.{Lists}
use Rattle.authority_walk.proofs.Progressing.{reader_is, done_inside}
use Rattle.authority_walk.proofs.Standing.{lists}
use Rattle.authority_walk.proofs.validation.Validation.vrps.Goals as goal

pub returns-clause-vrps : goal.returns-clause-vrps
returns-clause-vrps g c =
    let is : c.is_done.result ≡ true = search rules in
    let walk = c.self.inside.walk in
    let h = g.R.Reader.hierarchy (g.R.Reader.files c.self.inside.reader) in
    let done = done_inside _ _ c.self.view_is (c.is_done.ensures.0 is) in
    subst (λ r. Lists (g.R.Reader.hierarchy (g.R.Reader.files r)) c.deref.result.now) (reader_is _ _ c.self.view_is)
    (subst (λ vs. Lists h vs) (sym c.deref.ensures.value) (lists g.R.Authority.Ord.cmp g.R.Reader.value h walk c.self.invariant.0 done.0 done.1))
