use Rattle.std.proofs.Common.{sym, subst}
use Rattle.authority_walk.specs.Hierarchy.{HasDeeper}
use Rattle.authority_walk.proofs.Progressing.{reader_is, done_inside}
use Rattle.authority_walk.proofs.Standing.{deeper}
use Rattle.authority_walk.proofs.validation.Validation.has_deeper.Goals as goal

pub returns-then-is_done : goal.returns-then-is_done
returns-then-is_done g c =
    let done = c.is_done.ensures.0 c.if-is_done.true in
    let inside = done_inside _ _ c.self.view_is done in
    let e = reader_is _ _ c.self.view_is in
    let exact = deeper g.R.Authority.Ord.cmp g.R.Reader.value (g.R.Reader.hierarchy (g.R.Reader.files c.self.inside.reader)) c.self.inside.walk c.self.invariant.0 inside.0 inside.1 in (
      λ t. (done, subst (λ r. HasDeeper (g.R.Reader.hierarchy (g.R.Reader.files r))) e (exact.0 (c.has_unvisited.ensures.0 t))),
      λ p. c.has_unvisited.ensures.1 (exact.1 (subst (λ r. HasDeeper (g.R.Reader.hierarchy (g.R.Reader.files r))) (sym e) p.1)),
    )
