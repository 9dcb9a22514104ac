use Rattle.std.proofs.Common.{◌≡◌, subst, arith}
use Rattle.authority_walk.specs.Stands.{Stands}
use Rattle.authority_walk.proofs.Standing.{lists, deeper}
use Rattle.authority_walk.proofs.validation.validate.Goals as goal

pub returns-clause-gives : goal.returns-clause-gives
returns-clause-gives g c =
    let cmp = g.R.Authority.Ord.cmp in
    let value = g.R.Reader.value in
    let walk = c.visit_all-2.new.walk in
    let h = g.R.Reader.hierarchy (g.R.Reader.files c.args.reader.now) in
    let right : Stands cmp value h walk = subst (λ files. Stands cmp value (g.R.Reader.hierarchy files) walk) c.loop-depth.invariant.2 c.visit_all-2.ensures.right in
    let deep : walk.depth ≡ 32 = omega (arith, c.visit_all-2.ensures.depth, c.loop-depth.invariant.1) in
    let exact = deeper cmp value h walk right deep c.in_ok-visit_all-2.ensures.none in
    record {
      listed = lists cmp value h walk right deep c.in_ok-visit_all-2.ensures.none;
      deeper = (λ t. exact.0 (c.has_unvisited-has_deeper.ensures.0 t), λ k. c.has_unvisited-has_deeper.ensures.1 (exact.1 k));
    }
