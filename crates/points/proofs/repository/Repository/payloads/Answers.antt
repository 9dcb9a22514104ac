use Rattle.std.proofs.Common.{◌↔◌, List, subst, sym}
use Rattle.std.specs.List.{Contains}
use Rattle.prefixes.specs.Payload.{Payload}
use Rattle.points.specs.InUse.{Points, Payloads}
use Rattle.points.proofs.Using.{listed_used, used_listed}
use Rattle.points.proofs.repository.Repository.payloads.Goals as goal

pub returns : goal.returns
returns c =
    let m = c.self.inside.points in
    let now = c.args.now in
    record {
      ascending = c.ascending.ensures.ascending;
      those = λ vrp.
          let same = subst (λ (vs : List Payload). Contains c.ascending.result.items vrp ↔ Contains vs vrp) c.in_ok-vrps.ensures.listed (c.ascending.ensures.same vrp) in (
            (λ h. subst (λ (s : Points). Payloads s now vrp) c.self.view_is (listed_used m c.in_ok-vrps.ensures.ordered now vrp (same.0 h))),
            (λ p. same.1 (used_listed m c.in_ok-vrps.ensures.ordered now vrp (subst (λ (s : Points). Payloads s now vrp) (sym c.self.view_is) p))),
          );
    }
