use Rattle.std.proofs.Common.{◌∙◌, Option, Ok, subst}
use Rattle.std.proofs.lemmas.Result.{err_from_is_err_and}
use Rattle.points.specs.Accepted.{Accepted, IsPoint}
use Rattle.points.specs.Offers.{Judged}
use Rattle.points.specs.OfferSteps.{TakesOffer, Tells}
use Rattle.points.proofs.Exactly.{acceptable, same_is_not, fault_is_not}
use Rattle.points.proofs.point.Point.offer.Goals as goal

pub returns-in_err-accepted-clause-exact : goal.returns-in_err-accepted-clause-exact
returns-in_err-accepted-clause-exact c =
    let p = err_from_is_err_and c.from_residual.result c.from_residual.ensures.1 in
    let before = c.as_ref.ensures.value ∙ c.self.view_is in
    let held = subst (λ (b : Option Accepted). IsPoint b) before c.in_err-accepted.ensures.point in
    rw (p.1, p.2) (fault_is_not c.args.self.now c.args.manifest.now c.args.files.now c.args.now held c.in_err-accepted.field-0.0
    (subst (λ (b : Option Accepted). Tells c.in_err-accepted.field-0.0 (Judged b c.args.manifest.now c.args.files.now c.args.now)) before c.in_err-accepted.ensures.value))

pub returns-in-Some-clause-judged : goal.returns-in-Some-clause-judged
returns-in-Some-clause-judged c =
    let before = c.as_ref.ensures.value ∙ c.self.view_is in
    let takes = subst (λ (b : Option Accepted). TakesOffer (Ok c.in_ok-accepted.field-0) b c.args.manifest.now c.args.files.now c.args.now) before c.in_ok-accepted.ensures.value in
    (subst (λ (r : Option Accepted). TakesOffer (Ok r) c.args.self.now c.args.manifest.now c.args.files.now c.args.now) c.in-Some.is takes).0

pub returns-in-None-clause-judged : goal.returns-in-None-clause-judged
returns-in-None-clause-judged c =
    let before = c.as_ref.ensures.value ∙ c.self.view_is in
    let takes = subst (λ (b : Option Accepted). TakesOffer (Ok c.in_ok-accepted.field-0) b c.args.manifest.now c.args.files.now c.args.now) before c.in_ok-accepted.ensures.value in
    subst (λ (r : Option Accepted). TakesOffer (Ok r) c.args.self.now c.args.manifest.now c.args.files.now c.args.now) c.in-None.is takes

pub returns-in-Some-clause-exact : goal.returns-in-Some-clause-exact
returns-in-Some-clause-exact c =
    let before = c.as_ref.ensures.value ∙ c.self.view_is in
    let held = subst (λ (b : Option Accepted). IsPoint b) before c.in_ok-accepted.ensures.point in
    let takes = subst (λ (b : Option Accepted). TakesOffer (Ok c.in_ok-accepted.field-0) b c.args.manifest.now c.args.files.now c.args.now) before c.in_ok-accepted.ensures.value in
    acceptable c.args.self.now c.args.manifest.now c.args.files.now c.args.now held
    (subst (λ (r : Option Accepted). TakesOffer (Ok r) c.args.self.now c.args.manifest.now c.args.files.now c.args.now) c.in-Some.is takes).0

pub returns-in-None-clause-exact : goal.returns-in-None-clause-exact
returns-in-None-clause-exact c =
    let before = c.as_ref.ensures.value ∙ c.self.view_is in
    let held = subst (λ (b : Option Accepted). IsPoint b) before c.in_ok-accepted.ensures.point in
    let takes = subst (λ (b : Option Accepted). TakesOffer (Ok c.in_ok-accepted.field-0) b c.args.manifest.now c.args.files.now c.args.now) before c.in_ok-accepted.ensures.value in
    same_is_not c.args.self.now c.args.manifest.now c.args.files.now c.args.now held
    (subst (λ (r : Option Accepted). TakesOffer (Ok r) c.args.self.now c.args.manifest.now c.args.files.now c.args.now) c.in-None.is takes)
