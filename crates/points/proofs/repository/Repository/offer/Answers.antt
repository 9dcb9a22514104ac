use Rattle.std.proofs.Common.{◌≡◌, ◌∙◌, ℕ, List, Option, Ok, Some, subst, sym, ap, option_copied}
use Rattle.std.proofs.lemmas.Result.{err_from_is_err_and}
use Rattle.std.specs.Ordering.{nat_cmp}
use Rattle.std.specs.Cmp.Lexicographic.{slice_cmp}
use Rattle.std.specs.BTreeMap.{UpdatesBy}
use Rattle.std.specs.String.{string_bytes, string_cmp}
use Rattle.points.specs.Accepted.{Accepted, IsPoint}
use Rattle.points.specs.InUse.{Points, accepted_at, points_of}
use Rattle.points.specs.Offers.{Judged}
use Rattle.points.specs.OfferSteps.{TakesOffer, Tells}
use Rattle.points.proofs.Exactly.{acceptable, same_is_not, fault_is_not}
use Rattle.points.proofs.Repositories.{on_ok, was_at, at_name, at_other}
use Rattle.points.proofs.repository.Repository.offer.Goals as goal

pub returns-in_err-accepted-clause-judged : goal.returns-in_err-accepted-clause-judged
returns-in_err-accepted-clause-judged c =
    let p = err_from_is_err_and c.from_residual.result c.from_residual.ensures.1 in
    let before = was_at c.self.inside.points c.args.self.now c.args.name.now (option_copied c.get.result) c.get.ensures.value c.self.view_is in
    rw (p.1, p.2) (subst (λ (b : Option Accepted). Tells c.in_err-accepted.field-0.0 (Judged b c.args.manifest.now c.args.files.now c.args.now)) before c.in_err-accepted.ensures.value)

pub returns-in_err-accepted-clause-exact : goal.returns-in_err-accepted-clause-exact
returns-in_err-accepted-clause-exact c =
    let p = err_from_is_err_and c.from_residual.result c.from_residual.ensures.1 in
    let before = was_at c.self.inside.points c.args.self.now c.args.name.now (option_copied c.get.result) c.get.ensures.value c.self.view_is in
    let held = subst (λ (b : Option Accepted). IsPoint b) before c.in_err-accepted.ensures.point in
    rw (p.1, p.2) (fault_is_not (accepted_at c.args.self.now c.args.name.now) c.args.manifest.now c.args.files.now c.args.now held c.in_err-accepted.field-0.0
    (subst (λ (b : Option Accepted). Tells c.in_err-accepted.field-0.0 (Judged b c.args.manifest.now c.args.files.now c.args.now)) before c.in_err-accepted.ensures.value))

pub returns-else-is_err-clause-judged : goal.returns-else-is_err-clause-judged
returns-else-is_err-clause-judged c =
    let before = was_at c.self.inside.points c.args.self.now c.args.name.now (option_copied c.get.result) c.get.ensures.value c.self.view_is in
    let takes = subst (λ (b : Option Accepted). TakesOffer (Ok c.in_ok-accepted.field-0) b c.args.manifest.now c.args.files.now c.args.now) before c.in_ok-accepted.ensures.value in
    (subst (λ (r : Option Accepted). TakesOffer (Ok r) (accepted_at c.args.self.now c.args.name.now) c.args.manifest.now c.args.files.now c.args.now) c.in-Some.is takes).0

pub returns-else-is_err-clause-exact : goal.returns-else-is_err-clause-exact
returns-else-is_err-clause-exact c =
    let before = was_at c.self.inside.points c.args.self.now c.args.name.now (option_copied c.get.result) c.get.ensures.value c.self.view_is in
    let held = subst (λ (b : Option Accepted). IsPoint b) before c.in_ok-accepted.ensures.point in
    let takes = subst (λ (b : Option Accepted). TakesOffer (Ok c.in_ok-accepted.field-0) b c.args.manifest.now c.args.files.now c.args.now) before c.in_ok-accepted.ensures.value in
    acceptable (accepted_at c.args.self.now c.args.name.now) c.args.manifest.now c.args.files.now c.args.now held
    (subst (λ (r : Option Accepted). TakesOffer (Ok r) (accepted_at c.args.self.now c.args.name.now) c.args.manifest.now c.args.files.now c.args.now) c.in-Some.is takes).0

pub returns-else-is_err-clause-held : goal.returns-else-is_err-clause-held
returns-else-is_err-clause-held c =
    let old = c.self.inside.points in
    let new = c.insert.new.self in
    let name = string_bytes c.in_ok-name-in-Some.name in
    let last = c.in-Some.accepted in
    let named : name ≡ c.args.name.now = c.in_ok-name-in-Some.ensures.ok in
    let updates : UpdatesBy string_cmp (λ k. slice_cmp nat_cmp name (string_bytes k)) old new (Some last) =
    on_ok c.insert.result _ (sym c.if-is_err.ensures.value) c.insert.ensures.updates in
    let holds = (subst (λ (r : Option Accepted). TakesOffer (Ok r) (option_copied c.get.result) c.args.manifest.now c.args.files.now c.args.now) c.in-Some.is c.in_ok-accepted.ensures.value).1 in (
      (last, subst (λ (n : List ℕ). accepted_at (points_of new.entries) n ≡ Some last) named (at_name old new name last updates), holds),
      λ other differs. at_other old new name last updates other (λ e. differs (e ∙ named)) ∙ ap (λ (s : Points). accepted_at s other) c.self.view_is,
    )

pub returns-in-None-clause-judged : goal.returns-in-None-clause-judged
returns-in-None-clause-judged c =
    let before = was_at c.self.inside.points c.args.self.now c.args.name.now (option_copied c.get.result) c.get.ensures.value c.self.view_is in
    let takes = subst (λ (b : Option Accepted). TakesOffer (Ok c.in_ok-accepted.field-0) b c.args.manifest.now c.args.files.now c.args.now) before c.in_ok-accepted.ensures.value in
    subst (λ (r : Option Accepted). TakesOffer (Ok r) (accepted_at c.args.self.now c.args.name.now) c.args.manifest.now c.args.files.now c.args.now) c.in-None.is takes

pub returns-in-None-clause-exact : goal.returns-in-None-clause-exact
returns-in-None-clause-exact c =
    let before = was_at c.self.inside.points c.args.self.now c.args.name.now (option_copied c.get.result) c.get.ensures.value c.self.view_is in
    let held = subst (λ (b : Option Accepted). IsPoint b) before c.in_ok-accepted.ensures.point in
    let takes = subst (λ (b : Option Accepted). TakesOffer (Ok c.in_ok-accepted.field-0) b c.args.manifest.now c.args.files.now c.args.now) before c.in_ok-accepted.ensures.value in
    same_is_not (accepted_at c.args.self.now c.args.name.now) c.args.manifest.now c.args.files.now c.args.now held
    (subst (λ (r : Option Accepted). TakesOffer (Ok r) (accepted_at c.args.self.now c.args.name.now) c.args.manifest.now c.args.files.now c.args.now) c.in-None.is takes)
