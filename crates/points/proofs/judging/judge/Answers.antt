use Rattle.std.proofs.Common.{List, sym, subst, option_copied}
use Rattle.std.specs.List.{AllZip}
use Rattle.std.proofs.lemmas.Result.{err_from_is_err_and}
use Rattle.payloads.specs.Manifest.{ListedFile}
use Rattle.points.specs.Accepted.{IsRoaOf, listed_roas}
use Rattle.points.specs.Offers.{New, Same}
use Rattle.points.specs.OfferSteps.{FromFile, Tells}
use Rattle.points.proofs.Deciding.{unspelled, by_told, by_manifest, by_twice, by_file, by_files}
use Rattle.points.proofs.judging.judge.Goals as goal

pub returns-in_err-manifest-clause-value : goal.returns-in_err-manifest-clause-value
returns-in_err-manifest-clause-value c =
    let p = err_from_is_err_and c.from_residual.result c.from_residual.ensures.1 in
    rw (p.1, p.2) (unspelled (option_copied c.args.before) c.args.bytes.now c.args.files.now c.args.now.now c.in_err-manifest.field-0.0 c.in_err-manifest.ensures)

pub returns-in_err-is_accepted-clause-value : goal.returns-in_err-is_accepted-clause-value
returns-in_err-is_accepted-clause-value c =
    let p = err_from_is_err_and c.from_residual-in_err-is_accepted.result c.from_residual-in_err-is_accepted.ensures.1 in
    rw (p.1, p.2) (by_told (option_copied c.args.before) c.in_ok-manifest.manifest c.args.bytes.now c.args.files.now c.args.now.now c.in_ok-manifest.ensures c.in_err-is_accepted.field-0.0 c.in_err-is_accepted.ensures)

pub returns-then-branch-clause-value : goal.returns-then-branch-clause-value
returns-then-branch-clause-value c =
    by_manifest (option_copied c.args.before) c.in_ok-manifest.manifest c.args.bytes.now c.args.files.now c.args.now.now c.in_ok-manifest.ensures Same
    (rw c.if-branch.true at (sym c.in_ok-is_accepted.ensures))

pub returns-in_err-found-clause-value : goal.returns-in_err-found-clause-value
returns-in_err-found-clause-value c =
    let p = err_from_is_err_and c.from_residual-in_err-found.result c.from_residual-in_err-found.ensures.1 in
    rw (p.1, p.2) (by_twice (option_copied c.args.before) c.in_ok-manifest.manifest c.args.bytes.now c.args.files.now c.args.now.now c.in_ok-manifest.ensures
    (rw c.if-branch.false at (sym c.in_ok-is_accepted.ensures)) c.in_err-found.field-0.0 c.in_err-found.ensures)

pub returns-in_err-roas-clause-value : goal.returns-in_err-roas-clause-value
returns-in_err-roas-clause-value c =
    let p = err_from_is_err_and c.from_residual-in_err-roas.result c.from_residual-in_err-roas.ensures.1 in
    let m = c.in_ok-manifest.manifest in
    let told : Tells c.in_err-roas.field-0.0 (FromFile 0 m.files c.args.files.now) =
    subst (λ (l : List ListedFile). Tells c.in_err-roas.field-0.0 (FromFile 0 l c.args.files.now)) c.files.ensures.value (c.in_err-roas.ensures c.args.files.now c.in_ok-found.ensures.0) in
    rw (p.1, p.2) (by_files (option_copied c.args.before) m c.args.bytes.now c.args.files.now c.args.now.now c.in_ok-manifest.ensures
    (rw c.if-branch.false at (sym c.in_ok-is_accepted.ensures)) c.in_ok-found.ensures.1 c.in_err-roas.field-0.0 told)

pub returns-clause-value : goal.returns-clause-value
returns-clause-value c =
    let m = c.in_ok-manifest.manifest in
    let files = c.args.files.now in
    let taken : FromFile 0 m.files files New × AllZip (IsRoaOf files) (listed_roas m.files) c.in_ok-roas.roas.items =
    subst (λ (l : List ListedFile). FromFile 0 l files New × AllZip (IsRoaOf files) (listed_roas l) c.in_ok-roas.roas.items) c.files.ensures.value (c.in_ok-roas.ensures files c.in_ok-found.ensures.0) in (
      by_file (option_copied c.args.before) m c.args.bytes.now files c.args.now.now c.in_ok-manifest.ensures
          (rw c.if-branch.false at (sym c.in_ok-is_accepted.ensures)) c.in_ok-found.ensures.1 New taken.0,
      record { bytes_are = c.in_ok-bytes.ensures.items; spelled = c.in_ok-manifest.ensures; roas_are = taken.1 },
    )
