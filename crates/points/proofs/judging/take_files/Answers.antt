use Rattle.std.proofs.Common.{◌+◌, ◌∷◌, List, drop, arith, take, subst, sym}
use Rattle.std.specs.List.{AllZip}
use Rattle.std.proofs.lemmas.Result.{err_from_is_err_and}
use Rattle.payloads.specs.Manifest.{ListedFile}
use Rattle.payloads.specs.RoaValues.{RoaValue}
use Rattle.points.specs.OfferSteps.{FromFile}
use Rattle.points.specs.Accepted.{IsRoaOf, listed_roas}
use Rattle.points.proofs.Taking.{tells, from_here, from_next, one_more}
use Rattle.points.proofs.judging.take_files.Goals as goal

pub returns-in_err-roa : goal.returns-in_err-roa
returns-in_err-roa c = λ files are.
    let p = err_from_is_err_and c.from_residual.result c.from_residual.ensures.1 in
    let listed = c.args.listed.now in
    let l = c.loop-index in
    let item = c.index-listed-index.result in
    rw (p.1, p.2) (tells c.in_err-roa.field-0.0 (λ j. (others : List ListedFile) → FromFile l.index (item ∷ others) files j) (FromFile 0 listed files)
    (λ j h. l.invariant.later files are j (from_here listed l.index item c.index-listed-index.is (omega arith) files j (h (drop (l.index + 1) listed)))) (c.in_err-roa.ensures files are))

pub loop-index-preserved : goal.loop-index-preserved
loop-index-preserved c =
    let listed = c.args.listed.now in
    let l = c.loop-index in
    let item = c.index-listed-index.result in
    record {
      later = λ files are j h. l.invariant.later files are j (from_next listed l.index item c.index-listed-index.is (omega arith) files j (c.in_ok-roa.ensures files are).0 h);
      roas = λ files are.
          subst (λ (rs : List RoaValue). AllZip (IsRoaOf files) (listed_roas (take (l.index + 1) listed)) rs) (sym c.in_ok-add.ensures)
          (one_more listed l.index item c.index-listed-index.is (omega arith) files l.roas.items c.in_ok-roa.roa (c.in_ok-roa.ensures files are).1 (l.invariant.roas files are));
    }
