use Rattle.std.proofs.Common.{◌++◌, ◌∷◌, [], map, option_map, ap, subst, sym, ◌∙◌}
use Rattle.std.proofs.lemmas.List.{map-append}
use Rattle.exports.specs.PlainForm.{FailsIn, IsJudged, TellsListed}
use Rattle.exports.specs.Anchors.{anchor_of, short}
use Rattle.exports.specs.Numbering.{Anchors}
use Rattle.exports.proofs.Anchoring.{anchors_more, as_many}
use Rattle.exports.proofs.Items.{gather_more}
use Rattle.exports.proofs.PlainParts.{are_more, fails_last, fails_more}
use Rattle.exports.proofs.streaming.with_entry.Goals as goal

pub returns-in-Broken : goal.returns-in-Broken
returns-in-Broken c ds d long told is = fails_more ds d c.in-Broken.first c.in-Broken.what (subst (λ x. TellsListed c.args.now ds x) c.in-Broken.is told)

pub returns-in-Err : goal.returns-in-Err
returns-in-Err c ds d long told is =
    let so_far = subst (λ x. TellsListed c.args.now ds x) c.in-Whole.is told in
    subst (λ n. FailsIn (ds ++ d ∷ []) n c.in-Err.what) long (fails_last ds so_far.0 d c.in-Err.what so_far.1 (subst (λ r. IsJudged d r) c.in-Err.is is.0))

pub returns : goal.returns
returns c ds d long told is =
    let so_far = subst (λ x. TellsListed c.args.now ds x) c.in-Whole.is told in
    let entry = subst (λ r. IsJudged d r) c.in-Ok.is is.0 in
    let name = short (option_map (λ s. s.now) c.args.entry.now.ta) in (
      so_far.0 ++ c.in-Ok.listed ∷ [],
      are_more ds so_far.0 d c.in-Ok.listed so_far.1 entry,
      gather_more c.args.now so_far.0 c.in-Ok.listed c.in-Whole.gathered c.add.new.self so_far.2 c.in_ok-add.ensures.records c.in_ok-add.ensures.lasts c.in_ok-add.ensures.expired c.in_ok-add.ensures.until,
      subst (λ names. Anchors c.args.now (so_far.0 ++ c.in-Ok.listed ∷ []) names c.add.new.self) (ap (λ o. map anchor_of ds ++ short o ∷ []) (sym is.1) ∙ sym (map-append anchor_of ds (d ∷ [])))
          (anchors_more c.args.now so_far.0 (map anchor_of ds) c.in-Ok.listed name c.in-Whole.gathered c.add.new.self (as_many ds so_far.0 so_far.1) so_far.3 c.in_ok-add.ensures.names c.in_ok-add.ensures.anchors),
    )
