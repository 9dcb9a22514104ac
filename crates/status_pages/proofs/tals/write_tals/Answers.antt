use Rattle.std.proofs.Common.{◌∙◌, ◌++◌, List, [], ◌∷◌, ℕ, take, ap, subst, sym}
use Rattle.std.proofs.KnownBytes.{Appends-trans}
use Rattle.std.proofs.lemmas.List.{take_more}
use Rattle.std.specs.Io.KnownBytes.{Appends}
use Rattle.status_pages.proofs.TalTexts.{one_more}
use Rattle.status_pages.specs.ApiStatus.{source_tals, tals_after}
use Rattle.status_pages.proofs.tals.write_tals.Goals as goal

pub loop-index-preserved : goal.loop-index-preserved
loop-index-preserved g c =
    let x = g.W.Write.contents c.args.out.now in
    let y = g.W.Write.contents c.loop-index.out in
    let z = g.W.Write.contents c.write_source.new.out in
    let files = c.args.files.now in
    let i = c.loop-index.index in
    let f = c.index-files-index.result in
    let before = take i files in
    subst (λ (t : List ℕ). Appends x z t)
    (sym (ap (tals_after files []) (take_more files i f c.loop-index-test.true ∙ ap (λ g. before ++ g ∷ []) (sym c.index-files-index.is)) ∙ one_more files [] before f))
    (Appends-trans x y z (tals_after files [] before) (source_tals files before f) c.loop-index.invariant c.in_ok-write_source.ensures)
