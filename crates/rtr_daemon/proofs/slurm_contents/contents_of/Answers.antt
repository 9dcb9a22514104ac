use Rattle.std.proofs.Common.{◌≡◌, ◌+◌, ◌<◌, ◌∙◌, suc, arith, subst, sym, ap, take, length, get_or}
use Rattle.std.proofs.lemmas.List.{get_or-map, length-map}
use Rattle.std.specs.Prelude.{◌++◌, ◌∷◌, []}
use Rattle.rtr_daemon.specs.Files.{AreContents, path_of, paths_of, texts_of}
use Rattle.rtr_daemon.proofs.ContentLaws.{contents_more}
use Rattle.rtr_daemon.proofs.slurm_contents.contents_of.Goals as goal

pub loop-file-preserved : goal.loop-file-preserved
loop-file-preserved g c =
    let read = c.in-Ok.ensures.reads in
    let i = c.loop-file.file-index in
    let files = c.args.slurms.now in
    let file = c.file-item.result in
    let next : suc i ≡ i + 1 = omega arith in
    let less : i < length (paths_of files) = subst (λ n. i < n) (sym (length-map files path_of)) c.loop-file-test.true in
    let at : path_of file ≡ get_or (paths_of files) i (path_of file) = ap path_of c.file-item.is ∙ sym (get_or-map path_of files i file (path_of file) c.loop-file-test.true) in
    let before = c.loop-file.contents in
    let after = c.add_content-added.new.contents in
    subst (λ n. AreContents g.W.Disk.answers (take n (paths_of files)) after.stamps.items (texts_of after)) next
    (subst (λ all. AreContents g.W.Disk.answers (take (suc i) (paths_of files)) all (texts_of after)) (sym read.3)
    (subst (AreContents g.W.Disk.answers (take (suc i) (paths_of files)) (before.stamps.items ++ read.0 ∷ [])) (sym read.4)
    (contents_more g.W.Disk.answers (paths_of files) i (path_of file) before.stamps.items (texts_of before) read.0 read.1 less at c.loop-file.invariant read.2)))

pub returns-in-Err-clause-fails : goal.returns-in-Err-clause-fails
returns-in-Err-clause-fails g c =
    let i = c.loop-file.file-index in
    let files = c.args.slurms.now in
    let file = c.file-item.result in
    let less : i < length (paths_of files) = subst (λ n. i < n) (sym (length-map files path_of)) c.loop-file-test.true in
    let at : path_of file ≡ get_or (paths_of files) i (path_of file) = ap path_of c.file-item.is ∙ sym (get_or-map path_of files i file (path_of file) c.loop-file-test.true) in
    (path_of file, (i, less, sym at), c.in-Err.ensures.fails)
