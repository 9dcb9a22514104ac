use Rattle.std.proofs.Common.{◌∙◌, take, List, sym, subst, arith}
use Rattle.std.proofs.lemmas.List.{take_more}
use Rattle.points.specs.declared.file.FileIn.{FileIn}
use Rattle.points.specs.Finding.{AreFiles}
use Rattle.points.proofs.Maps.{told_here, told_later}
use Rattle.points.proofs.finding.FilesByName.over.Goals as goal

pub returns-then-branch : goal.returns-then-branch
returns-then-branch c =
    let files = c.args.files.now in
    let l = c.loop-index in
    let a = c.in_ok-add.ensures (take l.index files) l.invariant.found in
    l.invariant.later ∙ told_here files l.index _ (omega arith) (sym a.0 ∙ c.if-branch.true)

pub loop-index-preserved : goal.loop-index-preserved
loop-index-preserved c =
    let files = c.args.files.now in
    let l = c.loop-index in
    let a = c.in_ok-add.ensures (take l.index files) l.invariant.found in
    record {
      found = subst (λ (fs : List FileIn). AreFiles c.add.new.self.map fs) (sym (take_more files l.index _ (omega arith))) (a.1 c.if-branch.false);
      later = l.invariant.later ∙ told_later files l.index _ (omega arith) (sym a.0 ∙ c.if-branch.false);
    }
