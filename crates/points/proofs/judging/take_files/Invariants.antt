use Rattle.std.proofs.Common.{List, take, drop}
use Rattle.std.specs.List.{AllZip}
use Rattle.points.specs.OfferSteps.{FromFile}
use Rattle.points.specs.declared.file.FileIn.{FileIn}
use Rattle.points.specs.Accepted.{IsRoaOf, listed_roas}
use Rattle.points.specs.Finding.{AreFiles}
use Rattle.points.specs.Offers.{OfferJudgement}
use Rattle.points.proofs.judging.take_files.Given as goal

-- nothing is wrong with the files so far, and these are their ROAs
abbrev pub invariant-loop-index : goal.invariant-loop-index
invariant-loop-index l = record {
  later : (files : List FileIn) → AreFiles l.found.map files → (judgement : OfferJudgement) → FromFile l.index (drop l.index l.listed) files judgement → FromFile 0 l.listed files judgement;
  roas : (files : List FileIn) → AreFiles l.found.map files → AllZip (IsRoaOf files) (listed_roas (take l.index l.listed)) l.roas.items;
}
