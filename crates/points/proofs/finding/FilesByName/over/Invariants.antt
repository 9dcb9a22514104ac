use Rattle.std.proofs.Common.{◌≡◌, [], take, drop}
use Rattle.points.specs.Offers.{first_that_holds, twice_tests}
use Rattle.points.specs.Finding.{AreFiles}
use Rattle.points.proofs.finding.FilesByName.over.Given as goal

-- the files so far are found, and none of them decides
abbrev pub invariant-loop-index : goal.invariant-loop-index
invariant-loop-index l = record {
  found : AreFiles l.found.map (take l.index l.files);
  later : first_that_holds (twice_tests 0 [] l.files) ≡ first_that_holds (twice_tests l.index (take l.index l.files) (drop l.index l.files));
}
