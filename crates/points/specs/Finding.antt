-- What private functions over the files that are supplied do.
use Rattle.std.specs.Borrow.{Bor}
use Rattle.std.specs.Prelude.{◌≡◌, ℕ, List, [], Some, None, Result, Ok, Err, IfSome}
use Rattle.std.specs.Option.{option_map}
use Rattle.std.specs.Ordering.{nat_cmp}
use Rattle.std.specs.Cmp.Lexicographic.{slice_cmp}
use Rattle.std.specs.BTreeMap.{BTreeMap, get_by}
use Rattle.points.specs.declared.file.FileIn.{FileIn}
use Rattle.points.specs.declared.fault.PointFault.{PointFault}
use Rattle.points.specs.Files.{file_named}
use Rattle.points.specs.Offers.{first_that_holds, twice_tests}
use Rattle.points.specs.Answers.{told_by_fault}

-- By each name the map finds the first of these files that has it.
abbrev pub AreFiles : BTreeMap (Bor (List ℕ)) (Bor FileIn) → List FileIn → Type 0
AreFiles map files = (name : List ℕ) → option_map (λ f. f.now) (get_by (λ k. slice_cmp nat_cmp name k.now) map) ≡ file_named name files

-- The map has these files, no two of one name; or the first that has the name of an earlier one is reported; or memory ran out.
abbrev pub Indexes : {M : Type 0} → (M → BTreeMap (Bor (List ℕ)) (Bor FileIn)) → Result M PointFault → List FileIn → Type 0
Indexes map (Ok found) files = AreFiles (map found) files × (first_that_holds (twice_tests 0 [] files) ≡ None)
Indexes map (Err fault) files = IfSome (told_by_fault fault) (λ judgement. first_that_holds (twice_tests 0 [] files) ≡ Some judgement)
