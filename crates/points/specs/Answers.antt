-- What an offer is answered.
use Rattle.std.specs.Prelude.{◌≡◌, ◌≢◌, ℕ, List, Option, Some, None, Result, Ok, Err, ⊤}
use Rattle.payloads.specs.Faults.{grammar_fault_of}
use Rattle.points.specs.Offers.{OfferJudgement, New, Same, BadManifest, NotYet, Stale, OldNumber, OldTime, FileTwice, Missing, HashDiffers, BadRoa}
use Rattle.points.specs.declared.file.FileIn.{FileIn}
use Rattle.points.specs.Accepted.{Accepted, Holds}
use Rattle.points.specs.InUse.{Points, accepted_at}
use Rattle.points.specs.declared.fault.Offered.{Offered}
use Rattle.points.specs.declared.fault.Offered.TheVariants as offered
use Rattle.points.specs.declared.fault.PointFault.{PointFault}
use Rattle.points.specs.declared.fault.PointFault.TheVariants as faults

-- the number of each fault
abbrev pub point_fault_number : PointFault → ℕ
point_fault_number (faults.Manifest fault) = 1
point_fault_number faults.NotYet = 2
point_fault_number faults.Stale = 3
point_fault_number faults.OldNumber = 4
point_fault_number faults.OldTime = 5
point_fault_number (faults.FileTwice i) = 6
point_fault_number (faults.Missing i) = 7
point_fault_number (faults.HashDiffers i) = 8
point_fault_number (faults.Roa i fault) = 9
point_fault_number faults.Memory = 10

-- the index of the file that is meant, if any
abbrev pub fault_index : PointFault → Option ℕ
fault_index (faults.FileTwice i) = Some i
fault_index (faults.Missing i) = Some i
fault_index (faults.HashDiffers i) = Some i
fault_index (faults.Roa i fault) = Some i
fault_index fault = None

-- the judgement that a fault reports; out of memory reports none
abbrev pub told_by_fault : PointFault → Option OfferJudgement
told_by_fault (faults.Manifest fault) = Some (BadManifest (grammar_fault_of fault))
told_by_fault faults.NotYet = Some NotYet
told_by_fault faults.Stale = Some Stale
told_by_fault faults.OldNumber = Some OldNumber
told_by_fault faults.OldTime = Some OldTime
told_by_fault (faults.FileTwice i) = Some (FileTwice i)
told_by_fault (faults.Missing i) = Some (Missing i)
told_by_fault (faults.HashDiffers i) = Some (HashDiffers i)
told_by_fault (faults.Roa i fault) = Some (BadRoa i (grammar_fault_of fault))
told_by_fault faults.Memory = None

-- the judgement that an answer reports
abbrev pub told_by : Result Offered PointFault → Option OfferJudgement
told_by (Ok offered.New) = Some New
told_by (Ok offered.Same) = Some Same
told_by (Err fault) = told_by_fault fault

-- Unless memory runs out, the answer is New exactly if this holds.
abbrev pub NewExactly : Result Offered PointFault → Type 0 → Type 0
NewExactly (Ok offered.New) Fact = Fact
NewExactly (Ok offered.Same) Fact = ¬ Fact
NewExactly (Err faults.Memory) Fact = ⊤
NewExactly (Err fault) Fact = ¬ Fact

-- After New the point holds what was offered; after all other answers it holds what it held.
abbrev pub Becomes : Result Offered PointFault → Option Accepted → Option Accepted → List ℕ → List FileIn → Type 0
Becomes (Ok offered.New) old new bytes files = (last : Accepted) × (new ≡ Some last) × Holds bytes files last
Becomes answer old new bytes files = new ≡ old

-- The same for the point of a name; what the points of other names hold never changes.
abbrev pub BecomesAt : Result Offered PointFault → List ℕ → Points → Points → List ℕ → List FileIn → Type 0
BecomesAt (Ok offered.New) name old new bytes files =
    ((last : Accepted) × (accepted_at new name ≡ Some last) × Holds bytes files last)
    × ((other : List ℕ) → other ≢ name → accepted_at new other ≡ accepted_at old other)
BecomesAt answer name old new bytes files = new ≡ old
