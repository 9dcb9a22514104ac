-- What the program prints of an offer.
use Rattle.std.specs.Prelude.{ℕ, List, ◌++◌, codes, Option, Some, None, Result, Ok, Err}
use Rattle.std.specs.Fmt.{decimal}
use Rattle.points.specs.declared.fault.Offered.{Offered}
use Rattle.points.specs.declared.fault.Offered.TheVariants.{New, Same}
use Rattle.points.specs.declared.fault.PointFault.{PointFault}
use Rattle.points.specs.Answers.{point_fault_number, fault_index}

-- the number of a fault, and the index of the file that it means
abbrev pub refusal_text : ℕ → Option ℕ → List ℕ
refusal_text number None = codes " refused " ++ decimal number ++ codes "\n"
refusal_text number (Some index) = codes " refused " ++ decimal number ++ codes " " ++ decimal index ++ codes "\n"

-- the name of the point, and what became of the offer
abbrev pub offer_line : List ℕ → Result Offered PointFault → List ℕ
offer_line name (Ok New) = name ++ codes " new\n"
offer_line name (Ok Same) = name ++ codes " same\n"
offer_line name (Err fault) = name ++ refusal_text (point_fault_number fault) (fault_index fault)
