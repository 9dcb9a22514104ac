-- What is judged, in parts.
use Rattle.constraints.specs.declared.judging.Judged.{Judged}
use Rattle.constraints.specs.Judging.{Sets}

-- the ranges of each kind
abbrev pub sets_of : Judged → Sets
sets_of judged = record { v4 = judged.v4.now; v6 = judged.v6.now; numbers = judged.numbers.now }
