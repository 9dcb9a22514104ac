-- What a line that keeps its calls and their answers says of them.
use Rattle.std.specs.Prelude.{Bool, true, false, List, reverse, Option, Some, None}
use Rattle.rtr_server.specs.declared.stream.Call.{Call}

-- The calls and their answers, the last first, if all could be kept
abbrev pub told : Bool → List Call → Option (List Call)
told true answers = None
told false answers = Some (reverse answers)
