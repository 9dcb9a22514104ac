-- A fault in words, without the values in the file
use Rattle.std.specs.Prelude.{ℕ, List, [], ◌++◌, codes}
use Rattle.std.specs.Fmt.{decimal}
use Rattle.exports.specs.Faults.{export_fault_number}
use Rattle.exports.specs.declared.fault.ExportFault.{ExportFault}
use Rattle.exports.specs.declared.fault.ExportFault.TheVariants.{NotJson, NoRoas, Entry, TooMany, Memory, Repeated}

abbrev pub place : ExportFault → List ℕ
place NotJson = []
place NoRoas = codes "neither a payload list nor an object with an array roas: "
place (Entry i w) = codes "entry " ++ decimal i ++ codes " of roas: "
place TooMany = []
place Memory = []
place Repeated = []

abbrev pub number_text : ExportFault → List ℕ
number_text f = codes " (fault " ++ decimal (export_fault_number f) ++ codes ")"
