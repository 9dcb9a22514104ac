-- A fault in words, without the values in the file
use Rattle.std.specs.Prelude.{ℕ, List, [], ◌++◌, codes}
use Rattle.std.specs.Fmt.{decimal}
use Rattle.slurm.specs.Faults.{slurm_fault_number}
use Rattle.slurm.specs.declared.fault.SlurmArray.{SlurmArray}
use Rattle.slurm.specs.declared.fault.SlurmArray.TheVariants.{PrefixFilters, BgpsecFilters, PrefixAssertions, BgpsecAssertions}
use Rattle.slurm.specs.declared.fault.SlurmFault.{SlurmFault}
use Rattle.slurm.specs.declared.fault.SlurmFault.TheVariants.{NotJson, Members, Version, NoArray, Entry, TooMany, Memory, Repeated}
use Rattle.slurm.specs.declared.fault.SlurmObject.{SlurmObject}
use Rattle.slurm.specs.declared.fault.SlurmObject.TheVariants.{File, Filters, Assertions}

abbrev pub array_key : SlurmArray → List ℕ
array_key PrefixFilters = codes "prefixFilters"
array_key BgpsecFilters = codes "bgpsecFilters"
array_key PrefixAssertions = codes "prefixAssertions"
array_key BgpsecAssertions = codes "bgpsecAssertions"

abbrev pub object_name : SlurmObject → List ℕ
object_name File = codes "the file"
object_name Filters = codes "validationOutputFilters"
object_name Assertions = codes "locallyAddedAssertions"

abbrev pub place : SlurmFault → List ℕ
place NotJson = []
place (Members o) = object_name o ++ codes " "
place Version = codes "slurmVersion "
place (NoArray a) = array_key a ++ codes " "
place (Entry a i e) = array_key a ++ codes "[" ++ decimal i ++ codes "]: "
place TooMany = []
place Memory = []
place Repeated = []

abbrev pub number_text : SlurmFault → List ℕ
number_text f = codes " (fault " ++ decimal (slurm_fault_number f) ++ codes ")"

-- ---- the values in the file

-- The file's two objects have these arrays.
abbrev pub object_of : SlurmArray → SlurmObject
object_of PrefixFilters = Filters
object_of BgpsecFilters = Filters
object_of PrefixAssertions = Assertions
object_of BgpsecAssertions = Assertions
