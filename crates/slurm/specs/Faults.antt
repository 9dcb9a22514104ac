-- The numbers of faults.
use Rattle.std.specs.Prelude.{ℕ}
use Rattle.slurm.specs.declared.fault.SlurmFault.{SlurmFault}
use Rattle.slurm.specs.declared.fault.SlurmFault.TheVariants.{NotJson, Members, Version, NoArray, Entry, TooMany, Memory, Repeated}

abbrev pub slurm_fault_number : SlurmFault → ℕ
slurm_fault_number NotJson = 1
slurm_fault_number (Members o) = 2
slurm_fault_number Version = 3
slurm_fault_number (NoArray a) = 4
slurm_fault_number (Entry a i e) = 5
slurm_fault_number TooMany = 6
slurm_fault_number Memory = 7
slurm_fault_number Repeated = 8
