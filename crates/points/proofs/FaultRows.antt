-- The numbers of faults, worked out.
use Rattle.std.specs.Prelude.{◌≡◌, ℕ, refl}
use Rattle.payloads.specs.declared.fault.GrammarFault.{GrammarFault}
use Rattle.points.specs.Answers.{point_fault_number}
use Rattle.points.specs.declared.fault.PointFault.TheVariants as faults

numbers : (i : ℕ) (fault : GrammarFault) → (point_fault_number (faults.Manifest fault) ≡ 1) × (point_fault_number faults.NotYet ≡ 2) × (point_fault_number faults.Stale ≡ 3)
    × (point_fault_number faults.OldNumber ≡ 4) × (point_fault_number faults.OldTime ≡ 5) × (point_fault_number (faults.FileTwice i) ≡ 6) × (point_fault_number (faults.Missing i) ≡ 7)
    × (point_fault_number (faults.HashDiffers i) ≡ 8) × (point_fault_number (faults.Roa i fault) ≡ 9) × (point_fault_number faults.Memory ≡ 10)
numbers i fault = (refl, refl, refl, refl, refl, refl, refl, refl, refl, refl)
