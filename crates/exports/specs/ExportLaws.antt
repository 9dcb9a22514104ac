-- What bytes are at a moment is one thing.
use Rattle.std.specs.Prelude.{◌≡◌, ◌↔◌, ℕ, ◌^◌, ◌<◌, ◌≤◌, List}
use Rattle.vrps.specs.VrpSet.{listing, set_of}
use Rattle.exports.specs.Export.{HasFault, IsExport}
use Rattle.exports.specs.Lasting.{IsExportLasting, counting}
use Rattle.exports.specs.Until.{IsBefore, IsExportUntil}
use Rattle.exports.specs.declared.export.Export.{Export}
use Rattle.exports.specs.declared.export.ExportLasting.{ExportLasting}
use Rattle.exports.specs.declared.export.TimedExport.{TimedExport}
use Rattle.exports.specs.declared.fault.ExportFault.{ExportFault}
use Rattle.exports.specs.declared.fault.ExportFault.TheVariants.{Memory}

-- An export is one.
abbrev pub OneExport : Type 0
OneExport = (bytes : List ℕ) (now : ℕ) (x y : Export) → IsExport bytes now x → IsExport bytes now y → x ≡ y

-- An export has no fault: nothing but running out of memory can keep it from being read.
abbrev pub NoFaultOfExports : Type 0
NoFaultOfExports = (bytes : List ℕ) (now : ℕ) (x : Export) (fault : ExportFault) → IsExport bytes now x → HasFault bytes now fault → fault ≡ Memory

-- A fault other than out of memory is one.
abbrev pub OneFault : Type 0
OneFault =
    (bytes : List ℕ) (now : ℕ) (f g : ExportFault) → HasFault bytes now f → HasFault bytes now g → ¬ (f ≡ Memory) → ¬ (g ≡ Memory) → f ≡ g

-- Bytes are the same export just until its end.
abbrev pub SameUntil : Type 0
SameUntil = (bytes : List ℕ) (now : ℕ) (x : TimedExport) → IsExportUntil bytes now x → (t : ℕ) → now ≤ t → (IsExport bytes t x.export ↔ IsBefore t x.until)

-- At a later second bytes are an export, and its set is what counts then, by the last seconds, of an earlier one's.
abbrev pub LaterExports : Type 0
LaterExports =
    (bytes : List ℕ) (now : ℕ) (x : ExportLasting) → IsExportLasting bytes now x → (t : ℕ) → now ≤ t → t < 2 ^ 64
    → ((y : Export) × IsExport bytes t y) × ((y : Export) → IsExport bytes t y → y.set ≡ set_of (counting t (listing x.export.set) x.lasts.items))
