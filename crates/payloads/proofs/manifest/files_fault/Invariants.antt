use Rattle.std.proofs.Common.{◌≡◌, [], drop, take}
use Rattle.payloads.specs.ManifestNames.{AreNames}
use Rattle.payloads.specs.ManifestRefusal.{files_refusal}
use Rattle.payloads.proofs.manifest.files_fault.Given as goal

-- the names are those of the files in front, with which nothing is wrong: what is wrong is the fault of the files that are left
abbrev pub invariant-loop-index : goal.invariant-loop-index
invariant-loop-index l =
    AreNames l.names.set (take l.index l.files) × (files_refusal [] l.files ≡ files_refusal (take l.index l.files) (drop l.index l.files))
