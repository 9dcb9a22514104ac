use Rattle.std.proofs.Common.{[]}
use Rattle.std.specs.Prelude.{Result, Ok, Err, Option, IfOk}
use Rattle.std.specs.declared.alloc.AllocError.{AllocError}
use Rattle.payloads.specs.declared.fault.ValueFault.{ValueFault}
use Rattle.payloads.specs.Faults.{kind_number}
use Rattle.payloads.specs.Manifest.{ManifestValue}
use Rattle.payloads.specs.RoaRefusal.{Finds}
use Rattle.payloads.specs.ManifestRefusal.{files_refusal, manifest_refusal}
use Rattle.payloads.proofs.ManifestRefusals.{first_of_value, first_of_files}
use Rattle.payloads.proofs.manifest.fault.Goals as goal

pub returns-in-Some : goal.returns-in-Some
returns-in-Some c = first_of_value _ (kind_number c.in-Some.kind) (c.in-Some.ensures c.args.files.now)

pub returns : goal.returns
returns c = by c.files_fault.result c.files_fault.ensures
  where
    value : ManifestValue
    value = record { number = c.args.number.now; this_update = c.args.this_update.now; next_update = c.args.next_update.now; files = c.args.files.now }

    by : (r : Result (Option ValueFault) AllocError) → IfOk r (λ found. Finds found (files_refusal [] c.args.files.now)) → IfOk r (λ found. Finds found (manifest_refusal value))
    by (Ok found) h = first_of_files value found (c.in_default.ensures c.args.files.now) h
    by (Err e) h = tt
