-- Manifests that are decoded for C (RFC 9286 section 4).
use Rattle.std.specs.Prelude.{◌≡◌, ◌⊎◌, ℕ, ◌≤◌, ℤ, List, length, slice_get, Option, Some, ⊤}
use Rattle.der_lite.specs.Seconds.{seconds_of}
use Rattle.payloads.specs.Faults.{kind_number}
use Rattle.payloads.specs.Manifest.{ListedFile, ManifestFaultAt, ManifestSpells, ManifestValue}
use Rattle.payloads.specs.declared.fault.PayloadFault.{PayloadFault}
use Rattle.payloads.specs.declared.fault.PayloadFault.TheVariants.{At, Memory}
use Rattle.rpkirtr_c.specs.Answers.{number}
use Rattle.rpkirtr_c.specs.Objects.{NewDecoded}
use Rattle.rpkirtr_c.specs.Octets.{IsFilled, no_digest}
use Rattle.rpkirtr_c.specs.declared.contents.Contents.{Contents}
use Rattle.rpkirtr_c.specs.declared.objects.CFault.{CFault}
use Rattle.rpkirtr_c.specs.declared.octets.CDigest.{CDigest}
use Rattle.rpkirtr_c.specs.declared.call_status.CallStatus.TheVariants.{Done, OutOfRange}

-- This is the manifest that the bytes spell.
abbrev pub IsContents : List ℕ → Contents → Type 0
IsContents bytes c = ManifestSpells c.manifest bytes

-- why there is no manifest: the bytes spell none, and this is their first fault; or memory ran out
abbrev pub IsManifestFault : List ℕ → PayloadFault → Type 0
IsManifestFault bytes (At fault) = ManifestFaultAt bytes fault.offset (kind_number fault.kind)
IsManifestFault bytes Memory = ⊤

-- A manifest is decoded in an empty handle, or it stays empty for a fault, which is written. A live handle stays as it is.
abbrev pub NewManifest : List ℕ → Option Contents → Option Contents → ℤ → CFault → Type 0
NewManifest bytes old new answer told = NewDecoded (IsContents bytes) (IsManifestFault bytes) old new answer told

-- when a manifest was made, and until when the next one is, in seconds after the beginning of 1970
abbrev pub AreTimes : ManifestValue → ℕ → ℕ → Type 0
AreTimes m this next = (this ≡ seconds_of m.this_update) × (next ≡ seconds_of m.next_update)

-- The file at an index is written: its name as far as it fits, how long the name is, and its digest. At or past the end there is none, and
-- the answer says so.
abbrev pub IsFileAt : List ListedFile → ℕ → ℤ → List ℕ → List ℕ → ℕ → CDigest → Type 0
IsFileAt files index answer old new len digest =
    ((file : ListedFile) × (slice_get files index ≡ Some file) × (answer ≡ number Done) × IsFilled file.name old new × (len ≡ length file.name) × (digest ≡ record { octets = file.hash }))
    ⊎ ((length files ≤ index) × (answer ≡ number OutOfRange) × (new ≡ old) × (len ≡ 0) × (digest ≡ no_digest))
