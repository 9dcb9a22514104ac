-- The laws of the grammar of a manifest.
use Rattle.std.proofs.Common.{ℕ, List, [], ◌++◌, Result, sym, ap, ◌∙◌, inl, inr}
use Rattle.std.proofs.lemmas.List.{append-nil}
use Rattle.der_lite.specs.Place.{Place, Fault, place_of}
use Rattle.der_lite.specs.Fields.{last_at}
use Rattle.der_lite.proofs.GrammarLaws as laws
use Rattle.payloads.specs.Manifest.{ManifestValue, manifest, manifest_payload, ManifestSpells, ManifestFaultAt}
use Rattle.payloads.specs.ManifestReading.{manifest_at}
use Rattle.payloads.specs.PayloadLaws.{OneFaultOf, OneSpellingOf}
use Rattle.payloads.proofs.Manifests.{exact_payload, exact_manifest}
use Rattle.payloads.proofs.ManifestOnce.{once_manifest}
use Rattle.payloads.proofs.RoaLaws.{at_offset}

-- reading the whole payload
abbrev read_manifest : Place → Result ManifestValue Fault
read_manifest = last_at manifest_at

pub manifest_faults : OneFaultOf ManifestSpells ManifestFaultAt
unfolding ManifestSpells ManifestFaultAt
manifest_faults = (
  (λ bytes offset other number second f g.
      let same = laws.one_fault manifest_payload read_manifest exact_payload (place_of 0 bytes) (at_offset offset number) (at_offset other second) f g in
      (ap (λ (d : Fault). d.offset) same, ap (λ (d : Fault). d.number) same)),
  (λ bytes offset number v f s. laws.apart manifest_payload read_manifest exact_payload (place_of 0 bytes) v (at_offset offset number) s f),
  (λ bytes are. elim (laws.either manifest_payload read_manifest exact_payload (place_of 0 bytes) are) [
    | inl s ↦ inl s
    | inr f ↦ inr (f.0.offset, f.0.number, f.1)
  ]),
)

pub manifest_spellings : OneSpellingOf ManifestSpells
unfolding ManifestSpells manifest_payload
manifest_spellings = (
  (λ v a b ba bb s t. once_manifest v a b ba bb s t),
  (λ bytes v w s t. laws.one_value manifest_payload read_manifest exact_payload (place_of 0 bytes) v w s t),
  (λ a b more v w s t h.
      let e = laws.one_front manifest manifest_at exact_manifest v w a b more [] s t (h ∙ sym (append-nil b)) in
      sym (append-nil a) ∙ ap (λ (l : List ℕ). a ++ l) (sym e.1) ∙ h),
)
