-- What holds of the grammars of payloads.
use Rattle.std.specs.Prelude.{◌≡◌, ◌↔◌, ℕ, ◌^◌, ◌<◌, ◌⊎◌, true, List, ◌++◌, length, None}
use Rattle.std.specs.List.{All, Contains}
use Rattle.der_lite.specs.Der.{IsBytes}
use Rattle.der_lite.specs.Moments.{is_moment}
use Rattle.prefixes.specs.Payload.{Payload}
use Rattle.payloads.specs.RoaEntries.{HasPrefix}
use Rattle.payloads.specs.Manifest.{ManifestValue, ManifestSpells, ManifestFaultAt}
use Rattle.payloads.specs.RoaValues.{RoaValue, RoaSpells, RoaFaultAt, payloads_of}
use Rattle.payloads.specs.RoaRefusal.{roa_refusal}
use Rattle.payloads.specs.ManifestRefusal.{manifest_refusal}

-- At most one fault fits bytes, none fits bytes that spell a value, and one fits all others.
abbrev pub OneFaultOf : {V : Type 0} → (V → List ℕ → Type 0) → (List ℕ → ℕ → ℕ → Type 0) → Type 0
OneFaultOf {V} Spells FaultAt =
    ((bytes : List ℕ) (offset other number second : ℕ) → FaultAt bytes offset number → FaultAt bytes other second → (offset ≡ other) × (number ≡ second))
    × ((bytes : List ℕ) (offset number : ℕ) (v : V) → FaultAt bytes offset number → Spells v bytes → ⊥)
    × ((bytes : List ℕ) → IsBytes bytes → ((v : V) × Spells v bytes) ⊎ ((offset : ℕ) × (number : ℕ) × FaultAt bytes offset number))

-- No value has two spellings, no bytes spell two values, and no spelling begins another.
abbrev pub OneSpellingOf : {V : Type 0} → (V → List ℕ → Type 0) → Type 0
OneSpellingOf {V} Spells =
    ((v : V) (a b : List ℕ) → IsBytes a → IsBytes b → Spells v a → Spells v b → a ≡ b)
    × ((bytes : List ℕ) (v w : V) → Spells v bytes → Spells w bytes → v ≡ w)
    × ((a b more : List ℕ) (v w : V) → Spells v a → Spells w b → a ++ more ≡ b → a ≡ b)

-- of ROAs and of manifests
abbrev pub OneFault : Type 0
OneFault = OneFaultOf RoaSpells RoaFaultAt × OneFaultOf ManifestSpells ManifestFaultAt

abbrev pub OneSpelling : Type 0
OneSpelling = OneSpellingOf RoaSpells × OneSpellingOf ManifestSpells

-- Two lists are one set: what is a member of one is a member of the other.
abbrev pub SameSet : List Payload → List Payload → Type 0
SameSet vs ws = (v : Payload) → Contains vs v ↔ Contains ws v

-- Two accepted payloads of ROAs are the same bytes exactly if they are of one AS and validate one set of payloads.
abbrev pub OnePayload : Type 0
OnePayload =
    (a b : List ℕ) (roa other : RoaValue) → IsBytes a → IsBytes b → RoaSpells roa a → RoaSpells other b
    → (a ≡ b) ↔ ((roa.asn ≡ other.asn) × SameSet (payloads_of roa) (payloads_of other))

-- Nothing is wrong with the value of a ROA exactly if some bytes spell it.
abbrev pub RoaRefusesExactly : Type 0
RoaRefusesExactly =
    (roa : RoaValue) → roa.asn < 2 ^ 32 → All HasPrefix roa.entries
    → (roa_refusal roa.entries ≡ None) ↔ ((bytes : List ℕ) × IsBytes bytes × RoaSpells roa bytes)

-- of bytes, 32 of them
pub record IsHash (hash : List ℕ) : Type 0 where
  pub bytes : IsBytes hash
  pub long : length hash ≡ 32

-- Nothing is wrong with the value of a manifest exactly if some bytes spell it.
abbrev pub ManifestRefusesExactly : Type 0
ManifestRefusesExactly =
    (m : ManifestValue) → IsBytes m.number → is_moment m.this_update ≡ true → is_moment m.next_update ≡ true → All (λ file. IsHash file.hash) m.files
    → (manifest_refusal m ≡ None) ↔ ((bytes : List ℕ) × IsBytes bytes × ManifestSpells m bytes)
