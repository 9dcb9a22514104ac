-- What canonical forms satisfy.
use Rattle.std.specs.Prelude.{◌≡◌, ◌⊎◌, ◌↔◌, ⊤, ℕ, ◌≤◌, List, length, Option, Some, None}
use Rattle.prefixes.specs.Payload.{Payload}
use Rattle.sha2.specs.Sha256.{sha256}
use Rattle.vrps.specs.VrpSet.{VrpSet, has, set_of}
use Rattle.der_lite.specs.Place.{Fault}
use Rattle.der_lite.specs.Der.{IsBytes}
use Rattle.ccr.specs.Canonical.{canonical}
use Rattle.payloads.specs.RoaValues.{RoaValue, RoaSpells}
use Rattle.ccr.specs.PayloadSet.{payload_set}
use Rattle.ccr.specs.Ccr.{Ccr, Vrps, CcrSpells, CcrFaultAt}

-- Two sets with the same VRPs have one canonical form, and one digest.
abbrev pub SameVrps : Type 0
SameVrps = (s t : VrpSet) → ((v : Payload) → has s v ≡ has t v) → (canonical s ≡ canonical t) × (sha256 (canonical s) ≡ sha256 (canonical t))

-- Bytes have one fault at most, none if they are a representation, and they are one or have a fault. They are one representation at most.
abbrev pub OneFault : Type 0
OneFault = (bytes : List ℕ) (f g : Fault) → CcrFaultAt bytes f → CcrFaultAt bytes g → f ≡ g

abbrev pub Apart : Type 0
Apart = (bytes : List ℕ) (v : Ccr) (f : Fault) → CcrSpells v bytes → ¬ (CcrFaultAt bytes f)

abbrev pub Either : Type 0
Either = (bytes : List ℕ) → IsBytes bytes → ((v : Ccr) × CcrSpells v bytes) ⊎ ((f : Fault) × CcrFaultAt bytes f)

abbrev pub OneValue : Type 0
OneValue = (bytes : List ℕ) (v w : Ccr) → CcrSpells v bytes → CcrSpells w bytes → v ≡ w

-- The first ROAPayloadSet of a list is the payload of a ROA, as the crate `payloads` defines it, exactly if it has at most 65,536 entries.
abbrev pub SetsAreRoas : Type 0
SetsAreRoas = (roa : RoaValue) (bytes : List ℕ) → RoaSpells roa bytes ↔ ((payload_set None).Spells roa bytes × (length roa.entries ≤ 65536))

-- The hash beside VRPs, if they are there, is the digest of their set.
abbrev pub HasDigest : Option Vrps → Type 0
HasDigest None = ⊤
HasDigest (Some v) = v.1 ≡ sha256 (canonical (set_of v.0))

-- In each representation it is.
abbrev pub HashIsDigest : Type 0
HashIsDigest = (bytes : List ℕ) (c : Ccr) → IsBytes bytes → CcrSpells c bytes → HasDigest c.1.1.0
