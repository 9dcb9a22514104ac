-- What holds of the grammars of resources.
use Rattle.std.specs.Prelude.{◌≡◌, ◌⊎◌, ◌↔◌, List, ℕ}
use Rattle.der_lite.specs.Place.{Fault, place_of}
use Rattle.der_lite.specs.Der.{IsBytes}
use Rattle.der_lite.specs.Grammar.{Members}
use Rattle.resources.specs.declared.range.ResourceRange.{ResourceRange}
use Rattle.resources.specs.Ranges.{AreRanges, Covers}
use Rattle.resources.specs.Resources.{ip_value, as_value}

-- Octets are one value, or have one fault, and never both.
pub record IsOneOrFaulty {V : Type 0} (m : Members V) : Type 0 where
  pub one_value : (octets : List ℕ) (v w : V) → m.Spells v octets → m.Spells w octets → v ≡ w
  pub one_fault : (octets : List ℕ) (f g : Fault) → m.FaultAt (place_of 0 octets) f → m.FaultAt (place_of 0 octets) g → f ≡ g
  pub apart : (octets : List ℕ) (v : V) (f : Fault) → m.Spells v octets → m.FaultAt (place_of 0 octets) f → ⊥
  pub either : (octets : List ℕ) → IsBytes octets → ((v : V) × m.Spells v octets) ⊎ ((f : Fault) × m.FaultAt (place_of 0 octets) f)

abbrev pub OneIpValue : Type 0
OneIpValue = IsOneOrFaulty ip_value

abbrev pub OneAsValue : Type 0
OneAsValue = IsOneOrFaulty as_value

-- A set of numbers has one list of ranges.
abbrev pub OneList : Type 0
OneList = (ranges others : List ResourceRange) → AreRanges ranges → AreRanges others → ((n : ℕ) → Covers ranges n ↔ Covers others n) → ranges ≡ others
