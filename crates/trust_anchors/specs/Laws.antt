-- What holds of trust anchor locators.
use Rattle.std.specs.Prelude.{◌≡◌, ℕ, List}
use Rattle.trust_anchors.specs.declared.fault.TalFaultKind.{TalFaultKind}
use Rattle.trust_anchors.specs.Locators.{Tal, Spells, FaultAt}

-- Bytes are at most one locator, have at most one first fault, and never both.
pub record OneLocator : Type 0 where
  pub one_value : (bytes : List ℕ) (v w : Tal) → Spells v bytes → Spells w bytes → v ≡ w
  pub one_fault : (bytes : List ℕ) (f g : TalFaultKind) (m n : ℕ) → FaultAt bytes f m → FaultAt bytes g n → (f ≡ g) × (m ≡ n)
  pub apart : (bytes : List ℕ) (v : Tal) (f : TalFaultKind) (n : ℕ) → Spells v bytes → FaultAt bytes f n → ⊥
