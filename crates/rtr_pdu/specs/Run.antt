-- A reader that is notified of agreement reads a stream.
use Rattle.std.specs.Prelude.{◌≡◌, ℕ, Bool, List, ◌++◌, Option, Some, None}
use Rattle.rtr_pdu.specs.declared.version.Version.{Version}
use Rattle.rtr_pdu.specs.declared.unit.Unit.{Unit}
use Rattle.rtr_pdu.specs.declared.unit.UnitFault.{UnitFault}
use Rattle.rtr_pdu.specs.Stream.{as_read, any_after, AreRead, IsPartial, Splits, SameSplit}
use Rattle.rtr_pdu.specs.Reader.{Reader, version_with}
use Rattle.rtr_pdu.specs.Version.{version_in}

-- Of this stream these PDUs were read, and the reader has the rest.
pub record HasRead (version : Version) (any : Bool) (stream : List ℕ) (units : List Unit) (r : Reader) : Type 0 where
  pub front : List ℕ
  pub whole : stream ≡ front ++ r.held
  pub read : AreRead version any units front
  pub any_is : r.any ≡ any_after any units
  pub later_is : r.later ≡ any_after any units
  pub sound : r.fault ≡ None
  pub partial : IsPartial version (as_read version r.any r.held)

-- The same of a stream of this version, or of that of its first header, whatever follows.
abbrev pub HasBegun : Option Version → Bool → List ℕ → List Unit → Reader → Type 0
HasBegun start any stream units r =
    (more : List ℕ) → HasRead (version_in start (stream ++ more)) any stream units r × (version_with r more ≡ version_in start (stream ++ more))

-- The same, or a fault was found.
abbrev pub HasFed : Option Version → Bool → List ℕ → List Unit → Reader → Option UnitFault → Type 0
HasFed start any stream units r None = HasBegun start any stream units r
HasFed start any stream units r (Some fault) =
    (more : List ℕ) → (rest : List ℕ) × Splits (version_in start (stream ++ more)) any stream units rest (Some fault)

-- The stream has this split, and no other.
pub record HasOnly (version : Version) (any : Bool) (stream : List ℕ) (units : List Unit) (fault : Option UnitFault) : Type 0 where
  pub rest : List ℕ
  pub split : Splits version any stream units rest fault
  pub only : (others : List Unit) (left : List ℕ) (other : Option UnitFault) → Splits version any stream others left other → SameSplit units others rest left fault other

-- From the place at which a reader began a piece: whatever it had read then, this is left of the piece.
abbrev pub ReadsOn : List Unit → Reader → List ℕ → List Unit → Reader → List ℕ → Type 0
ReadsOn before began piece units r rest =
    (start : Option Version) (any : Bool) (stream : List ℕ) → HasBegun start any stream before began →
    (done : List ℕ) × HasBegun start any done units r × (done ++ rest ≡ stream ++ piece)
