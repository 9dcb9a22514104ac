-- What the functions that read give.
use Rattle.std.specs.Prelude.{◌≡◌, ℕ, List, Result, Ok, Err}
use Rattle.der_lite.specs.Place.{Place, Fault, place_of}
use Rattle.der_lite.specs.Grammar.{Members}
use Rattle.resources.specs.declared.fault.ResourceFault.{ResourceFault}
use Rattle.resources.specs.declared.fault.ResourceError.{ResourceError}
use Rattle.resources.specs.declared.fault.ResourceError.TheVariants.{At, Memory}
use Rattle.resources.specs.Faults.{fault_of}

-- What was read and the cursor's new place, or the first fault.
abbrev pub GivesNext : {X V : Type 0} → (X → V) → Result X ResourceFault → Place → Result (V × Place) Fault → Type 0
GivesNext view (Ok x) new read = read ≡ Ok (view x, new)
GivesNext view (Err e) new read = read ≡ Err (fault_of e)

-- What was read to the end, or the first fault.
abbrev pub GivesAll : {X V : Type 0} → (X → V) → Result X ResourceFault → Result V Fault → Type 0
GivesAll view (Ok x) read = read ≡ Ok (view x)
GivesAll view (Err e) read = read ≡ Err (fault_of e)

-- What was read, and the cursor's new place; or the first fault; or memory ran out.
abbrev pub GivesOrMemory : {X V : Type 0} → (X → V) → Result X ResourceError → Place → Result (V × Place) Fault → Type 0
GivesOrMemory view (Ok x) new read = read ≡ Ok (view x, new)
GivesOrMemory view (Err (At e)) new read = read ≡ Err (fault_of e)
GivesOrMemory view (Err Memory) new read = Unit {0}

-- What was read to the end; or the first fault; or memory ran out.
abbrev pub GivesAllOrMemory : {X V : Type 0} → (X → V) → Result X ResourceError → Result V Fault → Type 0
GivesAllOrMemory view (Ok x) read = read ≡ Ok (view x)
GivesAllOrMemory view (Err (At e)) read = read ≡ Err (fault_of e)
GivesAllOrMemory view (Err Memory) read = Unit {0}

-- The octets spell this value; or this is their first fault; or memory ran out.
abbrev pub Reads : {V : Type 0} → Members V → Result V ResourceError → List ℕ → Type 0
Reads members (Ok value) octets = members.Spells value octets
Reads members (Err (At fault)) octets = members.FaultAt (place_of 0 octets) (fault_of fault)
Reads members (Err Memory) octets = Unit {0}
