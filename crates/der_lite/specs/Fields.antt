-- Reading by a grammar over what the reads of a cursor give.
use Rattle.std.specs.Prelude.{ℕ, Bool, ◌==◌, if◌then◌else◌, List, length, Option, Some, None, Result, Ok}
use Rattle.der_lite.specs.Der.{SEQUENCE}
use Rattle.der_lite.specs.Place.{Place, Fault}
use Rattle.der_lite.specs.Grammar.{Members}
use Rattle.der_lite.specs.DerReading.{◌>>=◌, judged, element_at, end_at}
use Rattle.der_lite.specs.Decoding.{Read, ReadAll}

-- the content that was read of the element at an offset, and then rules over it
abbrev pub field_at : {V : Type 0} → Result (List ℕ × Place) Fault → ℕ → (List ℕ → List (ℕ × Bool)) → (List ℕ → V) → Result (V × Place) Fault
field_at read at rules value = read >>= λ x. judged (rules x.0) at (Ok (value x.0, x.1))

-- a SEQUENCE: rules before its members, the members, rules over the whole
abbrev pub sequence_at : {V : Type 0} → (List ℕ → List (ℕ × Bool)) → ReadAll V → (V → List (ℕ × Bool)) → Read V
sequence_at before members whole p = element_at SEQUENCE p >>= λ x. judged (before x.0.rest) p.at (members x.0 >>= λ v. judged (whole v) p.at (Ok (v, x.1)))

-- one member, and the end
abbrev pub last_at : {V : Type 0} → Read V → ReadAll V
last_at e p = e p >>= λ x. end_at x.1 >>= λ _. Ok x.0

-- a member if bytes remain, and the end
abbrev pub optional_at : {V : Type 0} → Read V → ReadAll (Option V)
optional_at e p = if length p.rest == 0 then Ok None else (e p >>= λ x. end_at x.1 >>= λ _. Ok (Some x.0))

-- members that are read as a value made of theirs
abbrev pub valued_at : {A B : Type 0} → (A → B) → ReadAll A → ReadAll B
valued_at make m p = m p >>= λ a. Ok (make a)

-- the same spellings, of a value that has the members' as its parts
abbrev pub valued : {A B : Type 0} → (B → A) → Members A → Members B
valued parts m = record {
  Spells = λ b bytes. m.Spells (parts b) bytes;
  FaultAt = m.FaultAt;
}
