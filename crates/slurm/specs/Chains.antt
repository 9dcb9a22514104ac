-- Steps that may fail, one after the other.
use Rattle.std.specs.Prelude.{◌≡◌, ◌⊎◌, Bool, true, false, Option, Some, None, Result, Ok, Err, ⊤}
use Rattle.slurm.specs.declared.fault.SlurmFault.{SlurmFault}
use Rattle.slurm.specs.declared.fault.SlurmFault.TheVariants as fault

-- One step, and then another with its value. The first fault is that of both.
infixl 10 ◌>>=◌
abbrev pub ◌>>=◌ : {A B E : Type 0} → Result A E → (A → Result B E) → Result B E
(Ok x) >>= f = f x
(Err e) >>= f = Err e

-- One step, and what is read with its value
abbrev pub After : {A B E : Type 0} → Result A E → (A → Result B E → Type 0) → Result B E → Type 0
After (Ok x) P r = P x r
After (Err e) P r = r ≡ Err e

-- The value, or why there is none
abbrev pub given : {A E : Type 0} → E → Option A → Result A E
given e None = Err e
given e (Some x) = Ok x

abbrev pub unless : {E : Type 0} → E → Bool → Result ⊤ E
unless e true = Ok tt
unless e false = Err e

-- One reading, and then another with its value. The first fault is that of both.
abbrev pub Then : {A B E : Type 0} → (Result A E → Type 0) → (A → Result B E → Type 0) → Result B E → Type 0
Then {A} P Q (Ok y) = (x : A) × P (Ok x) × Q x (Ok y)
Then {A} P Q (Err e) = P (Err e) ⊎ ((x : A) × P (Ok x) × Q x (Err e))

-- a result, its value seen in another way
abbrev pub seen : {A B E : Type 0} → (A → B) → Result A E → Result B E
seen f (Ok x) = Ok (f x)
seen f (Err e) = Err e

-- It is read so, unless memory ran out.
abbrev pub UnlessMemory : {A : Type 0} → (Result A SlurmFault → Type 0) → Result A SlurmFault → Type 0
UnlessMemory P r = P r ⊎ (r ≡ Err fault.Memory)
