-- What a handle owns: its block, if there is a value, and nothing, if its address is null. There is no other case.
use mathlib.Core.Bool.{Bool, true, false}
use Rattle.std.specs.Prelude.{Option, Some, None}
use base.Fml.{Fml, ftrue, ffalse}
use denote.RawPtr.{Ptr, block_ptr, null_ptr}

-- whether there is something at the address
abbrev pub is_live : Ptr → Bool
is_live (block_ptr b o) = true
is_live null_ptr = false

-- what a handle of this address and value owns, if the block of a value is `owned`
abbrev pub held : {X : Type 0} → Ptr → Option X → (X → Fml) → Fml
held (block_ptr b o) (Some x) owned = owned x
held (block_ptr b o) None owned = ffalse
held null_ptr (Some x) owned = ffalse
held null_ptr None owned = ftrue
