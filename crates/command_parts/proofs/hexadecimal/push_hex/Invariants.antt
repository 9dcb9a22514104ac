use Rattle.std.proofs.Common.{◌≡◌, ℕ, ◌++◌, List, length}
use Rattle.std.specs.Prelude.{string_bytes}
use Rattle.hex.specs.Hex.{encode_lower}
use Rattle.command_parts.proofs.hexadecimal.push_hex.Given as goal

-- the bytes so far are appended, and the others are left
abbrev pub invariant-loop-rest : goal.invariant-loop-rest
invariant-loop-rest l =
    (done : List ℕ) × (l.initial.rest ≡ done ++ l.rest) × (string_bytes l.text ≡ string_bytes l.initial.text ++ encode_lower done)

abbrev pub decreases-loop-rest : goal.decreases-loop-rest
decreases-loop-rest l = length l.rest
