-- What a writer adds.
use Rattle.std.specs.Prelude.{◌≡◌, ℕ, List, ◌++◌, Result, Ok, Err}
use Rattle.std.specs.declared.alloc.AllocError.{AllocError}
use Rattle.der_lite.specs.Der.{tlv}

-- The element of this tag and content was written behind the others. Without memory nothing was.
abbrev pub Adds : Result (Unit {0}) AllocError → ℕ → List ℕ → List ℕ → List ℕ → Type 0
Adds (Ok _) tag content old new = new ≡ old ++ tlv tag content
Adds (Err _) tag content old new = new ≡ old
