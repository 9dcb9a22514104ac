-- Texts that are appended one after the other.
use Rattle.std.proofs.Common.{◌++◌, ℕ, List, Option, Result, Ok, Err, OnOk}
use Rattle.std.proofs.KnownBytes.{Appends-trans}
use Rattle.std.specs.Io.KnownBytes.{Appends}

pub two : {T E : Type 0} (r : Result T E) (x y z : Option (List ℕ)) (a b : List ℕ) → Appends x y a → OnOk r (Appends y z b) → OnOk r (Appends x z (a ++ b))
two (Ok t) x y z a b first second = Appends-trans x y z a b first second
two (Err e) x y z a b first second = tt

pub three : {T E : Type 0} (r : Result T E) (w x y z : Option (List ℕ)) (a b c : List ℕ) → Appends w x a → Appends x y b → OnOk r (Appends y z c) → OnOk r (Appends w z (a ++ b ++ c))
three r w x y z a b c first second third = two r w y z (a ++ b) c (Appends-trans w x y a b first second) third

pub on_ok : {T E A B : Type 0} (r : Result T E) → OnOk r A → (A → B) → OnOk r B
on_ok (Ok t) a f = f a
on_ok (Err e) a f = tt
