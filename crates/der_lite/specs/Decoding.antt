-- Reading by a grammar: what a place gives, a value or the first fault.
use Rattle.std.specs.Prelude.{ℕ, zero, suc, Bool, ◌==◌, if◌then◌else◌, List, [], ◌∷◌, ◌++◌, length, Option, Some, None, Result, Ok, Err}
use Rattle.der_lite.specs.Place.{Place, Fault}
use Rattle.der_lite.specs.DerReading.{◌>>=◌, judged, content_place, next_place}

-- reading one element: the value and the place behind it
abbrev pub Read : Type 0 → Type 0
Read V = Place → Result (V × Place) Fault

-- reading all of an enclosing element
abbrev pub ReadAll : Type 0 → Type 0
ReadAll V = Place → Result V Fault

-- reading the content of the element at an offset
abbrev pub ReadContent : Type 0 → Type 0
ReadContent V = ℕ → Place → Result V Fault

-- an element: the rules of its head, and then its content
abbrev pub read_element : {V : Type 0} → (List ℕ → List (ℕ × Bool)) → ReadContent V → Read V
read_element head content p = judged (head p.rest) p.at (content p.at (content_place p) >>= λ v. Ok (v, next_place p))

-- a content that spells a value by itself
abbrev pub read_primitive : {V : Type 0} → (List ℕ → List (ℕ × Bool)) → (List ℕ → V) → ReadContent V
read_primitive rules value at p = judged (rules p.rest) at (Ok (value p.rest))

-- a content of members: rules before them, the members, rules over the whole
abbrev pub read_constructed : {V : Type 0} → (List ℕ → List (ℕ × Bool)) → ReadAll V → (V → List (ℕ × Bool)) → ReadContent V
read_constructed before members whole at p = judged (before p.rest) at (members p >>= λ v. judged (whole v) at (Ok v))

-- the end of the enclosing element, otherwise what remains
abbrev pub ended : {V : Type 0} → Place → V → Result V Fault
ended p v = if length p.rest == 0 then Ok v else Err (record { number = 5; offset = p.at })

-- one member, and the end
abbrev pub read_last : {V : Type 0} → Read V → ReadAll V
read_last e p = e p >>= λ x. ended x.1 x.0

-- a member, and others that may depend on it
abbrev pub read_member : {A B : Type 0} → Read A → (A → ReadAll B) → ReadAll (A × B)
read_member e others p = e p >>= λ x. others x.0 x.1 >>= λ y. Ok (x.0, y)

-- a member if bytes remain, and the end
abbrev pub read_optional : {A : Type 0} → Read A → ReadAll (Option A)
read_optional e p = if length p.rest == 0 then Ok None else (e p >>= λ x. ended x.1 (Some x.0))

-- at most this many members, behind those before
abbrev pub each_from : {A : Type 0} → ℕ → (List A → Read A) → List A → ReadAll (List A)
each_from zero e before p = Ok before
each_from (suc n) e before p = if length p.rest == 0 then Ok before else (e before p >>= λ x. each_from n e (before ++ x.0 ∷ []) x.1)

-- each member has a byte at least
abbrev pub read_each : {A : Type 0} → (List A → Read A) → ReadAll (List A)
read_each e p = each_from (length p.rest) e [] p
