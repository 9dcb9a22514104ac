-- Reading parts of elements that BER encodes.
use Rattle.std.specs.Prelude.{ℕ, zero, suc, ◌+◌, ◌-◌, Bool, true, false, if◌then◌else◌, nat_lt, List, [], ◌∷◌, ◌++◌, length, take, drop, Result, Ok, Err}
use Rattle.der_lite.specs.Place.{Place, Fault, place_of}
use Rattle.der_lite.specs.DerReading.{◌>>=◌, judged}
use Rattle.der_lite.specs.Decoding.{Read}
use Rattle.der_forms.specs.Combinators.{fault_at}
use Rattle.signed_objects.specs.Parts.{is_empty, is_closed}

-- reading a part of the element at an offset
abbrev pub ReadPart : Type 0 → Type 0
ReadPart V = ℕ → Place → Result (V × Place) Fault

-- the place that many octets on
abbrev pub after : ℕ → Place → Place
after count p = place_of (p.at + count) (drop count p.rest)

abbrev pub octet_here : ℕ → ℕ → List ℕ → Result (ℕ × Place) Fault
octet_here at here [] = Err (fault_at 1 at)
octet_here at here (first ∷ more) = Ok (first, place_of (here + 1) more)

abbrev pub octet_at : ReadPart ℕ
octet_at at p = octet_here at p.at p.rest

abbrev pub octets_at : ℕ → ReadPart (List ℕ)
octets_at count at p = if nat_lt (length p.rest) count then Err (fault_at 1 at) else Ok (take count p.rest, after count p)

abbrev pub gives_at : {V : Type 0} → V → ReadPart V
gives_at v at p = Ok (v, p)

abbrev pub ruled_at : {V : Type 0} → List (ℕ × Bool) → ReadPart V → ReadPart V
ruled_at rules part at p = judged rules at (part at p)

abbrev pub followed_at : {A B : Type 0} → ReadPart A → (A → ReadPart B) → ReadPart B
followed_at first others at p = first at p >>= λ x. others x.0 at x.1

abbrev pub with_own_at : {V : Type 0} → ReadPart V → ReadPart (List ℕ × V)
with_own_at part at p = part at p >>= λ x. Ok ((take (length p.rest - length x.1.rest) p.rest, x.0), x.1)

abbrev pub whole_at : {V : Type 0} → ReadPart V → Read V
whole_at part p = part p.at p

-- at most this many elements up to an end, after others
abbrev pub until : ℕ → (List ℕ → Bool) → Read (List ℕ) → List ℕ → Read (List ℕ)
until zero is_end e before p = Ok (before, p)
until (suc n) is_end e before p = if is_end p.rest then Ok (before, p) else (e p >>= λ x. until n is_end e (before ++ x.0) x.1)

-- which end the elements have
abbrev pub end_of : Bool → List ℕ → Bool
end_of true = is_closed
end_of false = is_empty

-- each element has an octet at least
abbrev pub up_to : (List ℕ → Bool) → Read (List ℕ) → Read (List ℕ)
up_to is_end e p = until (suc (length p.rest)) is_end e [] p

abbrev pub filling_at : ℕ → Read (List ℕ) → ReadPart (List ℕ)
filling_at count e at p = octets_at count at p >>= λ x. up_to is_empty e (place_of p.at x.0) >>= λ y. Ok (y.0, x.1)

abbrev pub closed_at : Read (List ℕ) → ReadPart (List ℕ)
closed_at e at p = up_to is_closed e p >>= λ x. octets_at 2 at x.1 >>= λ y. Ok (x.0, y.1)
