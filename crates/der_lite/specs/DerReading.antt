-- What reading gives at a place: a value and the place behind it, or the first fault.
use Rattle.std.specs.Prelude.{ℕ, ◌+◌, Bool, not, ◌==◌, if◌then◌else◌, List, [], ◌∷◌, length, drop, slice_range, Result, Ok, Err}
use Rattle.der_lite.specs.Place.{Place, Fault}
use Rattle.der_lite.specs.Der.{BIT_STRING, GENERALIZED_TIME, IA5_STRING, INTEGER, OBJECT_IDENTIFIER, OCTET_STRING, length_end, content_end, head_rules, is_integer, is_bit_string, is_ia5}
use Rattle.der_lite.specs.Moments.{CivilMoment, moment_of, is_time}

-- what is read first, and then what is read with it; or the first fault
infixl 10 ◌>>=◌
abbrev pub ◌>>=◌ : {A B : Type 0} → Result A Fault → (A → Result B Fault) → Result B Fault
(Ok x) >>= f = f x
(Err e) >>= f = Err e

-- the first rule that is broken, otherwise the result
abbrev pub judged : {A : Type 0} → List (ℕ × Bool) → ℕ → Result A Fault → Result A Fault
judged [] at result = result
judged ((number, is_broken) ∷ rules) at result = if is_broken then Err (record { number = number; offset = at }) else judged rules at result

-- the place of the content of the element at a place
unfoldable pub content_place : Place → Place
content_place p = record { at = p.at + length_end p.rest; rest = slice_range p.rest (length_end p.rest) (content_end p.rest) }

-- the place behind that element
unfoldable pub next_place : Place → Place
next_place p = record { at = p.at + content_end p.rest; rest = drop (content_end p.rest) p.rest }

-- the place of an element's content, and the place behind the element
unfoldable pub element_at : ℕ → Place → Result (Place × Place) Fault
element_at tag p = judged (head_rules tag p.rest) p.at (Ok (content_place p, next_place p))

-- an element whose content keeps the rules
unfoldable pub content_at : ℕ → (List ℕ → List (ℕ × Bool)) → Place → Result (List ℕ × Place) Fault
content_at tag rules p = element_at tag p >>= λ x. judged (rules x.0.rest) p.at (Ok (x.0.rest, x.1))

-- an INTEGER
abbrev pub integer_at : Place → Result (List ℕ × Place) Fault
integer_at = content_at INTEGER (λ content. (4, not (is_integer content)) ∷ [])

-- a BIT STRING
abbrev pub bits_at : Place → Result (List ℕ × Place) Fault
bits_at = content_at BIT_STRING (λ content. (4, not (is_bit_string content)) ∷ [])

-- an OCTET STRING
abbrev pub octets_at : Place → Result (List ℕ × Place) Fault
octets_at = content_at OCTET_STRING (λ content. [])

-- an OBJECT IDENTIFIER
abbrev pub oid_at : Place → Result (List ℕ × Place) Fault
oid_at = content_at OBJECT_IDENTIFIER (λ content. [])

-- an IA5String
abbrev pub ia5_at : Place → Result (List ℕ × Place) Fault
ia5_at = content_at IA5_STRING (λ content. (4, not (is_ia5 content)) ∷ [])

-- a GeneralizedTime, read as the moment whose text it is
unfoldable pub time_at : Place → Result (CivilMoment × Place) Fault
time_at p = content_at GENERALIZED_TIME (λ content. (4, not (is_time content)) ∷ []) p >>= λ x. Ok (moment_of x.0, x.1)

-- the end of the enclosing element
unfoldable pub end_at : Place → Result (Unit {0}) Fault
end_at p = if length p.rest == 0 then Ok tt else Err (record { number = 5; offset = p.at })
