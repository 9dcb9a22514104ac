-- Reading by these grammars over what the reads of a cursor give.
use Rattle.std.specs.Prelude.{ℕ, ◌-◌, Bool, ◌==◌, if◌then◌else◌, List, length, take, Option, Some, None, Result, Ok, Err}
use Rattle.der_lite.specs.Place.{Place, Fault}
use Rattle.der_lite.specs.DerReading.{◌>>=◌, judged, content_at, element_at}
use Rattle.der_lite.specs.Fields.{field_at}
use Rattle.der_lite.specs.Decoding.{Read, ReadAll, ReadContent, read_primitive, read_constructed, read_member}
use Rattle.der_forms.specs.Combinators.{begins, fault_at, not_empty, no_rules, needed, first_part, fixed_rules, present, absent}

-- the places of an element's content and after it, if these rules are kept
abbrev pub found_at : (List ℕ → List (ℕ × Bool)) → ℕ → Place → Result (Place × Place) Fault
found_at rules tag p = judged (rules p.rest) p.at (element_at tag p)

-- an element that was found, and its content
abbrev pub opened_at : {V : Type 0} → Result (Place × Place) Fault → ℕ → ReadContent V → Result (V × Place) Fault
opened_at found at content = found >>= λ x. content at x.0 >>= λ v. Ok (v, x.1)

-- the end of the enclosing element
abbrev pub nothing_at : (List ℕ → ℕ) → ReadAll (Unit {0})
nothing_at number p = if length p.rest == 0 then Ok tt else Err (fault_at (number p.rest) p.at)

-- members of which only a part is kept
abbrev pub told_at : {A B : Type 0} → (A → B) → ReadAll A → ReadAll B
told_at tell m p = m p >>= λ a. Ok (tell a)

-- a content of which only a part is kept
abbrev pub told_content_at : {A B : Type 0} → (A → B) → ReadContent A → ReadContent B
told_content_at tell c at p = c at p >>= λ a. Ok (tell a)

-- a content, and its octets unchanged
abbrev pub with_octets_at : {V : Type 0} → ReadContent V → ReadContent (List ℕ × V)
with_octets_at c at p = c at p >>= λ v. Ok (p.rest, v)

-- an element, and its octets unchanged
abbrev pub standing_at : {V : Type 0} → Read V → Read (List ℕ × V)
standing_at e p = e p >>= λ x. Ok ((take (length p.rest - length x.1.rest) p.rest, x.0), x.1)

-- one member, and the end, whose fault has this number
abbrev pub sole_at : {V : Type 0} → ℕ → Read V → ReadAll V
sole_at number e = told_at first_part (read_member e (λ _. nothing_at (λ bytes. number)))

-- the content of a SET or of a wrapping element of exactly one member
abbrev pub one_of : {V : Type 0} → ℕ → Read V → ReadContent V
one_of number e = read_constructed (not_empty number) (sole_at number e) no_rules

-- all bytes to the end
abbrev pub anything_at : ReadAll (List ℕ)
anything_at p = Ok p.rest

-- one of two elements: the first if its tag is here
abbrev pub either_at : {V : Type 0} → ℕ → Read V → Read V → Read V
either_at tag first second p = if begins tag p.rest then first p else second p

-- a value, or the fault of this number
abbrev pub or_fault : {V : Type 0} → ℕ → ℕ → Option V → Result V Fault
or_fault number at (Some v) = Ok v
or_fault number at None = Err (fault_at number at)

-- a value that was read, if it was
abbrev pub read_value : {V : Type 0} → Result V Fault → Option V
read_value (Ok v) = Some v
read_value (Err _) = None

-- a content that was read, if it is this one
abbrev pub fixed_field : Result (List ℕ × Place) Fault → ℕ → ℕ → List ℕ → Result (Unit {0} × Place) Fault
fixed_field read at number wanted = field_at read at (fixed_rules number wanted) (λ content. tt)

-- the content of an element as it is
abbrev pub all_octets : ReadContent (List ℕ)
all_octets = read_primitive no_rules (λ content. content)

-- the content of an element, if one of its tag is here
unfoldable pub needed_octets_at : ℕ → ℕ → Read (List ℕ)
needed_octets_at number tag p = opened_at (found_at (needed number tag) tag p) p.at all_octets

-- an element that is skipped
abbrev pub octets_of : ℕ → Read (List ℕ)
octets_of tag = content_at tag no_rules

-- one of two forms of all that follows
abbrev pub branch_at : {V : Type 0} → ℕ → ReadAll V → ReadAll V → ReadAll V
branch_at tag first second p = if begins tag p.rest then first p else second p

-- a member that may be left out, and others
abbrev pub maybe_at : {A B : Type 0} → ℕ → Read A → (Option A → ReadAll B) → ReadAll (Option A × B)
maybe_at tag e others = branch_at tag (told_at present (read_member e (λ a. others (Some a)))) (told_at absent (others None))

-- an element of which only a part is kept
abbrev pub told_element_at : {A B : Type 0} → (A → B) → Read A → Read B
told_element_at tell e p = e p >>= λ x. Ok (tell x.0, x.1)
