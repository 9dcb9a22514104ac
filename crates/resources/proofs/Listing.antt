-- Blocks that come one after the other.
use Rattle.std.proofs.Common.{◌≡◌, ◌≢◌, ◌<◌, ℕ, Bool, true, false, List, [], ◌∷◌, ◌++◌, length, Ok, Err, refl, sym, subst, ap, arith}
use Rattle.der_lite.specs.Place.{Place, Fault}
use Rattle.der_lite.specs.Der.{number}
use Rattle.der_lite.specs.DerReading.{◌>>=◌, judged, element_at, content_at}
use Rattle.der_lite.specs.Decoding.{Read, ReadContent, read_constructed, read_member, read_each}
use Rattle.der_lite.specs.Fields.{field_at, last_at}
use Rattle.der_lite.specs.Values.{bits_value, between_rules}
use Rattle.der_lite.proofs.Rules.{bind_ok, judged_ok, ok_is}
use Rattle.der_lite.proofs.FieldLaws.{element_shorter}
use Rattle.der_lite.proofs.Loops.{Goes, goes_begin, goes_on, goes_wrong, goes_out}
use Rattle.der_forms.specs.Combinators.{begins, no_rules}
use Rattle.der_forms.specs.CombinatorReading.{opened_at, told_content_at, told_element_at, either_at}
use Rattle.resources.specs.declared.kind.ResourceKind.{ResourceKind}
use Rattle.resources.specs.declared.kind.ResourceKind.TheVariants.{Ipv4, Ipv6, As}
use Rattle.resources.specs.declared.range.ResourceRange.{ResourceRange}
use Rattle.resources.specs.Resources.{prefix_of, address_rules, between, bounds_rules, alone, from_to, from_to_rules}
use Rattle.resources.specs.Reading.{prefix_at, bound_at, address_range_at, address_block_at, as_number_at, as_range_at, as_block_at, block_at}

-- behind what it reads less remains
abbrev Shortens : {V : Type 0} → Read V → Type 0
Shortens {V} read = (p : Place) (v : V) (q : Place) → read p ≡ Ok (v, q) → length q.rest < length p.rest

opened_shorter : {V : Type 0} (tag : ℕ) (content : ReadContent V) → Shortens (λ p. opened_at (element_at tag p) p.at content)
opened_shorter {V} tag content p v q e =
    let b = bind_ok (element_at tag p) (λ x. content p.at x.0 >>= λ w. Ok (w, x.1)) (v, q) e in
    let c = bind_ok (content p.at b.0.0) (λ w. Ok (w, b.0.1)) (v, q) b.2 in
    let same : b.0.1 ≡ q = ap (λ (y : V × Place). y.1) (ok_is (c.0, b.0.1) (v, q) c.2) in
    omega (arith, element_shorter tag p b.0.0 b.0.1 b.1, ap (λ (y : Place). length y.rest) same)

content_shorter : (tag : ℕ) → Shortens (content_at tag no_rules)
unfolding content_at
content_shorter tag p v q e =
    let b = bind_ok (element_at tag p) (λ x. Ok (x.0.rest, x.1)) (v, q) e in
    let same : b.0.1 ≡ q = ap (λ (y : List ℕ × Place). y.1) (ok_is (b.0.0.rest, b.0.1) (v, q) b.2) in
    omega (arith, element_shorter tag p b.0.0 b.0.1 b.1, ap (λ (y : Place). length y.rest) same)

field_shorter : {V : Type 0} (tag : ℕ) (rules : List ℕ → List (ℕ × Bool)) (value : List ℕ → V) → Shortens (λ p. field_at (content_at tag no_rules p) p.at rules value)
field_shorter {V} tag rules value p v q e =
    let b = bind_ok (content_at tag no_rules p) (λ x. judged (rules x.0) p.at (Ok (value x.0, x.1))) (v, q) e in
    let j = judged_ok (rules b.0.0) p.at (Ok (value b.0.0, b.0.1)) (v, q) b.2 in
    let same : b.0.1 ≡ q = ap (λ (y : V × Place). y.1) (ok_is (value b.0.0, b.0.1) (v, q) j.1) in
    omega (arith, content_shorter tag p b.0.0 b.0.1 b.1, ap (λ (y : Place). length y.rest) same)

told_shorter : {A B : Type 0} (tell : A → B) (read : Read A) → Shortens read → Shortens (told_element_at tell read)
told_shorter {A} {B} tell read short p v q e =
    let b = bind_ok (read p) (λ x. Ok (tell x.0, x.1)) (v, q) e in
    let same : b.0.1 ≡ q = ap (λ (y : B × Place). y.1) (ok_is (tell b.0.0, b.0.1) (v, q) b.2) in
    omega (arith, short p b.0.0 b.0.1 b.1, ap (λ (y : Place). length y.rest) same)

either_shorter : {V : Type 0} (tag : ℕ) (first second : Read V) → Shortens first → Shortens second → Shortens (either_at tag first second)
either_shorter {V} tag first second a b p v q e = by (begins tag p.rest) refl
  where
    by : (x : Bool) → begins tag p.rest ≡ x → length q.rest < length p.rest
    by true h = a p v q (rw h at e)
    by false h = b p v q (rw h at e)

address_shorter : (width : ℕ) → Shortens (address_block_at width)
unfolding address_block_at prefix_at address_range_at
address_shorter width =
    either_shorter 3 (prefix_at width) (address_range_at width)
    (told_shorter (prefix_of width) (λ p. field_at (content_at 3 no_rules p) p.at (address_rules width) bits_value) (field_shorter 3 (address_rules width) bits_value))
    (opened_shorter 48 (told_content_at (between width) (read_constructed no_rules (read_member (bound_at false width) (λ _. last_at (bound_at true width))) (bounds_rules width))))

as_shorter : Shortens as_block_at
unfolding as_block_at as_number_at as_range_at
as_shorter =
    either_shorter 2 (told_element_at alone as_number_at) as_range_at
    (told_shorter alone as_number_at (field_shorter 2 (between_rules 0 4294967295 14) number))
    (opened_shorter 48 (told_content_at from_to (read_constructed no_rules (read_member as_number_at (λ _. last_at as_number_at)) from_to_rules)))

pub block_shorter : (kind : ResourceKind) → Shortens (block_at kind)
unfolding block_at
block_shorter Ipv4 = address_shorter 32
block_shorter Ipv6 = address_shorter 128
block_shorter As = as_shorter

-- these ranges were read in front of a place
abbrev pub Listed : ResourceKind → Place → List ResourceRange → Place → Type 0
Listed kind start ranges here = Goes (λ before. block_at kind) start ranges here

pub listed_none : (kind : ResourceKind) (start : Place) → Listed kind start [] start
listed_none kind start = goes_begin (λ before. block_at kind) start

-- one more was read
pub listed_on : (kind : ResourceKind) (start : Place) (ranges new : List ResourceRange) (here next : Place) (range : ResourceRange)
    → Listed kind start ranges here → here.rest ≢ [] → block_at kind here ≡ Ok (range, next) → new ≡ ranges ++ range ∷ [] → Listed kind start new next
listed_on kind start ranges new here next range g more read grown =
    subst (λ (l : List ResourceRange). Listed kind start l next) (sym grown) (goes_on (λ before. block_at kind) start ranges here g range next more read (block_shorter kind here range next read))

-- a block is a fault
pub listed_wrong : (kind : ResourceKind) (start : Place) (ranges : List ResourceRange) (here : Place) (f : Fault)
    → Listed kind start ranges here → here.rest ≢ [] → block_at kind here ≡ Err f → read_each (λ before. block_at kind) start ≡ Err f
listed_wrong kind start ranges here f g more read = goes_wrong (λ before. block_at kind) start ranges here g f more read

-- the end
pub listed_all : (kind : ResourceKind) (start : Place) (ranges : List ResourceRange) (here : Place) → Listed kind start ranges here → here.rest ≡ [] → read_each (λ before. block_at kind) start ≡ Ok ranges
listed_all kind start ranges here g e = goes_out (λ before. block_at kind) start ranges here g e
