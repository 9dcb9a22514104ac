-- A file that is read with its scope, and the same file without it.
use Rattle.std.proofs.Common.{◌≡◌, ℕ, inl, inr, Result, Ok, Err, refl, sym, ap, ◌∙◌}
use Rattle.std.specs.Prelude.{List, Option}
use Rattle.serde_json.specs.Data.{Data}
use Rattle.prefixes.specs.Payload.{Payload}
use Rattle.prefixes.specs.declared.asn.Asn.{Asn}
use Rattle.slurm.specs.Chains.{After, Then, UnlessMemory, seen}
use Rattle.slurm.specs.Entries.{ReadsAssertion, ReadsEntries, ReadsFilter, ReadsKeyAssertion, ReadsKeyFilter}
use Rattle.slurm.specs.Exceptions.{Exceptions, exceptions_of}
use Rattle.slurm.specs.Scoped.{ReadsScoped, ReadsScopedArrays, ReadsScopedOnce, ReadsScopedValue, Scoped, ScopesAreKept, scoped_by, scoped_of}
use Rattle.slurm.specs.SlurmFile.{Arrays, ReadsArrays, ReadsJson, ReadsOnce, ReadsSlurm, ReadsValue, arrays_of, limited}
use Rattle.slurm.specs.declared.fault.SlurmArray.TheVariants as array
use Rattle.slurm.specs.declared.fault.SlurmFault.{SlurmFault}
use Rattle.slurm.specs.declared.fault.SlurmFault.TheVariants.{Memory, Repeated}
use Rattle.slurm.specs.declared.filter.PrefixFilter.{PrefixFilter}
use Rattle.slurm.specs.declared.scoped.ScopedSlurm.{ScopedSlurm}

abbrev pub exceptions_in : Scoped → Exceptions
exceptions_in s = s.exceptions

abbrev pub unscoped : Result Scoped SlurmFault → Result Exceptions SlurmFault
unscoped r = seen exceptions_in r

same_again : (xs : List (Option Asn)) (ys : List Asn) (m : Result Exceptions SlurmFault) → unscoped (seen (scoped_by xs ys) m) ≡ m
same_again xs ys (Ok e) = refl
same_again xs ys (Err e) = refl

-- ---- without the scope

module _ {A B C E : Type 0} (f : B → C) where
  then_seen : (P : Result A E → Type 0) (Q : A → Result B E → Type 0) (R : A → Result C E → Type 0) → ((x : A) (r : Result B E) → Q x r → R x (seen f r)) → (r : Result B E) → Then P Q r → Then P R (seen f r)
  then_seen P Q R on (Ok y) h = (h.0, h.1, on h.0 (Ok y) h.2)
  then_seen P Q R on (Err e) (inl h) = inl h
  then_seen P Q R on (Err e) (inr h) = inr (h.0, h.1, on h.0 (Err e) h.2)

  after_seen : (m : Result A E) (Q : A → Result B E → Type 0) (R : A → Result C E → Type 0) → ((x : A) (r : Result B E) → Q x r → R x (seen f r)) → (r : Result B E) → After m Q r → After m R (seen f r)
  after_seen (Ok x) Q R on r h = on x r h
  after_seen (Err e) Q R on r h = ap (seen f) h

module _ (a : Arrays) where
  abbrev Filters : Result (List PrefixFilter) SlurmFault → Type 0
  Filters = ReadsEntries ReadsFilter array.PrefixFilters a.prefix_filters

  abbrev KeyFilters : Result (List (Option Asn)) SlurmFault → Type 0
  KeyFilters = ReadsEntries ReadsKeyFilter array.BgpsecFilters a.bgpsec_filters

  abbrev Assertions : Result (List Payload) SlurmFault → Type 0
  Assertions = ReadsEntries ReadsAssertion array.PrefixAssertions a.prefix_assertions

  abbrev Keys : Result (List Asn) SlurmFault → Type 0
  Keys = ReadsEntries ReadsKeyAssertion array.BgpsecAssertions a.bgpsec_assertions

  -- the rest of the arrays, with the scope ..
  abbrev Scoped4 : List PrefixFilter → List (Option Asn) → List Payload → List Asn → Result Scoped SlurmFault → Type 0
  Scoped4 fs xs vs ys r = r ≡ seen (scoped_by xs ys) (limited fs vs)

  abbrev Scoped3 : List PrefixFilter → List (Option Asn) → List Payload → Result Scoped SlurmFault → Type 0
  Scoped3 fs xs vs = Then Keys (Scoped4 fs xs vs)

  abbrev Scoped2 : List PrefixFilter → List (Option Asn) → Result Scoped SlurmFault → Type 0
  Scoped2 fs xs = Then Assertions (Scoped3 fs xs)

  abbrev Scoped1 : List PrefixFilter → Result Scoped SlurmFault → Type 0
  Scoped1 fs = Then KeyFilters (Scoped2 fs)

  -- .. and without it
  abbrev Plain4 : List PrefixFilter → List Payload → List Asn → Result Exceptions SlurmFault → Type 0
  Plain4 fs vs ys r = r ≡ limited fs vs

  abbrev Plain3 : List PrefixFilter → List Payload → Result Exceptions SlurmFault → Type 0
  Plain3 fs vs = Then Keys (Plain4 fs vs)

  abbrev Plain2 : List PrefixFilter → List (Option Asn) → Result Exceptions SlurmFault → Type 0
  Plain2 fs xs = Then Assertions (Plain3 fs)

  abbrev Plain1 : List PrefixFilter → Result Exceptions SlurmFault → Type 0
  Plain1 fs = Then KeyFilters (Plain2 fs)

  drop_arrays : (r : Result Scoped SlurmFault) → ReadsScopedArrays a r → ReadsArrays a (unscoped r)
  drop_arrays r h =
      then_seen exceptions_in Filters Scoped1 Plain1 (λ fs.
      then_seen exceptions_in KeyFilters (Scoped2 fs) (Plain2 fs) (λ xs.
      then_seen exceptions_in Assertions (Scoped3 fs xs) (Plain3 fs) (λ vs.
      then_seen exceptions_in Keys (Scoped4 fs xs vs) (Plain4 fs vs) (λ ys q is. ap unscoped is ∙ same_again xs ys (limited fs vs))))) r h

pub drop_value : (d : Data) (r : Result Scoped SlurmFault) → ReadsScopedValue d r → ReadsValue d (unscoped r)
drop_value d r h = after_seen exceptions_in (arrays_of d) ReadsScopedArrays ReadsArrays drop_arrays r h

drop_once : (bytes : List ℕ) (d : Data) (r : Result Scoped SlurmFault) → ReadsScopedOnce bytes d r → ReadsOnce bytes d (unscoped r)
drop_once bytes d r (inl h) = inl (h.0, drop_value d r h.1)
drop_once bytes d r (inr h) = inr (h.0, ap unscoped h.1)

pub drop_scope : (bytes : List ℕ) (r : Result Scoped SlurmFault) → ReadsScoped bytes r → ReadsSlurm bytes (unscoped r)
drop_scope bytes r h = then_seen exceptions_in (ReadsJson bytes) (ReadsScopedOnce bytes) (ReadsOnce bytes) (drop_once bytes) r h

-- ---- with a scope

-- A reading with a scope that has this result without it
abbrev pub Lifts : (Result Scoped SlurmFault → Type 0) → Result Exceptions SlurmFault → Type 0
Lifts Q q = (r : Result Scoped SlurmFault) × Q r × (unscoped r ≡ q)

module _ {A : Type 0} where
  then_from : (P : Result A SlurmFault → Type 0) (Q : A → Result Scoped SlurmFault → Type 0) (x : A) (r : Result Scoped SlurmFault) → P (Ok x) → Q x r → Then P Q r
  then_from P Q x (Ok y) h k = (x, h, k)
  then_from P Q x (Err e) h k = inr (x, h, k)

  then_lifts : (P : Result A SlurmFault → Type 0) (Q : A → Result Scoped SlurmFault → Type 0) (R : A → Result Exceptions SlurmFault → Type 0) → ((x : A) (q : Result Exceptions SlurmFault) → R x q → Lifts (Q x) q) → (q : Result Exceptions SlurmFault)
      → Then P R q → Lifts (Then P Q) q
  then_lifts P Q R on (Ok y) h = let k = on h.0 (Ok y) h.2 in (k.0, then_from P Q h.0 k.0 h.1 k.1, k.2)
  then_lifts P Q R on (Err e) (inl h) = (Err e, inl h, refl)
  then_lifts P Q R on (Err e) (inr h) = let k = on h.0 (Err e) h.2 in (k.0, then_from P Q h.0 k.0 h.1 k.1, k.2)

  after_lifts : (m : Result A SlurmFault) (Q : A → Result Scoped SlurmFault → Type 0) (R : A → Result Exceptions SlurmFault → Type 0) → ((x : A) (q : Result Exceptions SlurmFault) → R x q → Lifts (Q x) q) → (q : Result Exceptions SlurmFault)
      → After m R q → Lifts (After m Q) q
  after_lifts (Ok x) Q R on q h = on x q h
  after_lifts (Err e) Q R on q h = (Err e, refl, sym h)

lift_arrays : (a : Arrays) (q : Result Exceptions SlurmFault) → ReadsArrays a q → Lifts (ReadsScopedArrays a) q
lift_arrays a q h =
    then_lifts (Filters a) (Scoped1 a) (Plain1 a) (λ fs.
    then_lifts (KeyFilters a) (Scoped2 a fs) (Plain2 a fs) (λ xs.
    then_lifts (Assertions a) (Scoped3 a fs xs) (Plain3 a fs) (λ vs.
    then_lifts (Keys a) (Scoped4 a fs xs vs) (Plain4 a fs vs) (λ ys s is. (seen (scoped_by xs ys) (limited fs vs), refl, same_again xs ys (limited fs vs) ∙ sym is))))) q h

pub lift_value : (d : Data) (q : Result Exceptions SlurmFault) → ReadsValue d q → Lifts (ReadsScopedValue d) q
lift_value d q h = after_lifts (arrays_of d) ReadsScopedArrays ReadsArrays lift_arrays q h

lift_once : (bytes : List ℕ) (d : Data) (q : Result Exceptions SlurmFault) → ReadsOnce bytes d q → Lifts (ReadsScopedOnce bytes d) q
lift_once bytes d q (inl h) = let k = lift_value d q h.1 in (k.0, inl (h.0, k.1), k.2)
lift_once bytes d q (inr h) = (Err Repeated, inr (h.0, refl), sym h.1)

pub lift_scope : (bytes : List ℕ) (q : Result Exceptions SlurmFault) → ReadsSlurm bytes q → Lifts (ReadsScoped bytes) q
lift_scope bytes q h = then_lifts (ReadsJson bytes) (ReadsScopedOnce bytes) (ReadsOnce bytes) (lift_once bytes) q h

pub scopes_are_kept : ScopesAreKept
scopes_are_kept = (drop_scope, lift_scope)

-- ---- the contract

-- The exceptions of a file that was read are those that are read without its scope.
pub read_without : (bytes : List ℕ) (s : ScopedSlurm) → UnlessMemory (ReadsScoped bytes) (Ok (scoped_of s)) → UnlessMemory (ReadsSlurm bytes) (Ok (exceptions_of s.slurm))
read_without bytes s (inl h) = inl (drop_scope bytes (Ok (scoped_of s)) h)
read_without bytes s (inr h) = absurd (cc)

pub fault_without : (bytes : List ℕ) (e : SlurmFault) → UnlessMemory (ReadsScoped bytes) (Err e) → UnlessMemory (ReadsSlurm bytes) (Err e)
fault_without bytes e (inl h) = inl (drop_scope bytes (Err e) h)
fault_without bytes e (inr h) = inr (again h)
  where
    again : ◌≡◌ {A = Result Scoped SlurmFault} (Err e) (Err Memory) → ◌≡◌ {A = Result Exceptions SlurmFault} (Err e) (Err Memory)
    again h = cc
