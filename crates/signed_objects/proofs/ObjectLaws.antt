-- The laws of signed objects in DER.
use Rattle.std.proofs.Common.{◌≡◌, ℕ, List, sym, ap, subst, ◌∙◌, inl, inr}
use Rattle.der_lite.specs.Place.{Fault, place_of}
use Rattle.der_lite.specs.Fields.{last_at}
use Rattle.der_lite.proofs.GrammarLaws as laws
use Rattle.der_forms.specs.Combinators.{fault_at}
use Rattle.signed_objects.specs.Cms.{ObjectParts, object}
use Rattle.signed_objects.specs.Reading.{content_info_at}
use Rattle.signed_objects.specs.Objects.{HasSigner, HasType, HasDigest, Holds, Disagrees, Fails, ObjectValue, value_of_parts, IsDerObject, DerFaultAt}
use Rattle.signed_objects.specs.ObjectLaws.{OneDerFault, OneDerObject}
use Rattle.signed_objects.proofs.ExactObjects.{exact_object}

-- an object is spelled in one way
same_parts : (der : List ℕ) (o p : ObjectParts) → object.Spells o der → object.Spells p der → o ≡ p
same_parts der o p s t = laws.one_value object (last_at content_info_at) exact_object (place_of 0 der) o p s t

-- an element that is faulty is in no object
spelled_apart : (der : List ℕ) (o : ObjectParts) (f : Fault) → object.Spells o der → object.FaultAt (place_of 0 der) f → ⊥
spelled_apart der o f s t = laws.apart object (last_at content_info_at) exact_object (place_of 0 der) o f s t

-- what a disagreement leaves open
disagreed : (o : ObjectParts) (n : ℕ) → Disagrees o n → HasSigner o → HasType o → HasDigest o → ⊥
disagreed o n (inl a) signer type digest = a.0 signer
disagreed o n (inr (inl a)) signer type digest = a.1 type
disagreed o n (inr (inr a)) signer type digest = a.2 digest

-- an object that fails does not hold
fails_apart : (o : ObjectParts) (n : ℕ) → Fails o n → Holds o → ⊥
fails_apart o n (inl a) h = disagreed o n a h.signer h.type h.digest
fails_apart o n (inr (inl a)) h = a.3 h.modulus
fails_apart o n (inr (inr a)) h = a.4 h.signature

-- a disagreement has one number
disagrees_once : (o : ObjectParts) (n m : ℕ) → Disagrees o n → Disagrees o m → n ≡ m
disagrees_once o n m (inl a) (inl b) = a.1 ∙ sym b.1
disagrees_once o n m (inl a) (inr (inl b)) = absurd (a.0 b.0)
disagrees_once o n m (inl a) (inr (inr b)) = absurd (a.0 b.0)
disagrees_once o n m (inr (inl a)) (inl b) = absurd (b.0 a.0)
disagrees_once o n m (inr (inl a)) (inr (inl b)) = a.2 ∙ sym b.2
disagrees_once o n m (inr (inl a)) (inr (inr b)) = absurd (a.1 b.1)
disagrees_once o n m (inr (inr a)) (inl b) = absurd (b.0 a.0)
disagrees_once o n m (inr (inr a)) (inr (inl b)) = absurd (b.1 a.1)
disagrees_once o n m (inr (inr a)) (inr (inr b)) = a.3 ∙ sym b.3

-- and so has a failure
fails_once : (o : ObjectParts) (n m : ℕ) → Fails o n → Fails o m → n ≡ m
fails_once o n m (inl a) (inl b) = disagrees_once o n m a b
fails_once o n m (inl a) (inr (inl b)) = absurd (disagreed o n a b.0 b.1 b.2)
fails_once o n m (inl a) (inr (inr b)) = absurd (disagreed o n a b.0 b.1 b.2)
fails_once o n m (inr (inl a)) (inl b) = absurd (disagreed o m b a.0 a.1 a.2)
fails_once o n m (inr (inl a)) (inr (inl b)) = a.4 ∙ sym b.4
fails_once o n m (inr (inl a)) (inr (inr b)) = absurd (a.3 b.3)
fails_once o n m (inr (inr a)) (inl b) = absurd (disagreed o m b a.0 a.1 a.2)
fails_once o n m (inr (inr a)) (inr (inl b)) = absurd (b.3 a.3)
fails_once o n m (inr (inr a)) (inr (inr b)) = a.5 ∙ sym b.5

-- faults of one place
faults_once : (der : List ℕ) (offset other number second : ℕ) → DerFaultAt der offset number → DerFaultAt der other second → (offset ≡ other) × (number ≡ second)
faults_once der offset other number second (inl a) (inl b) =
    let same = laws.one_fault object (last_at content_info_at) exact_object (place_of 0 der) (fault_at number offset) (fault_at second other) a b in
    (ap (λ (f : Fault). f.offset) same, ap (λ (f : Fault). f.number) same)
faults_once der offset other number second (inl a) (inr b) = absurd (spelled_apart der b.0 (fault_at number offset) b.1 a)
faults_once der offset other number second (inr a) (inl b) = absurd (spelled_apart der a.0 (fault_at second other) a.1 b)
faults_once der offset other number second (inr a) (inr b) =
    (a.3 ∙ sym b.3, fails_once a.0 number second a.2 (subst (λ (o : ObjectParts). Fails o second) (same_parts der b.0 a.0 b.1 a.1) b.2))

-- an object has no fault
object_apart : (der : List ℕ) (offset number : ℕ) (value : ObjectValue) → DerFaultAt der offset number → IsDerObject der value → ⊥
object_apart der offset number value (inl a) o = spelled_apart der o.parts (fault_at number offset) o.spelled a
object_apart der offset number value (inr a) o = fails_apart a.0 number a.2 (subst Holds (same_parts der o.parts a.0 o.spelled a.1) o.holds)

pub fault_law : OneDerFault
fault_law = (faults_once, object_apart)

pub object_law : OneDerObject
object_law der value other s t = s.is ∙ ap value_of_parts (same_parts der s.parts t.parts s.spelled t.spelled) ∙ sym t.is
