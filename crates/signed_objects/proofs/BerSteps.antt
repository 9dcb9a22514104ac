-- What the functions that read BER give.
use Rattle.std.proofs.Common.{◌≡◌, ℕ, ◌<◌, ◌↔◌, eqb, Bool, true, false, List, [], ◌∷◌, length, Some, None, Result, Ok, Err, refl, sym, ap, subst, ◌∙◌, arith, inl, inr}
use lib.Pointwise.{pointwise, bytes_decides}
use Rattle.std.specs.Prelude.{IsTrue}
use Rattle.std.specs.Bool.{Decides}
use Rattle.std.proofs.lemmas.Bool.{lt-leb, ne_eqb}
use Rattle.der_lite.specs.Place.{Place, Fault, place_of}
use Rattle.der_lite.specs.Der.{IsBytes, number}
use Rattle.der_lite.specs.DerReading.{◌>>=◌, end_at}
use Rattle.der_lite.specs.Decoding.{Read}
use Rattle.signed_objects.specs.declared.form.Form.TheVariants.{Member}
use Rattle.signed_objects.specs.declared.fault.ObjectFault.{ObjectFault}
use Rattle.signed_objects.specs.declared.fault.ObjectFault.TheVariants.{At, Memory}
use Rattle.signed_objects.specs.declared.fault.CmsFault.{CmsFault}
use Rattle.der_forms.specs.Combinators.{fault_at}
use Rattle.signed_objects.specs.Faults.{kind_number, cms_fault_of}
use Rattle.signed_objects.specs.Parts.{is_empty, is_closed}
use Rattle.signed_objects.specs.PartReading.{octets_at, up_to}
use Rattle.signed_objects.specs.BerReading.{length_in, contents_at, element_in, all_in, GivesOctets}
use Rattle.signed_objects.specs.Objects.{ObjectValue, IsDerObject, ReadsDer}
use Rattle.signed_objects.specs.BerObjects.{SameContent, BerFaultAt, ReadsBer, IsObject, ReadsObject}
use Rattle.signed_objects.proofs.BerLaws.{content_read, ber_fault_read, content_law}

-- ---- lengths

-- a number that is in range
pub in_range : (bytes : List ℕ) (n : ℕ) → n ≡ number bytes → n < 4294967296 → Some n ≡ length_in bytes
in_range bytes n e low = rw (e, lt-leb 4294967296 (number bytes) (subst (λ (k : ℕ). k < 4294967296) e low)) refl

-- ---- contents

module _ (e : Read (List ℕ)) (at : ℕ) (p : Place) where
  pub closed_read : (taken : Bool) (q r : Place) (v two : List ℕ) → up_to is_closed e p ≡ Ok (v, q) → octets_at 2 at q ≡ Ok (two, r) → contents_at taken None e at p ≡ Ok (v, r)
  closed_read true q r v two a b = rw (a, b) refl
  closed_read false q r v two a b = rw (a, b) refl

  pub closed_wrong : (taken : Bool) (f : Fault) → up_to is_closed e p ≡ Err f → contents_at taken None e at p ≡ Err f
  closed_wrong true f a = rw a refl
  closed_wrong false f a = rw a refl

  pub unclosed : (taken : Bool) (q : Place) (v : List ℕ) (f : Fault) → up_to is_closed e p ≡ Ok (v, q) → octets_at 2 at q ≡ Err f → contents_at taken None e at p ≡ Err f
  unclosed true q v f a b = rw (a, b) refl
  unclosed false q v f a b = rw (a, b) refl

  pub cut_short : (taken : Bool) (count : ℕ) (f : Fault) → octets_at count at p ≡ Err f → contents_at taken (Some count) e at p ≡ Err f
  cut_short true count f a = a
  cut_short false count f a = rw a refl

  pub taken_read : (taken : Bool) (count : ℕ) (v : List ℕ) (q : Place) → taken ≡ true → octets_at count at p ≡ Ok (v, q) → contents_at taken (Some count) e at p ≡ Ok (v, q)
  taken_read true count v q t a = a
  taken_read false count v q t a = absurd cc

  pub filled_read : (taken : Bool) (count : ℕ) (o : List ℕ) (q r : Place) (v : List ℕ) → taken ≡ false → octets_at count at p ≡ Ok (o, q) → up_to is_empty e (place_of p.at o) ≡ Ok (v, r) → contents_at taken (Some count) e at p ≡ Ok (v, q)
  filled_read true count o q r v t a b = absurd cc
  filled_read false count o q r v t a b = rw (a, b) refl

  pub filled_wrong : (taken : Bool) (count : ℕ) (o : List ℕ) (q : Place) (f : Fault) → taken ≡ false → octets_at count at p ≡ Ok (o, q) → up_to is_empty e (place_of p.at o) ≡ Err f → contents_at taken (Some count) e at p ≡ Err f
  filled_wrong true count o q f t a b = absurd cc
  filled_wrong false count o q f t a b = rw (a, b) refl

-- ---- a file

-- what is behind the element of a file
abbrev end_of_file : List ℕ × Place → Result (List ℕ) Fault
end_of_file x = end_at x.1 >>= λ _. Ok x.0

abbrev value_after : List ℕ → Result (Unit {0}) Fault → Result (List ℕ) Fault
value_after v r = r >>= λ _. Ok v

at_end : (l : List ℕ) (k : ℕ) → is_empty l ≡ true → end_at (place_of k l) ≡ Ok tt
unfolding end_at
at_end [] k n = refl
at_end (first ∷ more) k n = absurd cc

more_here : (l : List ℕ) (k : ℕ) → is_empty l ≡ false → end_at (place_of k l) ≡ Err (fault_at 5 k)
unfolding end_at
more_here [] k n = absurd cc
more_here (first ∷ more) k n =
    let some : eqb (length (first ∷ more)) 0 ≡ false = ne_eqb (length (first ∷ more)) 0 (λ e. omega (arith, e)) in
    rw some refl

module _ (bytes : List ℕ) where
  whole_ok : (v : List ℕ) (q : Place) → element_in 16 Member (place_of 0 bytes) ≡ Ok (v, q) → is_empty q.rest ≡ true → all_in bytes ≡ Ok v
  unfolding all_in
  whole_ok v q e n = ap (λ (r : Result (List ℕ × Place) Fault). r >>= end_of_file) e ∙ ap (value_after v) (at_end q.rest q.at n)

  whole_trails : (v : List ℕ) (q : Place) → element_in 16 Member (place_of 0 bytes) ≡ Ok (v, q) → is_empty q.rest ≡ false → all_in bytes ≡ Err (fault_at 5 q.at)
  unfolding all_in
  whole_trails v q e n = ap (λ (r : Result (List ℕ × Place) Fault). r >>= end_of_file) e ∙ ap (value_after v) (more_here q.rest q.at n)

  whole_wrong : (f : Fault) → element_in 16 Member (place_of 0 bytes) ≡ Err f → all_in bytes ≡ Err f
  unfolding all_in
  whole_wrong f e = ap (λ (r : Result (List ℕ × Place) Fault). r >>= end_of_file) e

  -- the element of a file that is all
  pub file_read : (start : Place) (v : List ℕ) (q : Place) → start ≡ place_of 0 bytes → IsBytes bytes → element_in 16 Member start ≡ Ok (v, q) → is_empty q.rest ≡ true → SameContent bytes v
  file_read start v q begun are e n = content_read bytes v are (whole_ok v q (subst (λ (p : Place). element_in 16 Member p ≡ Ok (v, q)) begun e) n)

  -- bytes behind it
  pub file_trails : (start : Place) (v : List ℕ) (q : Place) (fault : CmsFault) → start ≡ place_of 0 bytes → IsBytes bytes → element_in 16 Member start ≡ Ok (v, q) → is_empty q.rest ≡ false → cms_fault_of fault ≡ fault_at 5 q.at → BerFaultAt bytes fault.offset (kind_number fault.kind)
  file_trails start v q fault begun are e n is = ber_fault_read bytes fault are (whole_trails v q (subst (λ (p : Place). element_in 16 Member p ≡ Ok (v, q)) begun e) n ∙ ap (λ (f : Fault). Err f) (sym is))

  -- another fault
  pub file_wrong : {X Y : Type 0} (view : X → List ℕ) (other : Y → List ℕ) (fault : ObjectFault) (start q : Place) → start ≡ place_of 0 bytes → IsBytes bytes → GivesOctets view (Err fault) q (element_in 16 Member start) → ReadsBer other (Err fault) bytes
  file_wrong view other (At fault) start q begun are g = ber_fault_read bytes fault are (whole_wrong (cms_fault_of fault) (subst (λ (p : Place). element_in 16 Member p ≡ Err (cms_fault_of fault)) begun g))
  file_wrong view other Memory start q begun are g = tt

  -- ---- an object of a file

  -- what cannot be written anew is no object
  pub no_content : {X Y : Type 0} (view : X → List ℕ) (other : Y → ObjectValue) (fault : ObjectFault) → ReadsBer view (Err fault) bytes → ReadsObject other (Err fault) bytes
  no_content view other (At fault) h = inl h
  no_content view other Memory h = tt

  -- nor is what is none in DER
  pub no_object : {X Y : Type 0} (view : X → ObjectValue) (other : Y → ObjectValue) (der : List ℕ) (fault : ObjectFault) → SameContent bytes der → ReadsDer view (Err fault) der → ReadsObject other (Err fault) bytes
  no_object view other der (At fault) same h = inr (der, same, h)
  no_object view other der Memory same h = tt

  -- an object
  pub object_of_file : (der : List ℕ) (value own : ObjectValue) → SameContent bytes der → IsDerObject der value → own ≡ value → IsObject bytes own
  object_of_file der value own same h e = record { der = der; same = same; object = subst (IsDerObject der) (sym e) h }

  -- the bytes are in DER exactly if DER makes them of themselves
  pub in_der : (der : List ℕ) → SameContent bytes der → (der ≡ bytes) ↔ SameContent bytes bytes
  in_der der same = ((λ e. subst (SameContent bytes) e same), (λ h. content_law bytes der bytes same h))

  -- what is noted of a file: whether it is in DER
  pub noted : (is_der same : Bool) (der items : List ℕ) → SameContent bytes der → items ≡ der → is_der ≡ same → same ≡ pointwise eqb items bytes → IsTrue is_der ↔ SameContent bytes bytes
  noted is_der same der items h i e f =
      let d : Decides (pointwise eqb items bytes) (items ≡ bytes) = bytes_decides items bytes in
      ((λ t. (in_der der h).0 (sym i ∙ d.0 (sym (e ∙ f) ∙ t))), (λ s. e ∙ f ∙ d.1 (i ∙ (in_der der h).1 s)))
