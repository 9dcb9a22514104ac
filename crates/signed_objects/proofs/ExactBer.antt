-- Reading elements in BER is exact.
use Rattle.std.proofs.Common.{◌≡◌, ℕ, zero, suc, ◌-◌, ◌%◌, ◌&&◌, not, Bool, true, false, eqb, ltb, leb, List, [], ◌∷◌, ◌++◌, length, Option, Some, None, Result, Err, refl, sym, ap, ◌∙◌, arith}
use Rattle.der_lite.specs.Place.{Place, Fault}
use Rattle.der_lite.specs.Der.{OCTET_STRING, number, tlv}
use Rattle.der_lite.specs.Grammar.{Element, last}
use Rattle.der_lite.specs.Decoding.{Read}
use Rattle.der_lite.specs.Fields.{last_at}
use Rattle.der_lite.proofs.Rules.{kept_first, err_is}
use Rattle.der_lite.proofs.Exact.{ExactElement, ExactMembers}
use Rattle.der_lite.proofs.FieldLaws.{exact_last_at}
use Rattle.signed_objects.specs.declared.form.Form.{Form}
use Rattle.signed_objects.specs.declared.form.Form.TheVariants.{Member, Piece, Der}
use Rattle.der_forms.specs.Combinators.{fault_at}
use Rattle.signed_objects.specs.Parts.{Part, octet, octets, gives, ruled, followed, with_own}
use Rattle.signed_objects.specs.PartReading.{ReadPart, octet_at, octets_at, gives_at, ruled_at, followed_at, with_own_at}
use Rattle.signed_objects.specs.Ber.{PIECES, is_piece, tag_rules, long_length, length_by, length_from, length_octets, length_rules, head, is_taken, contents, form_inside, der_tag, written, element}
use Rattle.signed_objects.specs.BerReading.{long_length_at, length_by_at, length_from_at, length_octets_at, head_at, contents_at, written_at, body_at, element_in}
use Rattle.signed_objects.proofs.ExactParts.{ExactPart, ExactIn, exact_octet, exact_octets, exact_gives, exact_ruled, exact_followed, exact_with_own, exact_closed, exact_filling}

-- ---- identifier and length

-- a length that octets give
exact_short : (bytes : List ℕ) → ExactPart (ruled ((39, leb 4294967296 (number bytes)) ∷ []) (gives (Some (number bytes)))) (ruled_at ((39, leb 4294967296 (number bytes)) ∷ []) (gives_at (Some (number bytes))))
exact_short bytes = exact_ruled ((39, leb 4294967296 (number bytes)) ∷ []) (gives (Some (number bytes))) (gives_at (Some (number bytes))) (exact_gives (Some (number bytes)))

exact_long : (count : ℕ) → ExactPart (long_length count) (long_length_at count)
exact_long count =
    let inner : List ℕ → Part (Option ℕ) = λ bytes. ruled ((39, leb 4294967296 (number bytes)) ∷ []) (gives (Some (number bytes))) in
    exact_ruled ((39, eqb count 127) ∷ []) (followed (octets count) (λ bytes. ruled ((39, leb 4294967296 (number bytes)) ∷ []) (gives (Some (number bytes)))))
    (followed_at (octets_at count) (λ bytes. ruled_at ((39, leb 4294967296 (number bytes)) ∷ []) (gives_at (Some (number bytes)))))
    (exact_followed (octets count) (octets_at count) (exact_octets count) (λ bytes. ruled ((39, leb 4294967296 (number bytes)) ∷ []) (gives (Some (number bytes)))) (λ bytes. ruled_at ((39, leb 4294967296 (number bytes)) ∷ []) (gives_at (Some (number bytes)))) exact_short)

exact_by : (a b : Bool) (first : ℕ) → ExactPart (length_by a b first) (length_by_at a b first)
exact_by true b first = exact_gives (Some first)
exact_by false true first = exact_gives None
exact_by false false first = exact_long (first - 128)

exact_length : ExactPart length_octets length_octets_at
unfolding length_octets length_octets_at
exact_length = exact_followed octet octet_at exact_octet length_from length_from_at (λ first. exact_by (ltb first 128) (eqb first 128) first)

module _ (form : Form) where
  -- the end of a head
  abbrev last_of : ℕ → Option ℕ → Part (ℕ × Option ℕ)
  last_of tag count = ruled (length_rules form tag count) (gives (tag, count))

  abbrev last_of_at : ℕ → Option ℕ → ReadPart (ℕ × Option ℕ)
  last_of_at tag count = ruled_at (length_rules form tag count) (gives_at (tag, count))

  exact_end : (tag : ℕ) (count : Option ℕ) → ExactPart (last_of tag count) (last_of_at tag count)
  exact_end tag count =
      let v : ℕ × Option ℕ = (tag, count) in
      exact_ruled (length_rules form tag count) (gives v) (gives_at v) (exact_gives v)

  -- what follows the tag
  abbrev behind_tag : ℕ → Part (ℕ × Option ℕ)
  behind_tag tag = ruled (tag_rules form tag) (followed length_octets (last_of tag))

  abbrev behind_tag_at : ℕ → ReadPart (ℕ × Option ℕ)
  behind_tag_at tag = ruled_at (tag_rules form tag) (followed_at length_octets_at (last_of_at tag))

  exact_behind_tag : (tag : ℕ) → ExactPart (behind_tag tag) (behind_tag_at tag)
  exact_behind_tag tag =
      exact_ruled (tag_rules form tag) (followed length_octets (last_of tag)) (followed_at length_octets_at (last_of_at tag))
      (exact_followed length_octets length_octets_at exact_length (last_of tag) (last_of_at tag) (exact_end tag))

  pub exact_head : ExactPart (head form) (head_at form)
  unfolding head head_at
  exact_head = exact_followed octet octet_at exact_octet behind_tag behind_tag_at exact_behind_tag

-- ---- contents, and what is written

exact_contents : (taken : Bool) (count : Option ℕ) (e : Element (List ℕ)) (read : Read (List ℕ)) → ExactIn e read → ExactPart (contents taken count e) (contents_at taken count read)
exact_contents taken None e read x = exact_closed e read x
exact_contents true (Some count) e read x = exact_octets count
exact_contents false (Some count) e read x = exact_filling e read x count

exact_written : (form : Form) (own : List ℕ) (tag : ℕ) (content : List ℕ) → ExactPart (written form own tag content) (written_at form own tag content)
exact_written Member own tag content = exact_ruled _ (gives (tlv (der_tag tag) content)) (gives_at (tlv (der_tag tag) content)) (exact_gives (tlv (der_tag tag) content))
exact_written Piece own tag content = exact_gives content
exact_written Der own tag content = exact_gives (own ++ content)

-- ---- elements

-- a number that is not 0
not_zero : (n : ℕ) → eqb n 0 ≡ false → (k : ℕ) × (n ≡ suc k)
not_zero zero h = absurd cc
not_zero (suc k) h = (k, refl)

-- the tag of a head is not 0
head_begins : (form : Form) (v : ℕ × Option ℕ) (front : List ℕ) → (head form).Spells v front → (first : ℕ) × (more : List ℕ) × (front ≡ suc first ∷ more)
unfolding head
head_begins form v front s =
    let tag = s.0 in
    let piece : List (ℕ × Bool) = (38, is_piece form && not (eqb tag OCTET_STRING) && not (eqb tag PIECES)) ∷ [] in
    let k = kept_first 36 (eqb (tag % 32) 31) ((37, eqb tag 0) ∷ piece) s.5.0 in
    let n = not_zero tag (kept_first 37 (eqb tag 0) piece k.1).0 in
    (n.0, s.2, s.3.parts ∙ ap (λ (l : List ℕ). l ++ s.2) s.4 ∙ ap (λ (t : ℕ). t ∷ s.2) n.1)

module _ (levels : ℕ) (form : Form) (inside : (g : Form) → ExactIn (element levels g) (element_in levels g)) where
  -- the contents of an element, and what is written
  body : List ℕ × (ℕ × Option ℕ) → Part (List ℕ)
  body h = followed (contents (is_taken form h.1.0) h.1.1 (element levels (form_inside (15 - levels) form h.1.0))) (written form h.0 h.1.0)

  body_in : List ℕ × (ℕ × Option ℕ) → ℕ → Place → Result (List ℕ × Place) Fault
  body_in h = body_at (element_in levels (form_inside (15 - levels) form h.1.0)) form h

  exact_body : (h : List ℕ × (ℕ × Option ℕ)) → ExactPart (body h) (body_in h)
  unfolding body body_in body_at
  exact_body h =
      let g = form_inside (15 - levels) form h.1.0 in
      exact_followed (contents (is_taken form h.1.0) h.1.1 (element levels g)) (contents_at (is_taken form h.1.0) h.1.1 (element_in levels g)) (exact_contents (is_taken form h.1.0) h.1.1 (element levels g) (element_in levels g) (inside g))
      (written form h.0 h.1.0) (written_at form h.0 h.1.0) (exact_written form h.0 h.1.0)

  exact_step : ExactIn (element (suc levels) form) (element_in (suc levels) form)
  unfolding element element_in body body_in
  exact_step =
      let x = exact_followed (with_own (head form)) (with_own_at (head_at form)) (exact_with_own (head form) (head_at form) (exact_head form)) body body_in exact_body in
      record {
        takes = λ p v q d. x.takes p.at p v q d;
        again = λ here v front rest s. x.again here here v front rest s;
        faults = λ p f d. x.faults p.at p f d;
        refuses = λ p f d. x.refuses p.at p f d;
        begins = λ v front s.
            let h = head_begins form s.0.1 s.1 s.4.1 in
            (h.0, h.1 ++ s.2, s.3.parts ∙ ap (λ (l : List ℕ). l ++ s.2) h.2);
      }

pub exact_in : (levels : ℕ) (form : Form) → ExactIn (element levels form) (element_in levels form)
unfolding element element_in
exact_in zero form = record {
  takes = λ p v q d. absurd cc;
  again = λ here v front rest s. absurd s;
  faults = λ p f d. sym (err_is {A = List ℕ × Place} (fault_at 43 p.at) f d);
  refuses = λ p f d. ap (λ (g : Fault). Err g) (sym d);
  begins = λ v front s. absurd s;
}
exact_in (suc levels) form = exact_step levels form (λ g. exact_in levels g)

-- the element of a file
pub exact_one : ExactElement (element 16 Member) (element_in 16 Member)
exact_one =
    let x = exact_in 16 Member in
    record {
      takes = λ p v q bytes d. x.takes p v q d;
      again = λ at v front rest s. x.again at v front rest s;
      faults = λ p f bytes d. x.faults p f d;
      refuses = λ p f d. x.refuses p f d;
      some = λ v front s. let b = x.begins v front s in omega (arith, ap (λ (l : List ℕ). length l) b.2);
    }

-- and the end
pub exact_file : ExactMembers (last (element 16 Member)) (last_at (element_in 16 Member))
exact_file = exact_last_at (element 16 Member) (element_in 16 Member) exact_one
