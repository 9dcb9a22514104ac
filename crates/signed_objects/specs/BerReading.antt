-- Reading elements in BER.
use Rattle.std.specs.Prelude.{◌≡◌, ℕ, zero, suc, ◌-◌, ◌==◌, Bool, true, false, nat_lt, nat_le, if◌then◌else◌, List, ◌++◌, [], ◌∷◌, length, Option, Some, None, Result, Ok, Err, ⊤}
use Rattle.der_lite.specs.Place.{Place, Fault, place_of}
use Rattle.der_lite.specs.Der.{number, tlv}
use Rattle.der_lite.specs.Decoding.{Read}
use Rattle.der_lite.specs.Fields.{last_at}
use Rattle.signed_objects.specs.declared.form.Form.{Form}
use Rattle.signed_objects.specs.declared.form.Form.TheVariants.{Member, Piece, Der}
use Rattle.signed_objects.specs.declared.fault.ObjectFault.{ObjectFault}
use Rattle.signed_objects.specs.declared.fault.ObjectFault.TheVariants.{At, Memory}
use Rattle.der_forms.specs.Combinators.{fault_at}
use Rattle.signed_objects.specs.Faults.{cms_fault_of}
use Rattle.signed_objects.specs.PartReading.{ReadPart, octet_at, octets_at, gives_at, ruled_at, followed_at, with_own_at, filling_at, closed_at}
use Rattle.signed_objects.specs.Ber.{tag_rules, length_rules, is_taken, form_inside, der_tag}

-- the length that octets give, if no content is longer
abbrev pub length_in : List ℕ → Option ℕ
length_in bytes = if nat_le 4294967296 (number bytes) then None else Some (number bytes)

abbrev pub long_length_at : ℕ → ReadPart (Option ℕ)
long_length_at count =
    ruled_at ((39, count == 127) ∷ []) (followed_at (octets_at count) (λ bytes. ruled_at ((39, nat_le 4294967296 (number bytes)) ∷ []) (gives_at (Some (number bytes)))))

abbrev pub length_by_at : Bool → Bool → ℕ → ReadPart (Option ℕ)
length_by_at true is_open first = gives_at (Some first)
length_by_at false true first = gives_at None
length_by_at false false first = long_length_at (first - 128)

abbrev pub length_from_at : ℕ → ReadPart (Option ℕ)
length_from_at first = length_by_at (nat_lt first 128) (first == 128) first

unfoldable pub length_octets_at : ReadPart (Option ℕ)
length_octets_at = followed_at octet_at length_from_at

unfoldable pub head_at : Form → ReadPart (ℕ × Option ℕ)
head_at form = followed_at octet_at (λ tag. ruled_at (tag_rules form tag) (followed_at length_octets_at (λ count. ruled_at (length_rules form tag count) (gives_at (tag, count)))))

abbrev pub contents_at : Bool → Option ℕ → Read (List ℕ) → ReadPart (List ℕ)
contents_at taken None e = closed_at e
contents_at true (Some count) e = octets_at count
contents_at false (Some count) e = filling_at count e

abbrev pub written_at : Form → List ℕ → ℕ → List ℕ → ReadPart (List ℕ)
written_at Member own tag content = ruled_at ((42, nat_le 4294967296 (length content)) ∷ []) (gives_at (tlv (der_tag tag) content))
written_at Piece own tag content = gives_at content
written_at Der own tag content = gives_at (own ++ content)

-- the contents of an element, and what is written
unfoldable pub body_at : Read (List ℕ) → Form → List ℕ × (ℕ × Option ℕ) → ReadPart (List ℕ)
body_at e form h = followed_at (contents_at (is_taken form h.1.0) h.1.1 e) (written_at form h.0 h.1.0)

unfoldable pub element_in : ℕ → Form → Read (List ℕ)
element_in zero form p = Err (fault_at 43 p.at)
element_in (suc levels) form p =
    followed_at (with_own_at (head_at form)) (λ h. body_at (element_in levels (form_inside (15 - levels) form h.1.0)) form h) p.at p

-- the one element that bytes are
unfoldable pub all_in : List ℕ → Result (List ℕ) Fault
all_in bytes = last_at (element_in 16 Member) (place_of 0 bytes)

-- What was read and the new place, or the first fault. Memory may run out.
abbrev pub GivesOctets : {X : Type 0} → (X → List ℕ) → Result X ObjectFault → Place → Result (List ℕ × Place) Fault → Type 0
GivesOctets view (Ok x) new read = read ≡ Ok (view x, new)
GivesOctets view (Err (At fault)) new read = read ≡ Err (cms_fault_of fault)
GivesOctets view (Err Memory) new read = ⊤
