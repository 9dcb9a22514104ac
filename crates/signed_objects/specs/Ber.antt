-- Elements in BER (X.690 section 8.1) with tags of one octet, each with what is written for it. That has the same content, with lengths in the
-- fewest octets and OCTET STRINGs in one piece, as in DER (section 10).
use Rattle.std.specs.Prelude.{◌≡◌, ℕ, zero, suc, ◌-◌, ◌/◌, ◌%◌, ◌==◌, ◌&&◌, ◌||◌, Bool, true, false, not, nat_lt, nat_le, if◌then◌else◌, List, [], ◌∷◌, ◌++◌, length, Option, Some, None}
use Rattle.der_lite.specs.Der.{OCTET_STRING, EXPLICIT_0, number, tlv}
use Rattle.der_lite.specs.Grammar.{Element}
use Rattle.signed_objects.specs.declared.form.Form.{Form}
use Rattle.signed_objects.specs.declared.form.Form.TheVariants.{Member, Piece, Der}
use Rattle.der_forms.specs.Combinators.{fault_at}
use Rattle.signed_objects.specs.Parts.{Part, octet, octets, gives, ruled, followed, with_own, whole, filling, closed}

-- X.690 section 8.7.3: the tag of an OCTET STRING in pieces
abbrev pub PIECES : ℕ
PIECES = 36

-- X.690 section 8.1.2.5: the element is primitive
abbrev pub is_primitive : ℕ → Bool
is_primitive tag = tag / 32 % 2 == 0

abbrev pub is_piece : Form → Bool
is_piece Piece = true
is_piece _ = false

abbrev pub is_der : Form → Bool
is_der Der = true
is_der _ = false

-- The identifier is one octet (X.690 section 8.1.2.2), and not that of end-of-contents octets. A piece is an OCTET STRING (8.7.3.2).
abbrev pub tag_rules : Form → ℕ → List (ℕ × Bool)
tag_rules form tag = (36, tag % 32 == 31) ∷ (37, tag == 0) ∷ (38, is_piece form && not (tag == OCTET_STRING) && not (tag == PIECES)) ∷ []

-- The long form of a length, after its first octet (X.690 section 8.1.3.5): 1 to 126 octets, which may begin with zeros. No content has
-- 2^32 octets.
abbrev pub long_length : ℕ → Part (Option ℕ)
long_length count =
    ruled ((39, count == 127) ∷ []) (followed (octets count) (λ bytes. ruled ((39, nat_le 4294967296 (number bytes)) ∷ []) (gives (Some (number bytes)))))

-- which form it is
abbrev pub length_by : Bool → Bool → ℕ → Part (Option ℕ)
length_by true is_open first = gives (Some first)
length_by false true first = gives None
length_by false false first = long_length (first - 128)

-- the length that a first octet gives: in the short form (X.690 section 8.1.3.4), none in the indefinite form (8.1.3.6), or in the long form
abbrev pub length_from : ℕ → Part (Option ℕ)
length_from first = length_by (nat_lt first 128) (first == 128) first

-- X.690 section 8.1.3: the length octets
unfoldable pub length_octets : Part (Option ℕ)
length_octets = followed octet length_from

-- The indefinite form is that of a constructed element (X.690 section 8.1.3.2), and is not in DER (10.1).
abbrev pub length_rules : Form → ℕ → Option ℕ → List (ℕ × Bool)
length_rules form tag (Some count) = []
length_rules form tag None = (40, is_primitive tag) ∷ (41, is_der form) ∷ []

-- identifier and length
unfoldable pub head : Form → Part (ℕ × Option ℕ)
head form = followed octet (λ tag. ruled (tag_rules form tag) (followed length_octets (λ count. ruled (length_rules form tag count) (gives (tag, count)))))

-- The contents stay as they are: those of a primitive element, and of one that is in DER.
abbrev pub is_taken : Form → ℕ → Bool
is_taken form tag = is_der form || is_primitive tag

-- the contents
abbrev pub contents : Bool → Option ℕ → Element (List ℕ) → Part (List ℕ)
contents taken None e = closed e
contents true (Some count) e = octets count
contents false (Some count) e = filling count e

-- Inside SignedData [0] is certificates at depth 3, and signedAttrs at depth 5. What they hold is copied: signed attributes are in DER even in
-- an object in BER (RFC 5652 section 5.3).
abbrev pub holds_der : ℕ → ℕ → Bool
holds_der depth tag = tag == EXPLICIT_0 && (depth == 3 || depth == 5)

-- what the elements inside are
abbrev pub form_inside : ℕ → Form → ℕ → Form
form_inside depth Piece tag = Piece
form_inside depth Der tag = Der
form_inside depth Member tag = if tag == PIECES then Piece else if holds_der depth tag then Der else Member

-- An OCTET STRING in pieces becomes one that is primitive.
abbrev pub der_tag : ℕ → ℕ
der_tag tag = if tag == PIECES then OCTET_STRING else tag

-- What is written: an element in DER, the octets of a piece, or an element in DER unchanged.
abbrev pub written : Form → List ℕ → ℕ → List ℕ → Part (List ℕ)
written Member own tag content = ruled ((42, nat_le 4294967296 (length content)) ∷ []) (gives (tlv (der_tag tag) content))
written Piece own tag content = gives content
written Der own tag content = gives (own ++ content)

-- An element, in which this many levels are allowed, itself among them: 16 in all.
unfoldable pub element : ℕ → Form → Element (List ℕ)
element zero form = record { Spells = λ v bytes. ⊥; FaultAt = λ p fault. fault ≡ fault_at 43 p.at }
element (suc levels) form = whole (followed (with_own (head form)) (λ h. followed (contents (is_taken form h.1.0) h.1.1 (element levels (form_inside (15 - levels) form h.1.0))) (written form h.0 h.1.0)))
