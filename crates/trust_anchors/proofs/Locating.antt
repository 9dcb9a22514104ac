-- A locator, or its first fault, and never both.
use Rattle.std.proofs.Common.{◌≡◌, ◌≢◌, ℕ, ◌+◌, ◌≤◌, List, [], length, refl, sym, ap, subst, ◌∙◌, Ok, Err, arith}
use Rattle.base64.specs.Engines.{standard}
use Rattle.base64.specs.GeneralPurpose.{IsBytes, decode_of, encode_of}
use Rattle.base64.proofs.EngineFacts.{decode_of-encode_of}
use Rattle.trust_anchors.specs.declared.fault.TalFaultKind.{TalFaultKind}
use Rattle.trust_anchors.specs.declared.fault.TalFaultKind.TheVariants.{NoBreak, NoUri, Uri, Base64, Key}
use Rattle.trust_anchors.specs.declared.fault.TalFault.{TalFault}
use Rattle.trust_anchors.specs.declared.fault.TalFault.TheVariants.{At, Memory}
use Rattle.trust_anchors.specs.Lines.{IsLine, Section, Joins}
use Rattle.trust_anchors.specs.Keys.{base64, IsKeyInfo, IsNoBase64, IsNoKeyText, ReadsKey}
use Rattle.trust_anchors.specs.Locators.{Tal, IsComment, IsTaUri, Begins, Ends, Spells, Wrong, FaultAt, ReadsTal, no_break, no_uri, bad_uri, bad_base64, bad_key}
use Rattle.trust_anchors.specs.Laws.{OneLocator}
use Rattle.trust_anchors.proofs.Cutting.{lines_shorter}
use Rattle.trust_anchors.proofs.Framing.{one_key}
use Rattle.trust_anchors.proofs.Once.{same_line, has_break, same_section, same_text}

-- base64 has one value
one_octets : (a b : List ℕ) → IsBytes a → IsBytes b → base64 a ≡ base64 b → a ≡ b
one_octets a b x y e =
    let p : decode_of standard (encode_of standard a) ≡ Ok a = decode_of-encode_of standard a refl x in
    let q : decode_of standard (encode_of standard b) ≡ Ok b = decode_of-encode_of standard b refl y in
    let r = sym p ∙ ap (decode_of standard) e ∙ q in cc

same_begins : (c d u v : List (List ℕ)) (r s bytes : List ℕ) → Begins c u r bytes → Begins d v s bytes → (c ≡ d) × (u ≡ v) × (r ≡ s)
same_begins c d u v r s bytes x y =
    let a = same_section IsComment c d x.between y.between bytes x.commented y.commented in
    let b = same_section IsTaUri u v r s y.between (subst (λ z. Section IsTaUri u r z) a.1 x.located) y.located in
    (a.0, b.0, b.1)

-- what follows the empty line
same_end : (r a b x y : List ℕ) → IsLine [] a r → IsLine [] b r → Joins x a → Joins y b → x ≡ y
same_end r a b x y i j t u = same_text x y b (subst (λ z. Joins x z) (same_line [] [] a b r i j).1 t) u

-- an empty line is no other one
not_empty : (r a b line : List ℕ) → IsLine [] a r → IsLine line b r → line ≢ [] → ⊥
not_empty r a b line i j some = some (sym (same_line [] line a b r i j).0)

-- a text is base64 of a key, of something else, or of nothing
not_both : (x y : List ℕ) → x ≡ y → IsNoBase64 x → IsNoKeyText y → ⊥
not_both x y e none k = none k.octets k.bytes (e ∙ k.encoded)

one_wrong : (u : List (List ℕ)) (r : List ℕ) (f g : TalFaultKind) (m n : ℕ) → Wrong u r f m → Wrong u r g n → (f ≡ g) × (m ≡ n)
one_wrong u r f g m n (no_break a) (no_break b) = (refl, refl)
one_wrong u r f g m n (no_break a) (no_uri t e i) = absurd (has_break [] t r i a)
one_wrong u r f g m n (no_break a) (bad_uri l t i s) = absurd (has_break l t r i a)
one_wrong u r f g m n (no_break a) (bad_base64 t x s i j k) = absurd (has_break [] t r i a)
one_wrong u r f g m n (no_break a) (bad_key t x s i j k) = absurd (has_break [] t r i a)
one_wrong u r f g m n (no_uri t e i) (no_break a) = absurd (has_break [] t r i a)
one_wrong u r f g m n (no_uri t e i) (no_uri t' e' i') = (refl, refl)
one_wrong u r f g m n (no_uri t e i) (bad_uri l t' i' s) = absurd (not_empty r t t' l i i' s)
one_wrong u r f g m n (no_uri t e i) (bad_base64 t' x s i' j k) = absurd (s e)
one_wrong u r f g m n (no_uri t e i) (bad_key t' x s i' j k) = absurd (s e)
one_wrong u r f g m n (bad_uri l t i s) (no_break a) = absurd (has_break l t r i a)
one_wrong u r f g m n (bad_uri l t i s) (no_uri t' e i') = absurd (not_empty r t' t l i' i s)
one_wrong u r f g m n (bad_uri l t i s) (bad_uri l' t' i' s') = (refl, refl)
one_wrong u r f g m n (bad_uri l t i s) (bad_base64 t' x s' i' j k) = absurd (not_empty r t' t l i' i s)
one_wrong u r f g m n (bad_uri l t i s) (bad_key t' x s' i' j k) = absurd (not_empty r t' t l i' i s)
one_wrong u r f g m n (bad_base64 t x s i j k) (no_break a) = absurd (has_break [] t r i a)
one_wrong u r f g m n (bad_base64 t x s i j k) (no_uri t' e i') = absurd (s e)
one_wrong u r f g m n (bad_base64 t x s i j k) (bad_uri l t' i' s') = absurd (not_empty r t t' l i i' s')
one_wrong u r f g m n (bad_base64 t x s i j k) (bad_base64 t' x' s' i' j' k') = (refl, refl)
one_wrong u r f g m n (bad_base64 t x s i j k) (bad_key t' x' s' i' j' k') = absurd (not_both x x' (same_end r t t' x x' i i' j j') k k')
one_wrong u r f g m n (bad_key t x s i j k) (no_break a) = absurd (has_break [] t r i a)
one_wrong u r f g m n (bad_key t x s i j k) (no_uri t' e i') = absurd (s e)
one_wrong u r f g m n (bad_key t x s i j k) (bad_uri l t' i' s') = absurd (not_empty r t t' l i i' s')
one_wrong u r f g m n (bad_key t x s i j k) (bad_base64 t' x' s' i' j' k') = absurd (not_both x' x (same_end r t' t x' x i' i j' j) k' k)
one_wrong u r f g m n (bad_key t x s i j k) (bad_key t' x' s' i' j' k') = (refl, refl)

not_wrong : (tal : Tal) (r : List ℕ) (f : TalFaultKind) (n : ℕ) → Ends tal r → Wrong tal.uris r f n → ⊥
not_wrong tal r f n x (no_break a) = has_break [] x.after r x.empty a
not_wrong tal r f n x (no_uri t e i) = x.some e
not_wrong tal r f n x (bad_uri l t i s) = not_empty r x.after t l x.empty i s
not_wrong tal r f n x (bad_base64 t y s i j k) = k x.key.octets x.key.bytes (sym (same_end r x.after t x.text y x.empty i x.joined j) ∙ x.key.encoded)
not_wrong tal r f n x (bad_key t y s i j k) =
    let e : base64 k.octets ≡ base64 x.key.octets = sym k.encoded ∙ sym (same_end r x.after t x.text y x.empty i x.joined j) ∙ x.key.encoded in
    k.no_key tal.modulus (subst (λ o. IsKeyInfo tal.modulus o) (sym (one_octets k.octets x.key.octets k.bytes x.key.bytes e)) x.key.key)

same_modulus : (v w : Tal) (r : List ℕ) → Ends v r → Ends w r → v.modulus ≡ w.modulus
same_modulus v w r x y =
    let e : base64 x.key.octets ≡ base64 y.key.octets = sym x.key.encoded ∙ same_end r x.after y.after x.text y.text x.empty y.empty x.joined y.joined ∙ y.key.encoded in
    one_key v.modulus w.modulus y.key.octets (subst (λ o. IsKeyInfo v.modulus o) (one_octets x.key.octets y.key.octets x.key.bytes y.key.bytes e) x.key.key) y.key.key

abbrev locator : List (List ℕ) → List ℕ → Tal
locator uris modulus = record { uris = uris; modulus = modulus }

one_value : (bytes : List ℕ) (v w : Tal) → Spells v bytes → Spells w bytes → v ≡ w
one_value bytes v w x y =
    let s = same_begins x.comments y.comments v.uris w.uris x.rest y.rest bytes x.begins y.begins in
    let m : v.modulus ≡ w.modulus = same_modulus v w y.rest (subst (λ r. Ends v r) s.2 x.ends) y.ends in
    ap (λ u. locator u v.modulus) s.1 ∙ ap (λ k. locator w.uris k) m

one_fault : (bytes : List ℕ) (f g : TalFaultKind) (m n : ℕ) → FaultAt bytes f m → FaultAt bytes g n → (f ≡ g) × (m ≡ n)
one_fault bytes f g m n x y =
    let s = same_begins x.comments y.comments x.uris y.uris x.rest y.rest bytes x.begins y.begins in
    let z : Wrong y.uris y.rest f x.further = subst (λ u. Wrong u y.rest f x.further) s.1 (subst (λ r. Wrong x.uris r f x.further) s.2 x.wrong) in
    let o = one_wrong y.uris y.rest f g x.further y.further z y.wrong in
    let a : length x.comments ≡ length y.comments = ap length s.0 in
    let b : length x.uris ≡ length y.uris = ap length s.1 in
    (o.0, omega (arith, x.line_is, y.line_is, a, b, o.1))

apart : (bytes : List ℕ) (v : Tal) (f : TalFaultKind) (n : ℕ) → Spells v bytes → FaultAt bytes f n → ⊥
apart bytes v f n x y =
    let s = same_begins x.comments y.comments v.uris y.uris x.rest y.rest bytes x.begins y.begins in
    not_wrong v x.rest f y.further x.ends (subst (λ u. Wrong u x.rest f y.further) (sym s.1) (subst (λ r. Wrong y.uris r f y.further) (sym s.2) y.wrong))

pub locator_law : OneLocator
locator_law = record { one_value = one_value; one_fault = one_fault; apart = apart }

-- What is wrong is the first fault.
pub fault_at : (bytes rest : List ℕ) (comments uris : List (List ℕ)) (kind : TalFaultKind) (further count found line : ℕ) → Begins comments uris rest bytes
    → Wrong uris rest kind further → length comments ≡ count → length uris ≡ found → line ≡ count + found + further → FaultAt bytes kind line
fault_at bytes rest comments uris kind further count found line begins wrong counted sized is = record {
  comments = comments;
  uris = uris;
  rest = rest;
  begins = begins;
  further = further;
  wrong = wrong;
  line_is = omega (arith, counted, sized, is);
}

pub begins_with : (bytes between rest : List ℕ) (comments uris : List (List ℕ)) → Section IsComment comments between bytes → Section IsTaUri uris rest between
    → Begins comments uris rest bytes
begins_with bytes between rest comments uris a b = record { between = between; commented = a; located = b }

-- a comment or a URI takes at least a byte
pub begins_shorter : (bytes rest : List ℕ) (comments uris : List (List ℕ)) → Begins comments uris rest bytes → length comments + length uris + length rest ≤ length bytes
begins_shorter bytes rest comments uris b =
    omega (arith, lines_shorter IsComment comments b.between bytes b.commented.all, lines_shorter IsTaUri uris rest b.between b.located.all)

-- what is wrong with the key
pub key_fault : {X : Type 0} (view : X → List ℕ) (bytes rest after text : List ℕ) (comments uris : List (List ℕ)) (count found line : ℕ) (error : TalFault) → Begins comments uris rest bytes → uris ≢ []
    → IsLine [] after rest → Joins text after → ReadsKey view line text (Err error) → length comments ≡ count → length uris ≡ found
    → line ≡ count + found + 2 → ReadsTal {X = Tal} (λ t. t) bytes (Err error)
key_fault view bytes rest after text comments uris count found line (At Base64 at) begins some empty joins reads counted sized is =
    fault_at bytes rest comments uris Base64 2 count found at begins (bad_base64 after text some empty joins reads.1) counted sized (reads.0 ∙ is)
key_fault view bytes rest after text comments uris count found line (At Key at) begins some empty joins reads counted sized is =
    fault_at bytes rest comments uris Key 2 count found at begins (bad_key after text some empty joins reads.1) counted sized (reads.0 ∙ is)
key_fault view bytes rest after text comments uris count found line (At NoBreak at) begins some empty joins reads counted sized is = absurd reads
key_fault view bytes rest after text comments uris count found line (At NoUri at) begins some empty joins reads counted sized is = absurd reads
key_fault view bytes rest after text comments uris count found line (At Uri at) begins some empty joins reads counted sized is = absurd reads
key_fault view bytes rest after text comments uris count found line Memory begins some empty joins reads counted sized is = tt
