-- Attributes and extensions that come one after the other.
use Rattle.std.proofs.Common.{◌≡◌, ◌≢◌, ◌<◌, ℕ, Bool, List, [], ◌∷◌, ◌++◌, length, Option, Some, None, is_some, option_map, Ok, Err, refl, sym, ap, ◌∙◌, arith}
use Rattle.std.specs.Option.{option_or}
use Rattle.der_lite.specs.Place.{Place, Fault}
use Rattle.der_lite.specs.DerReading.{◌>>=◌, element_at}
use Rattle.der_lite.specs.Decoding.{ReadContent, read_constructed, read_member, read_each}
use Rattle.der_lite.specs.Fields.{last_at}
use Rattle.der_lite.proofs.FieldLaws.{element_shorter}
use Rattle.der_lite.proofs.Loops.{Goes, goes_begin, goes_on, goes_wrong, goes_out}
use Rattle.der_lite.proofs.Rules.{bind_ok, ok_is}
use Rattle.signed_objects.specs.declared.attribute.AttributeType.{AttributeType}
use Rattle.signed_objects.specs.declared.attribute.AttributeType.TheVariants.{ContentType, MessageDigest, SigningTime, BinarySigningTime}
use Rattle.der_forms.specs.Combinators.{no_rules, first_part}
use Rattle.der_forms.specs.CombinatorReading.{opened_at, told_at}
use Rattle.signed_objects.specs.Attributes.{Attribute, own_value, value_of}
use Rattle.signed_objects.specs.Certificates.{Key, Extension, names_key, own_identifier, identifier_in, has_identifier}
use Rattle.signed_objects.specs.Reading.{Found, found_in, put_in, attribute_type_at, attribute_values_at, attribute_from, attribute_at, extension_id_at, extension_value_at, extension_from, extension_at, tbs_certificate_at, passed_at, certificate_content_at}
use Rattle.der_forms.specs.CombinatorReading.{octets_of}

-- behind an element less remains
opened_shorter : {V : Type 0} (tag : ℕ) (p : Place) (content : ReadContent V) (v : V) (q : Place) → opened_at (element_at tag p) p.at content ≡ Ok (v, q) → length q.rest < length p.rest
opened_shorter {V} tag p content v q e =
    let b = bind_ok (element_at tag p) (λ x. content p.at x.0 >>= λ w. Ok (w, x.1)) (v, q) e in
    let c = bind_ok (content p.at b.0.0) (λ w. Ok (w, b.0.1)) (v, q) b.2 in
    let same : b.0.1 ≡ q = ap (λ (y : V × Place). y.1) (ok_is (c.0, b.0.1) (v, q) c.2) in
    let less = element_shorter tag p b.0.0 b.0.1 b.1 in
    omega (arith, less, ap (λ (y : Place). length y.rest) same)

pub attribute_shorter : (found : Found) (p : Place) (a : Attribute) (q : Place) → attribute_from found p ≡ Ok (a, q) → length q.rest < length p.rest
unfolding attribute_from
attribute_shorter found p a q e = opened_shorter 48 p (read_constructed no_rules (read_member (attribute_type_at found) (λ type. last_at (attribute_values_at type))) no_rules) a q e

pub extension_shorter : (came : Bool) (p : Place) (e : Extension) (q : Place) → extension_from came p ≡ Ok (e, q) → length q.rest < length p.rest
unfolding extension_from
extension_shorter came p e q h = opened_shorter 48 p (read_constructed no_rules (read_member (extension_id_at came) (λ id. extension_value_at (names_key id))) no_rules) e q h

-- ---- what was found

or_none : {A : Type 0} (a : Option A) → option_or a None ≡ a
or_none None = refl
or_none (Some x) = refl

or_or : {A : Type 0} (a b c : Option A) → option_or (option_or a b) c ≡ option_or a (option_or b c)
or_or None b c = refl
or_or (Some x) b c = refl

-- the last attribute counts
value_on : (type : AttributeType) (before : List Attribute) (a : Attribute) → value_of type (before ++ a ∷ []) ≡ option_or (own_value type a) (value_of type before)
value_on type [] a = sym (or_none (own_value type a))
value_on type (b ∷ before) a = ap (λ (o : Option (List ℕ)). option_or o (own_value type b)) (value_on type before a) ∙ or_or (own_value type a) (value_of type before) (own_value type b)

-- one attribute more
pub found_on : (type : AttributeType) (before : List Attribute) (value : List ℕ) → found_in (before ++ (type, value) ∷ []) ≡ put_in (found_in before) type value
found_on ContentType before value = let a : Attribute = (ContentType, value) in rw (value_on ContentType before a, value_on MessageDigest before a, value_on SigningTime before a, value_on BinarySigningTime before a) refl
found_on MessageDigest before value = let a : Attribute = (MessageDigest, value) in rw (value_on ContentType before a, value_on MessageDigest before a, value_on SigningTime before a, value_on BinarySigningTime before a) refl
found_on SigningTime before value = let a : Attribute = (SigningTime, value) in rw (value_on ContentType before a, value_on MessageDigest before a, value_on SigningTime before a, value_on BinarySigningTime before a) refl
found_on BinarySigningTime before value = let a : Attribute = (BinarySigningTime, value) in rw (value_on ContentType before a, value_on MessageDigest before a, value_on SigningTime before a, value_on BinarySigningTime before a) refl

-- the last extension counts
pub identifier_on : (before : List Extension) (e : Extension) → identifier_in (before ++ e ∷ []) ≡ option_or (own_identifier e) (identifier_in before)
identifier_on [] e = sym (or_none (own_identifier e))
identifier_on (b ∷ before) e = ap (λ (o : Option (List ℕ)). option_or o (own_identifier b)) (identifier_on before e) ∙ or_or (own_identifier e) (identifier_in before) (own_identifier b)

-- ---- attributes so far

-- attributes in front of a place were read, and these values were found
pub record SeenAttributes (start : Place) (found : Found) (here : Place) : Type 0 where
  pub attributes : List Attribute
  pub goes : Goes attribute_at start attributes here
  pub is : found ≡ found_in attributes

pub attributes_begin : (start : Place) → SeenAttributes start (found_in []) start
attributes_begin start = record { attributes = []; goes = goes_begin attribute_at start; is = refl }

-- one attribute more was read
pub attributes_on : (start : Place) (found new : Found) (here next : Place) (a : Attribute) → SeenAttributes start found here → here.rest ≢ [] → attribute_from found here ≡ Ok (a, next) → new ≡ put_in found a.0 a.1 → SeenAttributes start new next
attributes_on start found new here next a s more read grown =
    let read_here : attribute_at s.attributes here ≡ Ok (a, next) = ap (λ (f : Found). attribute_from f here) (sym s.is) ∙ read in
    record {
      attributes = s.attributes ++ a ∷ [];
      goes = goes_on attribute_at start s.attributes here s.goes a next more read_here (attribute_shorter found here a next read);
      is = grown ∙ ap (λ (f : Found). put_in f a.0 a.1) s.is ∙ sym (found_on a.0 s.attributes a.1);
    }

-- ---- extensions so far

-- extensions in front of a place were read, among which this identifier was found
pub record SeenExtensions (start : Place) (identifier : Option (List ℕ)) (here : Place) : Type 0 where
  pub extensions : List Extension
  pub goes : Goes extension_at start extensions here
  pub is : identifier ≡ identifier_in extensions

pub extensions_begin : (start : Place) → SeenExtensions start None start
extensions_begin start = record { extensions = []; goes = goes_begin extension_at start; is = refl }

-- whether it came, by the value as a slice or as its bytes
is_some_map : {A B : Type 0} (f : A → B) (o : Option A) → is_some o ≡ is_some (option_map f o)
is_some_map f None = refl
is_some_map f (Some a) = refl

-- the first that is there, as bytes
or_map : {A B : Type 0} (f : A → B) (a b : Option A) → option_map f (option_or a b) ≡ option_or (option_map f a) (option_map f b)
or_map f None b = refl
or_map f (Some x) b = refl

-- one extension more was read
pub extensions_on : {A : Type 0} (octets : A → List ℕ) (start : Place) (identifier own later : Option A) (here next : Place) (e : Extension) → SeenExtensions start (option_map octets identifier) here → here.rest ≢ []
    → extension_from (is_some identifier) here ≡ Ok (e, next) → option_map octets own ≡ own_identifier e → later ≡ option_or own identifier → SeenExtensions start (option_map octets later) next
extensions_on {A} octets start identifier own later here next e s more read own_is grown =
    let same : is_some identifier ≡ has_identifier s.extensions = is_some_map octets identifier ∙ ap (λ (o : Option (List ℕ)). is_some o) s.is in
    let read_here : extension_at s.extensions here ≡ Ok (e, next) = ap (λ (b : Bool). extension_from b here) (sym same) ∙ read in
    record {
      extensions = s.extensions ++ e ∷ [];
      goes = goes_on extension_at start s.extensions here s.goes e next more read_here (extension_shorter (is_some identifier) here e next read);
      is = ap (λ (o : Option A). option_map octets o) grown ∙ or_map octets own identifier ∙ ap (λ (o : Option (List ℕ)). option_or o (option_map octets identifier)) own_is
          ∙ ap (λ (o : Option (List ℕ)). option_or (own_identifier e) o) s.is ∙ sym (identifier_on s.extensions e);
    }

-- an extension is a fault
pub extensions_wrong : {A : Type 0} (octets : A → List ℕ) (start : Place) (identifier : Option A) (here : Place) (f : Fault) → SeenExtensions start (option_map octets identifier) here → here.rest ≢ []
    → extension_from (is_some identifier) here ≡ Err f → read_each extension_at start ≡ Err f
extensions_wrong octets start identifier here f s more read =
    let same : is_some identifier ≡ has_identifier s.extensions = is_some_map octets identifier ∙ ap (λ (o : Option (List ℕ)). is_some o) s.is in
    goes_wrong extension_at start s.extensions here s.goes f more (ap (λ (b : Bool). extension_from b here) (sym same) ∙ read)

-- an attribute is a fault
pub attributes_wrong : (start : Place) (found : Found) (here : Place) (f : Fault) → SeenAttributes start found here → here.rest ≢ [] → attribute_from found here ≡ Err f → read_each attribute_at start ≡ Err f
attributes_wrong start found here f s more read =
    goes_wrong attribute_at start s.attributes here s.goes f more (ap (λ (g : Found). attribute_from g here) (sym s.is) ∙ read)

-- the end of the attributes
pub attributes_out : (start : Place) (found : Found) (here : Place) → SeenAttributes start found here → here.rest ≡ [] → (attributes : List Attribute) × (read_each attribute_at start ≡ Ok attributes) × (found ≡ found_in attributes)
attributes_out start found here s e = (s.attributes, goes_out attribute_at start s.attributes here s.goes e, s.is)

-- the end of the extensions
pub extensions_out : (start : Place) (identifier : Option (List ℕ)) (here : Place) → SeenExtensions start identifier here → here.rest ≡ []
    → (extensions : List Extension) × (read_each extension_at start ≡ Ok extensions) × (identifier ≡ identifier_in extensions)
extensions_out start identifier here s e = (s.extensions, goes_out extension_at start s.extensions here s.goes e, s.is)

-- behind a certificate less remains
pub certificate_shorter : (p : Place) (key : Key) (q : Place) → certificate_content_at p ≡ Ok (key, q) → length q.rest < length p.rest
unfolding certificate_content_at
certificate_shorter p key q h = opened_shorter 48 p (read_constructed no_rules (told_at first_part (read_member tbs_certificate_at (λ _. read_member passed_at (λ _. last_at (octets_of 3))))) no_rules) key q h
