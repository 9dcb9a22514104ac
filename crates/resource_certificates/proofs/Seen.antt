-- Extensions that come one after the other.
use Rattle.std.proofs.Common.{◌≡◌, ◌≢◌, ◌<◌, ℕ, List, [], ◌∷◌, ◌++◌, length, Option, Some, None, Ok, Err, refl, sym, ap, ◌∙◌, arith}
use Rattle.std.specs.Option.{option_or}
use Rattle.der_lite.specs.Place.{Place, Fault}
use Rattle.der_lite.specs.DerReading.{◌>>=◌, element_at}
use Rattle.der_lite.specs.Decoding.{ReadContent, read_constructed, read_member, read_each}
use Rattle.der_lite.proofs.FieldLaws.{element_shorter}
use Rattle.der_lite.proofs.Loops.{Goes, goes_begin, goes_on, goes_wrong, goes_out}
use Rattle.der_lite.proofs.Rules.{bind_ok, ok_is}
use Rattle.der_forms.specs.Combinators.{no_rules}
use Rattle.der_forms.specs.CombinatorReading.{opened_at}
use Rattle.resource_certificates.specs.declared.extension.ExtensionKind.{ExtensionKind}
use Rattle.resource_certificates.specs.declared.extension.ExtensionKind.TheVariants.{SubjectKey, AuthorityKey, KeyUsage, BasicConstraints, DistributionPoints, AuthorityInfo, SubjectInfo, Policies, IpBlocks, AsIds}
use Rattle.resource_certificates.specs.Extensions.{Extension, Found, own_value, value_of, found_in, must_be_critical}
use Rattle.resource_certificates.specs.Certificates.{Tbs}
use Rattle.resource_certificates.specs.Reading.{put_in, extension_id_at, value_members_at, extension_from, extension_at, tbs_certificate_at, tbs_members_at}

-- behind an element less remains
pub opened_shorter : {V : Type 0} (tag : ℕ) (p : Place) (content : ReadContent V) (v : V) (q : Place) → opened_at (element_at tag p) p.at content ≡ Ok (v, q) → length q.rest < length p.rest
opened_shorter {V} tag p content v q e =
    let b = bind_ok (element_at tag p) (λ x. content p.at x.0 >>= λ w. Ok (w, x.1)) (v, q) e in
    let c = bind_ok (content p.at b.0.0) (λ w. Ok (w, b.0.1)) (v, q) b.2 in
    let same : b.0.1 ≡ q = ap (λ (y : V × Place). y.1) (ok_is (c.0, b.0.1) (v, q) c.2) in
    let less = element_shorter tag p b.0.0 b.0.1 b.1 in
    omega (arith, less, ap (λ (y : Place). length y.rest) same)

pub extension_shorter : (found : Found) (p : Place) (e : Extension) (q : Place) → extension_from found p ≡ Ok (e, q) → length q.rest < length p.rest
unfolding extension_from
extension_shorter found p e q h = opened_shorter 48 p (read_constructed no_rules (read_member (extension_id_at found) (λ kind. value_members_at (must_be_critical kind))) no_rules) e q h

pub tbs_shorter : (p : Place) (t : Tbs) (q : Place) → tbs_certificate_at p ≡ Ok (t, q) → length q.rest < length p.rest
unfolding tbs_certificate_at
tbs_shorter p t q h = opened_shorter 48 p (read_constructed no_rules tbs_members_at no_rules) t q h

-- ---- what was found

or_none : {A : Type 0} (a : Option A) → option_or a None ≡ a
or_none None = refl
or_none (Some x) = refl

or_or : {A : Type 0} (a b c : Option A) → option_or (option_or a b) c ≡ option_or a (option_or b c)
or_or None b c = refl
or_or (Some x) b c = refl

-- the last extension counts
value_on : (kind : ExtensionKind) (before : List Extension) (e : Extension) → value_of kind (before ++ e ∷ []) ≡ option_or (own_value kind e) (value_of kind before)
value_on kind [] e = sym (or_none (own_value kind e))
value_on kind (b ∷ before) e = ap (λ (o : Option (List ℕ)). option_or o (own_value kind b)) (value_on kind before e) ∙ or_or (own_value kind e) (value_of kind before) (own_value kind b)

-- one extension more
found_on : (kind : Option ExtensionKind) (before : List Extension) (value : List ℕ) → found_in (before ++ (kind, value) ∷ []) ≡ put_in (found_in before) kind value
found_on None before value = let e : Extension = (None, value) in rw (value_on SubjectKey before e, value_on AuthorityKey before e, value_on KeyUsage before e, value_on BasicConstraints before e, value_on DistributionPoints before e, value_on AuthorityInfo before e, value_on SubjectInfo before e, value_on Policies before e, value_on IpBlocks before e, value_on AsIds before e) refl
found_on (Some SubjectKey) before value = let e : Extension = (Some SubjectKey, value) in rw (value_on SubjectKey before e, value_on AuthorityKey before e, value_on KeyUsage before e, value_on BasicConstraints before e, value_on DistributionPoints before e, value_on AuthorityInfo before e, value_on SubjectInfo before e, value_on Policies before e, value_on IpBlocks before e, value_on AsIds before e) refl
found_on (Some AuthorityKey) before value = let e : Extension = (Some AuthorityKey, value) in rw (value_on SubjectKey before e, value_on AuthorityKey before e, value_on KeyUsage before e, value_on BasicConstraints before e, value_on DistributionPoints before e, value_on AuthorityInfo before e, value_on SubjectInfo before e, value_on Policies before e, value_on IpBlocks before e, value_on AsIds before e) refl
found_on (Some KeyUsage) before value = let e : Extension = (Some KeyUsage, value) in rw (value_on SubjectKey before e, value_on AuthorityKey before e, value_on KeyUsage before e, value_on BasicConstraints before e, value_on DistributionPoints before e, value_on AuthorityInfo before e, value_on SubjectInfo before e, value_on Policies before e, value_on IpBlocks before e, value_on AsIds before e) refl
found_on (Some BasicConstraints) before value = let e : Extension = (Some BasicConstraints, value) in rw (value_on SubjectKey before e, value_on AuthorityKey before e, value_on KeyUsage before e, value_on BasicConstraints before e, value_on DistributionPoints before e, value_on AuthorityInfo before e, value_on SubjectInfo before e, value_on Policies before e, value_on IpBlocks before e, value_on AsIds before e) refl
found_on (Some DistributionPoints) before value = let e : Extension = (Some DistributionPoints, value) in rw (value_on SubjectKey before e, value_on AuthorityKey before e, value_on KeyUsage before e, value_on BasicConstraints before e, value_on DistributionPoints before e, value_on AuthorityInfo before e, value_on SubjectInfo before e, value_on Policies before e, value_on IpBlocks before e, value_on AsIds before e) refl
found_on (Some AuthorityInfo) before value = let e : Extension = (Some AuthorityInfo, value) in rw (value_on SubjectKey before e, value_on AuthorityKey before e, value_on KeyUsage before e, value_on BasicConstraints before e, value_on DistributionPoints before e, value_on AuthorityInfo before e, value_on SubjectInfo before e, value_on Policies before e, value_on IpBlocks before e, value_on AsIds before e) refl
found_on (Some SubjectInfo) before value = let e : Extension = (Some SubjectInfo, value) in rw (value_on SubjectKey before e, value_on AuthorityKey before e, value_on KeyUsage before e, value_on BasicConstraints before e, value_on DistributionPoints before e, value_on AuthorityInfo before e, value_on SubjectInfo before e, value_on Policies before e, value_on IpBlocks before e, value_on AsIds before e) refl
found_on (Some Policies) before value = let e : Extension = (Some Policies, value) in rw (value_on SubjectKey before e, value_on AuthorityKey before e, value_on KeyUsage before e, value_on BasicConstraints before e, value_on DistributionPoints before e, value_on AuthorityInfo before e, value_on SubjectInfo before e, value_on Policies before e, value_on IpBlocks before e, value_on AsIds before e) refl
found_on (Some IpBlocks) before value = let e : Extension = (Some IpBlocks, value) in rw (value_on SubjectKey before e, value_on AuthorityKey before e, value_on KeyUsage before e, value_on BasicConstraints before e, value_on DistributionPoints before e, value_on AuthorityInfo before e, value_on SubjectInfo before e, value_on Policies before e, value_on IpBlocks before e, value_on AsIds before e) refl
found_on (Some AsIds) before value = let e : Extension = (Some AsIds, value) in rw (value_on SubjectKey before e, value_on AuthorityKey before e, value_on KeyUsage before e, value_on BasicConstraints before e, value_on DistributionPoints before e, value_on AuthorityInfo before e, value_on SubjectInfo before e, value_on Policies before e, value_on IpBlocks before e, value_on AsIds before e) refl

-- ---- extensions so far

-- extensions in front of a place were read, and these values were found
pub record Seen (start : Place) (found : Found) (here : Place) : Type 0 where
  pub extensions : List Extension
  pub goes : Goes extension_at start extensions here
  pub is : found ≡ found_in extensions

pub seen_none : (start : Place) → Seen start (found_in []) start
seen_none start = record { extensions = []; goes = goes_begin extension_at start; is = refl }

-- one extension more was read
pub seen_on : (start : Place) (found new : Found) (here next : Place) (e : Extension) → Seen start found here → here.rest ≢ [] → extension_from found here ≡ Ok (e, next) → new ≡ put_in found e.0 e.1 → Seen start new next
seen_on start found new here next e s more read grown =
    let read_here : extension_at s.extensions here ≡ Ok (e, next) = ap (λ (f : Found). extension_from f here) (sym s.is) ∙ read in
    record {
      extensions = s.extensions ++ e ∷ [];
      goes = goes_on extension_at start s.extensions here s.goes e next more read_here (extension_shorter found here e next read);
      is = grown ∙ ap (λ (f : Found). put_in f e.0 e.1) s.is ∙ sym (found_on e.0 s.extensions e.1);
    }

-- an extension is a fault
pub seen_wrong : (start : Place) (found : Found) (here : Place) (f : Fault) → Seen start found here → here.rest ≢ [] → extension_from found here ≡ Err f → read_each extension_at start ≡ Err f
seen_wrong start found here f s more read =
    goes_wrong extension_at start s.extensions here s.goes f more (ap (λ (g : Found). extension_from g here) (sym s.is) ∙ read)

-- the end of the extensions
pub seen_all : (start : Place) (found : Found) (here : Place) → Seen start found here → here.rest ≡ [] → (extensions : List Extension) × (read_each extension_at start ≡ Ok extensions) × (found ≡ found_in extensions)
seen_all start found here s e = (s.extensions, goes_out extension_at start s.extensions here s.goes e, s.is)
