-- Names and descriptions that come one after the other.
use Rattle.std.proofs.Common.{◌≡◌, ◌≢◌, ◌<◌, ℕ, Bool, true, false, not, List, [], ◌∷◌, ◌++◌, length, Option, Some, None, Ok, Err, refl, sym, ap, ◌∙◌, arith}
use Rattle.std.specs.Prelude.{◌||◌, ◌&&◌}
use Rattle.std.specs.Option.{option_or}
use Rattle.der_lite.specs.Place.{Place, Fault}
use Rattle.der_lite.specs.Der.{tag_of}
use Rattle.der_lite.specs.DerReading.{content_at, element_at, oid_at}
use Rattle.der_lite.specs.Decoding.{read_constructed, read_member, read_each}
use Rattle.der_lite.specs.Fields.{last_at}
use Rattle.der_lite.proofs.FieldLaws.{element_shorter}
use Rattle.der_lite.proofs.Loops.{Goes, goes_begin, goes_on, goes_wrong, goes_out}
use Rattle.der_lite.proofs.Rules.{bind_ok, ok_is}
use Rattle.der_forms.specs.Combinators.{no_rules}
use Rattle.resource_certificates.specs.Places.{GeneralName, rsync_uri, first_uri, https, is_uri, Access, own_place, place_by, is_method, has_other, has_notify, has_bad_notify, Accesses, accesses_in, any_at, access_at}
use Rattle.resource_certificates.specs.PlaceGives.{put_access}
use Rattle.resource_certificates.proofs.Seen.{opened_shorter}

-- behind an element less remains
pub any_shorter : (p : Place) (n : GeneralName) (q : Place) → any_at p ≡ Ok (n, q) → length q.rest < length p.rest
unfolding any_at content_at
any_shorter p n q e =
    let r = bind_ok (content_at (tag_of p.rest) no_rules p) (λ x. Ok ((tag_of p.rest, x.0), x.1)) (n, q) e in
    let d = bind_ok (element_at (tag_of p.rest) p) (λ x. Ok (x.0.rest, x.1)) r.0 r.1 in
    let less = element_shorter (tag_of p.rest) p d.0.0 d.0.1 d.1 in
    let same : d.0.1 ≡ r.0.1 = ap (λ (y : List ℕ × Place). y.1) (ok_is (d.0.0.rest, d.0.1) r.0 d.2) in
    let last : r.0.1 ≡ q = ap (λ (y : GeneralName × Place). y.1) (ok_is ((tag_of p.rest, r.0.0), r.0.1) (n, q) r.2) in
    omega (arith, less, ap (λ (y : Place). length y.rest) same, ap (λ (y : Place). length y.rest) last)

pub access_shorter : (p : Place) (a : Access) (q : Place) → access_at p ≡ Ok (a, q) → length q.rest < length p.rest
unfolding access_at
access_shorter p a q h = opened_shorter 48 p (read_constructed no_rules (read_member oid_at (λ method. last_at any_at)) no_rules) a q h

or_none : {A : Type 0} (a : Option A) → option_or a None ≡ a
or_none None = refl
or_none (Some x) = refl

or_or : {A : Type 0} (a b c : Option A) → option_or (option_or a b) c ≡ option_or a (option_or b c)
or_or None b c = refl
or_or (Some x) b c = refl

-- one name more
first_on : (before : List GeneralName) (n : GeneralName) → first_uri (before ++ n ∷ []) ≡ option_or (first_uri before) (rsync_uri n)
first_on [] n = or_none (rsync_uri n)
first_on (b ∷ before) n = ap (option_or (rsync_uri b)) (first_on before n) ∙ sym (or_or (rsync_uri b) (first_uri before) (rsync_uri n))

place_on : (arc : ℕ) (before : List Access) (a : Access) → place_by arc (before ++ a ∷ []) ≡ option_or (place_by arc before) (own_place arc a)
place_on arc [] a = or_none (own_place arc a)
place_on arc (b ∷ before) a = ap (option_or (own_place arc b)) (place_on arc before a) ∙ sym (or_or (own_place arc b) (place_by arc before) (own_place arc a))

or_false : (a : Bool) → (a || false) ≡ a
or_false true = refl
or_false false = refl

assoc : (a b c : Bool) → (a || (b || c)) ≡ ((a || b) || c)
assoc true b c = refl
assoc false b c = refl

other_on : (before : List Access) (a : Access) → has_other (before ++ a ∷ []) ≡ (has_other before || not (is_method 11 a || is_method 13 a))
other_on [] a = or_false (not (is_method 11 a || is_method 13 a))
other_on (b ∷ before) a = ap (λ (r : Bool). not (is_method 11 b || is_method 13 b) || r) (other_on before a) ∙ assoc (not (is_method 11 b || is_method 13 b)) (has_other before) (not (is_method 11 a || is_method 13 a))

notify_on : (before : List Access) (a : Access) → has_notify (before ++ a ∷ []) ≡ (has_notify before || is_method 13 a)
notify_on [] a = or_false (is_method 13 a)
notify_on (b ∷ before) a = ap (λ (r : Bool). is_method 13 b || r) (notify_on before a) ∙ assoc (is_method 13 b) (has_notify before) (is_method 13 a)

-- m, t: the first is one, and is of no such URI; h, w: of those between; n, u: of the last
bools : (m t h w n u : Bool) → ((m && (t || (h || n))) || (w || (n && (u || h)))) ≡ (((m && (t || h)) || w) || (n && (u || (m || h))))
bools true true h w n u = refl
bools true false true w n u = refl
bools true false false true true u = refl
bools true false false false true true = refl
bools true false false false true false = refl
bools true false false w false u = refl
bools false t h w n u = refl

bad_on : (before : List Access) (a : Access) → has_bad_notify (before ++ a ∷ []) ≡ (has_bad_notify before || (is_method 13 a && (not (is_uri https a.1) || has_notify before)))
bad_on [] a = or_false (is_method 13 a && (not (is_uri https a.1) || false))
bad_on (b ∷ before) a =
    rw (bad_on before a, notify_on before a) (bools (is_method 13 b) (not (is_uri https b.1)) (has_notify before) (has_bad_notify before) (is_method 13 a) (not (is_uri https a.1)))

accesses_on : (before : List Access) (a : Access) → accesses_in (before ++ a ∷ []) ≡ put_access (accesses_in before) a
accesses_on before a = rw (place_on 2 before a, place_on 5 before a, place_on 10 before a, place_on 11 before a, other_on before a, notify_on before a, bad_on before a) refl

-- ---- names so far

pub record SeenNames (start : Place) (first : Option (List ℕ)) (here : Place) : Type 0 where
  pub names : List GeneralName
  pub goes : Goes (λ before. any_at) start names here
  pub is : first ≡ first_uri names

pub names_none : (start : Place) → SeenNames start None start
names_none start = record { names = []; goes = goes_begin (λ before. any_at) start; is = refl }

pub names_on : (start : Place) (first new : Option (List ℕ)) (here next : Place) (n : GeneralName) → SeenNames start first here → here.rest ≢ [] → any_at here ≡ Ok (n, next) → new ≡ option_or first (rsync_uri n) → SeenNames start new next
names_on start first new here next n s more read grown =
    record {
      names = s.names ++ n ∷ [];
      goes = goes_on (λ before. any_at) start s.names here s.goes n next more read (any_shorter here n next read);
      is = grown ∙ ap (λ (o : Option (List ℕ)). option_or o (rsync_uri n)) s.is ∙ sym (first_on s.names n);
    }

pub names_wrong : (start : Place) (first : Option (List ℕ)) (here : Place) (f : Fault) → SeenNames start first here → here.rest ≢ [] → any_at here ≡ Err f → read_each (λ before. any_at) start ≡ Err f
names_wrong start first here f s more read = goes_wrong (λ before. any_at) start s.names here s.goes f more read

pub names_all : (start : Place) (first : Option (List ℕ)) (here : Place) → SeenNames start first here → here.rest ≡ [] → (names : List GeneralName) × (read_each (λ before. any_at) start ≡ Ok names) × (first ≡ first_uri names)
names_all start first here s e = (s.names, goes_out (λ before. any_at) start s.names here s.goes e, s.is)

-- ---- descriptions so far

pub record SeenAccesses (start : Place) (found : Accesses) (here : Place) : Type 0 where
  pub accesses : List Access
  pub goes : Goes (λ before. access_at) start accesses here
  pub is : found ≡ accesses_in accesses

pub accesses_none : (start : Place) → SeenAccesses start (accesses_in []) start
accesses_none start = record { accesses = []; goes = goes_begin (λ before. access_at) start; is = refl }

pub accesses_more : (start : Place) (found new : Accesses) (here next : Place) (a : Access) → SeenAccesses start found here → here.rest ≢ [] → access_at here ≡ Ok (a, next) → new ≡ put_access found a → SeenAccesses start new next
accesses_more start found new here next a s more read grown =
    record {
      accesses = s.accesses ++ a ∷ [];
      goes = goes_on (λ before. access_at) start s.accesses here s.goes a next more read (access_shorter here a next read);
      is = grown ∙ ap (λ (f : Accesses). put_access f a) s.is ∙ sym (accesses_on s.accesses a);
    }

pub accesses_wrong : (start : Place) (found : Accesses) (here : Place) (f : Fault) → SeenAccesses start found here → here.rest ≢ [] → access_at here ≡ Err f → read_each (λ before. access_at) start ≡ Err f
accesses_wrong start found here f s more read = goes_wrong (λ before. access_at) start s.accesses here s.goes f more read

pub accesses_all : (start : Place) (found : Accesses) (here : Place) → SeenAccesses start found here → here.rest ≡ [] → (accesses : List Access) × (read_each (λ before. access_at) start ≡ Ok accesses) × (found ≡ accesses_in accesses)
accesses_all start found here s e = (s.accesses, goes_out (λ before. access_at) start s.accesses here s.goes e, s.is)
