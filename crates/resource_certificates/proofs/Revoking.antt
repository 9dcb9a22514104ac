-- Entries of a CRL that come one after the other.
use Rattle.std.proofs.Common.{◌≡◌, ◌≢◌, ◌<◌, ℕ, List, [], ◌∷◌, ◌++◌, length, Ok, Err, sym, subst}
use Rattle.der_lite.specs.Place.{Place, Fault}
use Rattle.der_lite.specs.Decoding.{read_constructed, read_member, read_each}
use Rattle.der_lite.specs.Fields.{last_at}
use Rattle.der_lite.proofs.Loops.{Goes, goes_begin, goes_on, goes_wrong, goes_out}
use Rattle.der_forms.specs.Combinators.{no_rules, first_part}
use Rattle.der_forms.specs.CombinatorReading.{told_at}
use Rattle.resource_certificates.specs.Crls.{TbsCrl}
use Rattle.resource_certificates.specs.Reading.{certificate_time_at, serial_at}
use Rattle.resource_certificates.specs.CrlReading.{revoked_at, tbs_crl_members_at, tbs_crl_at}
use Rattle.resource_certificates.proofs.Seen.{opened_shorter}

pub revoked_shorter : (p : Place) (serial : List ℕ) (q : Place) → revoked_at p ≡ Ok (serial, q) → length q.rest < length p.rest
unfolding revoked_at
revoked_shorter p serial q h = opened_shorter 48 p (read_constructed no_rules (told_at first_part (read_member serial_at (λ _. last_at certificate_time_at))) no_rules) serial q h

pub crl_shorter : (p : Place) (t : TbsCrl) (q : Place) → tbs_crl_at p ≡ Ok (t, q) → length q.rest < length p.rest
unfolding tbs_crl_at
crl_shorter p t q h = opened_shorter 48 p (read_constructed no_rules tbs_crl_members_at no_rules) t q h

-- these serials were read in front of a place
abbrev pub Revoked : Place → List (List ℕ) → Place → Type 0
Revoked start serials here = Goes (λ before. revoked_at) start serials here

pub revoked_none : (start : Place) → Revoked start [] start
revoked_none start = goes_begin (λ before. revoked_at) start

-- one more was read
pub revoked_on : (start : Place) (serials new : List (List ℕ)) (here next : Place) (serial : List ℕ) → Revoked start serials here → here.rest ≢ [] → revoked_at here ≡ Ok (serial, next) → new ≡ serials ++ serial ∷ [] → Revoked start new next
revoked_on start serials new here next serial g more read grown =
    subst (λ (l : List (List ℕ)). Revoked start l next) (sym grown) (goes_on (λ before. revoked_at) start serials here g serial next more read (revoked_shorter here serial next read))

-- an entry is a fault
pub revoked_wrong : (start : Place) (serials : List (List ℕ)) (here : Place) (f : Fault) → Revoked start serials here → here.rest ≢ [] → revoked_at here ≡ Err f → read_each (λ before. revoked_at) start ≡ Err f
revoked_wrong start serials here f g more read = goes_wrong (λ before. revoked_at) start serials here g f more read

-- the end
pub revoked_all : (start : Place) (serials : List (List ℕ)) (here : Place) → Revoked start serials here → here.rest ≡ [] → read_each (λ before. revoked_at) start ≡ Ok serials
revoked_all start serials here g e = goes_out (λ before. revoked_at) start serials here g e
