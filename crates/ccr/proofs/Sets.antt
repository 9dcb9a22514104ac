-- Payload sets, and the entries of a set, that come one after the other.
use Rattle.std.proofs.Common.{◌≡◌, ◌≢◌, ◌∙◌, ℕ, ◌<◌, List, [], ◌∷◌, ◌++◌, length, map, Option, Some, None, Ok, Err, false, refl, sym, ap, arith, append_assoc, append-nil}
use Rattle.std.specs.Prelude.{Result, ⊤}
use Rattle.std.specs.List.{last_or}
use Rattle.std.proofs.lemmas.Bool.{le-ltb, ne_eqb}
use Rattle.std.proofs.lemmas.List.{map-append, nil_from_length}
use Rattle.der_lite.specs.Place.{Fault, Place}
use Rattle.der_lite.specs.DerReading.{◌>>=◌, element_at}
use Rattle.der_lite.specs.Decoding.{Read, read_each}
use Rattle.der_lite.proofs.FieldLaws.{sequence_shorter}
use Rattle.der_lite.proofs.Loops.{Goes, goes_begin, goes_on, goes_wrong, goes_out}
use Rattle.der_forms.specs.Combinators.{no_rules}
use Rattle.prefixes.specs.Address.{IsPrefix}
use Rattle.prefixes.specs.Payload.{Payload, block_of, width_of}
use Rattle.prefixes.specs.declared.prefix.IpPrefix.{IpPrefix}
use Rattle.payloads.specs.declared.roa_entry.RoaEntry.{RoaEntry}
use Rattle.payloads.specs.Roa.{Family}
use Rattle.payloads.specs.RoaEntries.{is_bad_maximum, payload_of}
use Rattle.payloads.specs.RoaReading.{entry_at}
use Rattle.payloads.specs.RoaValues.{RoaValue, all_entries, entries_of, payloads_of}
use Rattle.ccr.specs.Families.{RoaFamily}
use Rattle.ccr.specs.declared.fault.ReadCcrError.{ReadCcrError}
use Rattle.ccr.specs.declared.fault.ReadCcrError.TheVariants.{At, Memory}
use Rattle.ccr.specs.PayloadSet.{order_rules, as_of}
use Rattle.ccr.specs.PayloadSetReading.{blocks_at, ip_family_at, payload_set_at, second_at, set_members_at}
use Rattle.ccr.specs.Ccr.{all_payloads}
use Rattle.ccr.specs.CcrReading.{payloads_at}
use Rattle.ccr.specs.Faults.{GivesAllOrMemory, ListsPayloads, fault_of}

-- ---- values that are read one after the other

-- What is read depends on the last value, and each adds payloads.
pub record Adding (V B : Type 0) : Type 0 where
  pub last : List V → B
  pub at : B → Read V
  pub payloads : List V → List Payload

-- The values that were read before here, the last of them, and their payloads after others.
pub record Seen {V B : Type 0} (a : Adding V B) (start : Place) (old now : List Payload) (before : B) (here : Place) : Type 0 where
  pub seen : List V
  pub goes : Goes (λ vs. a.at (a.last vs)) start seen here
  pub last_is : before ≡ a.last seen
  pub grown : now ≡ old ++ a.payloads seen

pub seen_none : {V B : Type 0} (a : Adding V B) (start : Place) (old now : List Payload) (before : B) → before ≡ a.last [] → now ≡ old → a.payloads [] ≡ [] → Seen a start old now before start
seen_none a start old now before none same empty = record {
  seen = [];
  goes = goes_begin (λ vs. a.at (a.last vs)) start;
  last_is = none;
  grown = same ∙ sym (append-nil old) ∙ ap (λ (l : List Payload). old ++ l) (sym empty);
}

module _ {V B : Type 0} (a : Adding V B) (start : Place) (old now : List Payload) (before : B) (here : Place) (s : Seen a start old now before here) where
  read_is : a.at before here ≡ a.at (a.last s.seen) here
  read_is = ap (λ (b : B). a.at b here) s.last_is

  pub seen_on : (v : V) (next : Place) (new one : List Payload) (latest : B) → here.rest ≢ [] → a.at before here ≡ Ok (v, next) → length next.rest < length here.rest → new ≡ now ++ one
      → a.payloads (s.seen ++ v ∷ []) ≡ a.payloads s.seen ++ one → latest ≡ a.last (s.seen ++ v ∷ []) → Seen a start old new latest next
  seen_on v next new one latest some read less is more newest = record {
    seen = s.seen ++ v ∷ [];
    goes = goes_on (λ vs. a.at (a.last vs)) start s.seen here s.goes v next some (sym read_is ∙ read) less;
    last_is = newest;
    grown = is ∙ ap (λ (l : List Payload). l ++ one) s.grown ∙ append_assoc old (a.payloads s.seen) one ∙ ap (λ (l : List Payload). old ++ l) (sym more);
  }

  pub seen_wrong : (f : Fault) → here.rest ≢ [] → a.at before here ≡ Err f → read_each (λ vs. a.at (a.last vs)) start ≡ Err f
  seen_wrong f some read = goes_wrong (λ vs. a.at (a.last vs)) start s.seen here s.goes f some (sym read_is ∙ read)

  pub seen_out : here.rest ≡ [] → read_each (λ vs. a.at (a.last vs)) start ≡ Ok s.seen
  seen_out e = goes_out (λ vs. a.at (a.last vs)) start s.seen here s.goes e

-- the last is the one that came last
pub last_more : {V : Type 0} (before : Option V) (vs : List V) (v : V) → last_or before (vs ++ v ∷ []) ≡ Some v
last_more before [] v = refl
last_more before (x ∷ vs) v = last_more (Some x) vs v

-- ---- the entries of a family

abbrev pub entries : RoaFamily → ℕ → Adding RoaEntry (Option RoaEntry)
entries family asn = record { last = last_or None; at = entry_at family 0; payloads = map (payload_of asn) }

-- without a maximum length there is no bad one
pub plain_right : (prefix : IpPrefix) → IsPrefix (width_of prefix) (block_of prefix) → is_bad_maximum (record { prefix = prefix; max_len = None }) ≡ false
plain_right prefix is = rw (le-ltb (block_of prefix).len (block_of prefix).len (omega arith), le-ltb (width_of prefix) (block_of prefix).len is.in_family) refl

-- ---- the families of a set

-- the payloads of the first family, and those of the second
pub both : (asn : ℕ) (old mid new : List Payload) (first : List RoaEntry) (second : Option Family) → mid ≡ old ++ map (payload_of asn) first → new ≡ mid ++ map (payload_of asn) (entries_of second)
    → new ≡ old ++ map (payload_of asn) (first ++ entries_of second)
both asn old mid new first second one two =
    two ∙ ap (λ (l : List Payload). l ++ map (payload_of asn) (entries_of second)) one ∙ append_assoc old (map (payload_of asn) first) (map (payload_of asn) (entries_of second))
    ∙ ap (λ (l : List Payload). old ++ l) (sym (map-append (payload_of asn) first (entries_of second)))

module _ (p inner next : Place) (first : Family × Place) (family : RoaFamily) (q : Place) (asn : ℕ) (old mid new : List Payload) where
  -- the second family is read after the first
  second_is : (r : Result (Option Family) Fault) → (first.0.0 ≡ family) × (first.1 ≡ q) → second_at family q ≡ r → second_at first.0.0 first.1 ≡ r
  second_is r same h = ap (λ (f : RoaFamily). second_at f first.1) same.0 ∙ ap (second_at family) same.1 ∙ h

  pub blocks_are : (result : Result (Unit {0}) ReadCcrError) → element_at 48 p ≡ Ok (inner, next) → inner.rest ≢ []
      → ip_family_at None inner ≡ Ok first → (first.0.0 ≡ family) × (first.1 ≡ q) → mid ≡ old ++ map (payload_of asn) first.0.1
      → ListsPayloads (λ _ _. ⊤) (λ second. map (payload_of asn) (entries_of second)) result mid new (second_at family q)
      → ListsPayloads (λ _ read. read.1 ≡ next) (λ read. map (payload_of asn) (all_entries read.0)) result old new (blocks_at p)
  unfolding blocks_at
  blocks_are (Ok _) opened more read same g h =
      (((first.0, h.0), next), rw (opened, ne_eqb (length inner.rest) 0 (λ n. more (nil_from_length inner.rest n)), read, second_is (Ok h.0) same h.1) refl, refl, both asn old mid new first.0.1 h.0 g h.3)
  blocks_are (Err (At e)) opened more read same g h =
      rw (opened, ne_eqb (length inner.rest) 0 (λ n. more (nil_from_length inner.rest n)), read, second_is (Err (fault_of e)) same h) refl
  blocks_are (Err Memory) opened more read same g h = tt

-- ---- sets

abbrev pub sets : Adding RoaValue (Option ℕ)
sets = record { last = λ vs. as_of (last_or None vs); at = payload_set_at; payloads = all_payloads }

pub set_shorter : (before : Option ℕ) (p : Place) (v : RoaValue) (q : Place) → payload_set_at before p ≡ Ok (v, q) → length q.rest < length p.rest
unfolding payload_set_at
set_shorter before p v q h = sequence_shorter no_rules set_members_at (order_rules before) p v q h

pub sets_all : (start : Place) (now : List Payload) (before : Option ℕ) (here : Place) → Seen sets start [] now before here → here.rest ≡ [] → payloads_at start ≡ Ok now
unfolding payloads_at
sets_all start now before here s e =
    ap (λ (o : Result (List RoaValue) Fault). o >>= λ a. Ok (all_payloads a)) (seen_out sets start [] now before here s e)
    ∙ ap (λ (l : List Payload). Ok l) (sym s.grown)

pub sets_wrong : {X Y : Type 0} (Is : X → RoaValue × Place → Type 0) (view : Y → List Payload) (e : ReadCcrError) (start : Place) (now new : List Payload) (before : Option ℕ) (here : Place) → Seen sets start [] now before here → here.rest ≢ []
    → ListsPayloads Is (λ read. payloads_of read.0) (Err e) now new (payload_set_at before here) → GivesAllOrMemory view (Err e) (payloads_at start)
unfolding payloads_at
sets_wrong Is view (At f) start now new before here s some read = ap (λ (o : Result (List RoaValue) Fault). o >>= λ a. Ok (all_payloads a)) (seen_wrong sets start [] now before here s (fault_of f) some read)
sets_wrong Is view Memory start now new before here s some read = tt
