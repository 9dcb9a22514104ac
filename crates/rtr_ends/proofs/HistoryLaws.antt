-- What the histories of connections satisfy.
use Rattle.rtr_ends.proofs.Words.{◌≡◌, ◌∙◌, sym, ap, refl, subst, arith, ℕ, ◌⊎◌, Bool, true, false, not, List, [], ◌∷◌, ◌++◌, take, drop, length, ◌<◌, append_assoc, append-nil, Option, Some, None, if◌then◌else◌, inl, MatchBool, take-append-drop, flat_map-append, version_in, shows_long, unit_long, version_in-append, Version, IsPartial, Shows, Splits, as_read, Reads, Unit, UnitFault, not_both}
use Rattle.rtr_ends.specs.Answer.{Reply, sent, sent_all}
use Rattle.rtr_ends.specs.Connection.{ConnMoment, Read, Wanting, Fault, Pull, Connection, IsHistory, MayHold, PulledAreReplies, HistorySplits, conn_after, after_all, Sent, bytes_sent, in_version, opened, pulled, replies_from, reply, sent_by, units_of, version_after}
use Rattle.rtr_ends.specs.Timing.{Intervals}

-- what is still to be sent
abbrev to_come : ℕ → Intervals → Connection → List ConnMoment → List ℕ
to_come keep t c moments = c.due ++ bytes_sent (if c.ended then [] else replies_from keep t c.version moments)

none_to_come : (b : Bool) → bytes_sent (if b then [] else []) ≡ []
none_to_come true = refl
none_to_come false = refl

-- what is sent in one version
pub sent_in : (version : Version) (units : List Unit) → bytes_sent (in_version version units) ≡ sent_all version units
sent_in version [] = refl
sent_in version (u ∷ units) = ap (λ x. sent version u ++ x) (sent_in version units)

-- a reply that continues or ends, and what comes after it
with_reply : (version : Version) (now : Reply) (more : List Sent) → sent_all version now.units ++ bytes_sent (if not now.goes_on then [] else more) ≡ bytes_sent (in_version version now.units ++ (if now.goes_on then more else []))
with_reply version now more =
    elim now.goes_on as (λ b. sent_all version now.units ++ bytes_sent (if not b then [] else more) ≡ bytes_sent (in_version version now.units ++ (if b then more else []))) [
      | true ↦ behind more
      | false ↦ behind []
    ]
  where
    behind : (later : List Sent) → sent_all version now.units ++ bytes_sent later ≡ bytes_sent (in_version version now.units ++ later)
    behind later = ap (λ x. x ++ bytes_sent later) (sym (sent_in version now.units)) ∙ sym (flat_map-append (λ (s : Sent). sent s.version s.unit) (in_version version now.units) later)

-- nothing is due, and the connection continues
at_rest : (due : List ℕ) (ended : Bool) (units : List Sent) → due ≡ [] → ended ≡ false → bytes_sent units ≡ due ++ bytes_sent (if ended then [] else units)
at_rest due ended units d e = λ i. sym d i ++ bytes_sent (if sym e i then [] else units)

sent_so_far : (keep : ℕ) (t : Intervals) (c : Connection) (moments : List ConnMoment) (bytes : List ℕ) → IsHistory keep t c moments bytes →
    pulled keep t c moments ++ (after_all keep t c moments).due ≡ to_come keep t c moments
sent_so_far keep t c [] bytes h = sym (append-nil c.due) ∙ ap (λ x. c.due ++ x) (sym (none_to_come c.ended))
sent_so_far keep t c (Pull count ∷ later) bytes h =
    append_assoc (take count c.due) (pulled keep t (conn_after keep t c (Pull count)) later) _
    ∙ ap (λ x. take count c.due ++ x) (sent_so_far keep t (conn_after keep t c (Pull count)) later h.1.0 h.1.2)
    ∙ sym (append_assoc (take count c.due) (drop count c.due) _)
    ∙ ap (λ x. x ++ bytes_sent (if c.ended then [] else replies_from keep t c.version later)) (take-append-drop count c.due)
sent_so_far keep t c (m ∷ later) bytes h =
    sent_so_far keep t (conn_after keep t c m) later h.1.0 h.1.2
    ∙ with_reply (sent_by m) (reply keep t c.version m) (replies_from keep t (version_after c.version m) later)
    ∙ at_rest c.due c.ended (replies_from keep t c.version (m ∷ later)) h.0.1 h.0.0

pub pulled_are_replies : PulledAreReplies
pulled_are_replies keep t i moments bytes h = sent_so_far keep t (opened i) moments bytes h

pub read_plainly : (version : Version) (bytes : List ℕ) → as_read version false bytes ≡ bytes
unfolding as_read
read_plainly version bytes = refl

-- After an end nothing comes and no PDU is read.
record Nothing (moments : List ConnMoment) (bytes : List ℕ) : Type 0 where
  pub bytes_are : bytes ≡ []
  pub units_are : units_of moments ≡ []

at_end : (c : Connection) (bytes : List ℕ) → c.ended ≡ true → MayHold c bytes → bytes ≡ []
at_end c bytes e h = subst (λ b. MatchBool b (bytes ≡ []) (IsPartial (version_in c.version bytes) bytes × ((bytes ≡ []) ⊎ ((c.due ≡ []) ⊎ (c.notified ≡ true))))) e h

quiet : (keep : ℕ) (t : Intervals) (c : Connection) (moments : List ConnMoment) (bytes : List ℕ) → c.ended ≡ true → IsHistory keep t c moments bytes → Nothing moments bytes
quiet keep t c [] bytes e h = record { bytes_are = at_end c bytes e h; units_are = refl }
quiet keep t c (Pull count ∷ later) bytes e h =
    let more = quiet keep t (conn_after keep t c (Pull count)) later h.1.0 e h.1.2 in
    record { bytes_are = h.1.1 ∙ more.bytes_are; units_are = more.units_are }
quiet keep t c (Read version cache unit bytes' ∷ later) bytes e h = absurd (not_both c.ended e h.0.0)
quiet keep t c _ bytes e h = absurd (not_both c.ended e h.0.0)

abbrev HasSplit : Version → List ℕ → List Unit → Type 0
HasSplit version bytes units = (rest : List ℕ) × (fault : Option UnitFault) × Splits version false bytes units rest fault

-- Nothing but the beginning of a PDU
only_rest : (version : Version) (bytes : List ℕ) → IsPartial version bytes → HasSplit version bytes []
only_rest version bytes h = (bytes, None, record { front = []; whole = refl; read = refl; after = subst (λ x. IsPartial version x) (sym (read_plainly version bytes)) h })

-- a PDU, and then more
with_unit : (version : Version) (unit : Unit) (front rest bytes : List ℕ) (units : List Unit) → bytes ≡ front ++ rest → Reads version unit front → HasSplit version rest units → HasSplit version bytes (unit ∷ units)
with_unit version unit front rest bytes units e r (left, fault, s) = (
  left,
  fault,
  record {
    front = front ++ s.front;
    whole = e ∙ ap (λ x. front ++ x) s.whole ∙ sym (append_assoc front s.front left);
    read = (front, s.front, refl, subst (λ x. Reads version unit x) (sym (read_plainly version front)) r, s.read);
    after = s.after;
  },
)

empty_partial : (version : Version) → IsPartial version []
empty_partial version = (refl, inl (omega arith))

-- if the connection ends or continues without a byte more
at_last : (version : Version) (P : Type 0) (ended : Bool) (bytes : List ℕ) → MatchBool ended (bytes ≡ []) (IsPartial version bytes × P) → HasSplit version bytes []
at_last version P true bytes h = only_rest version bytes (subst (λ x. IsPartial version x) (sym h) (empty_partial version))
at_last version P false bytes h = only_rest version bytes h.0

-- a fault, and then nothing
with_fault : (version : Version) (fault : UnitFault) (front rest bytes : List ℕ) (later : List ConnMoment) → bytes ≡ front ++ rest → Shows version front fault → Nothing later rest → HasSplit version bytes (units_of later)
with_fault version fault front rest bytes later e h none =
    let whole : bytes ≡ front = e ∙ ap (λ x. front ++ x) none.bytes_are ∙ append-nil front in
    subst (λ units. HasSplit version bytes units) (sym none.units_are)
    (bytes, Some fault, record { front = []; whole = refl; read = refl; after = subst (λ x. Shows version x fault) (sym (read_plainly version bytes ∙ whole)) h })

-- The version of bytes is that of the first that came.
pub from_first : (agreed : Option Version) (version : Version) (front rest bytes : List ℕ) → version ≡ version_in agreed front → 0 < length front → bytes ≡ front ++ rest → version ≡ version_in agreed bytes
from_first agreed version front rest bytes is some e = is ∙ sym (version_in-append agreed front rest some) ∙ ap (version_in agreed) (sym e)

pub unit_some : (version : Version) (unit : Unit) (bytes : List ℕ) → Reads version unit bytes → 0 < length bytes
unit_some version unit bytes r = let long = unit_long version false bytes unit (subst (λ x. Reads version unit x) (sym (read_plainly version bytes)) r) in omega (arith, long)

pub fault_some : (version : Version) (bytes : List ℕ) (fault : UnitFault) → Shows version bytes fault → 0 < length bytes
fault_some version bytes fault h = let long = shows_long version bytes fault h in omega (arith, long)

split_of : (keep : ℕ) (t : Intervals) (c : Connection) (moments : List ConnMoment) (bytes : List ℕ) → IsHistory keep t c moments bytes → HasSplit (version_in c.version bytes) bytes (units_of moments)
split_of keep t c [] bytes h = at_last (version_in c.version bytes) _ c.ended bytes h
split_of keep t c (Read version cache unit bytes' ∷ later) bytes h =
    let is : version ≡ version_in c.version bytes = from_first c.version version bytes' h.1.0 bytes h.0.4.0 (unit_some version unit bytes' h.0.4.1) h.1.1 in
    subst (λ v. HasSplit v bytes (unit ∷ units_of later)) is
    (with_unit version unit bytes' h.1.0 bytes (units_of later) h.1.1 h.0.4.1 (split_of keep t (conn_after keep t c (Read version cache unit bytes')) later h.1.0 h.1.2))
split_of keep t c (Wanting version cache unit bytes' ∷ later) bytes h =
    let is : version ≡ version_in c.version bytes = from_first c.version version bytes' h.1.0 bytes h.0.4.0 (unit_some version unit bytes' h.0.4.1) h.1.1 in
    subst (λ v. HasSplit v bytes (unit ∷ units_of later)) is
    (with_unit version unit bytes' h.1.0 bytes (units_of later) h.1.1 h.0.4.1 (split_of keep t (conn_after keep t c (Wanting version cache unit bytes')) later h.1.0 h.1.2))
split_of keep t c (Fault version fault bytes' ∷ later) bytes h =
    let is : version ≡ version_in c.version bytes = from_first c.version version bytes' h.1.0 bytes h.0.4.0 (fault_some version bytes' fault h.0.4.1) h.1.1 in
    subst (λ v. HasSplit v bytes (units_of later)) is
    (with_fault version fault bytes' h.1.0 bytes later h.1.1 h.0.4.1 (quiet keep t (conn_after keep t c (Fault version fault bytes')) later h.1.0 refl h.1.2))
split_of keep t c (m ∷ later) bytes h =
    subst (λ x. HasSplit (version_in c.version x) x (units_of later)) (sym h.1.1) (split_of keep t (conn_after keep t c m) later h.1.0 h.1.2)

pub history_splits : HistorySplits
history_splits keep t i moments bytes h = split_of keep t (opened i) moments bytes h
