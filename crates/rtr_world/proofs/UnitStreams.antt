-- A stream of bytes that spells PDUs, read byte by byte.
use Rattle.rtr_world.proofs.Words.{◌≡◌, ◌⊎◌, ℕ, ◌<◌, nat_lt, Bool, true, false, not, List, [], ◌∷◌, ◌++◌, length, Option, Some, None, if◌then◌else◌, ⊤, refl, ◌&&◌, AllByRecursion, sym, ap, ◌∙◌, subst, subst₂, arith, append_assoc, inl, inr, zero, suc, nat_tests, append-nil, append_cancel_left, length-append, flat_map-append, cases_lt, V4, V6, IpPrefix, first_version, header_version, version_in, version_number, Version, V0, V1, SerialNotify, Prefix, Begins, Whole, judge, AreBytes, IsUnit, IsUnitOf, prefix_bytes, zeros, Unit, as_read, IsPartial, version_in-append, judge_sent, judge_part, some_sent, strict, begins_exactly, reads_judged, as_read-append, partial_short, written_is_read, either, Noted, silent, reads, lacks, with_bytes, Router, may_lack, sent, sent_all, session_in, Sent, bytes_sent, in_version, Instance, all_both}
use Rattle.rtr_world.specs.OneAnswer.{IsPart, OwnNotifies}

-- A notify of another version, which a router reads if it has not agreed on a version, as one of the expected version.
pub judge_notify : (version other : Version) (session serial : ℕ) → IsUnit (SerialNotify session serial) → judge version true (sent other (SerialNotify session serial)) ≡ Whole (SerialNotify session serial)
unfolding as_read
judge_notify version other session serial fits = reads_judged version true (sent other (SerialNotify session serial)) (SerialNotify session serial) (written_is_read version (SerialNotify session serial) fits refl)

-- So is a beginning of it.
pub judge_notify_part : (version other : Version) (session serial : ℕ) (part rest : List ℕ) (b : ℕ) → IsUnit (SerialNotify session serial) → part ++ b ∷ rest ≡ sent other (SerialNotify session serial) → judge version true part ≡ Begins
unfolding as_read
judge_notify_part version other session serial part rest b fits e =
    elim (cases_lt (length part) 8) [
      | inl short ↦ (begins_exactly version true part).1 (partial_short version true part short)
      | inr long ↦ (
          let whole : as_read version true part ++ b ∷ rest ≡ sent version (SerialNotify session serial) =
          sym (as_read-append version true part (b ∷ rest) long) ∙ ap (as_read version true) e in
          let begun : judge version false (as_read version true part) ≡ Begins = judge_part version false (SerialNotify session serial) (as_read version true part) rest b fits refl whole in
          (begins_exactly version true part).1 (subst (IsPartial version) (strict version (as_read version true part)) ((begins_exactly version false (as_read version true part)).0 begun)))
    ]

-- the bytes of a PDU in its version, and that it is one
abbrev pub bytes_in : Sent → List ℕ
bytes_in s = sent s.version s.unit

abbrev pub IsSent : Sent → Type 0
IsSent s = IsUnitOf s.version s.unit

-- What is held and what comes after it spells these PDUs, and none of them is whole in what is held.
pub record Stream (held after : List ℕ) (units : List Sent) : Type 0 where
  pub whole : held ++ after ≡ bytes_sent units
  pub part : IsPart held units
  pub fit : AllByRecursion IsSent units

-- The next byte continues the first PDU.
record Next (held : List ℕ) (b : ℕ) (after : List ℕ) (units : List Sent) : Type 0 where
  first : Sent
  more : List Sent
  is : units ≡ first ∷ more
  rest : List ℕ
  begins : held ++ b ∷ rest ≡ bytes_in first
  goes_on : after ≡ rest ++ bytes_sent more

next_fresh : (b : ℕ) (after : List ℕ) (u : Sent) (more : List Sent) (bytes : List ℕ) → bytes_in u ≡ bytes → b ∷ after ≡ bytes ++ bytes_sent more → Next [] b after (u ∷ more)
next_fresh b after u more [] e h = absurd (some_sent u.version u.unit e)
next_fresh b after u more (c ∷ cs) e h =
    let same : b ≡ c = cc in
    record { first = u; more = more; is = refl; rest = cs; begins = ap (λ x. x ∷ cs) same ∙ sym e; goes_on = cc }

next : (held : List ℕ) (b : ℕ) (after : List ℕ) (units : List Sent) → held ++ b ∷ after ≡ bytes_sent units → IsPart held units → Next held b after units
next [] b after [] h p = absurd (let e : b ∷ after ≡ [] = h in cc)
next [] b after (u ∷ more) h p = next_fresh b after u more (bytes_in u) refl h
next (c ∷ held) b after [] h p = absurd p
next (c ∷ held) b after (u ∷ more) h p =
    let all : (c ∷ held) ++ b ∷ after ≡ (c ∷ held) ++ (p.0 ∷ (p.1 ++ bytes_sent more)) = h ∙ ap (λ x. x ++ bytes_sent more) (sym p.2) ∙ append_assoc (c ∷ held) (p.0 ∷ p.1) (bytes_sent more) in
    let tails : b ∷ after ≡ p.0 ∷ (p.1 ++ bytes_sent more) = append_cancel_left (c ∷ held) (b ∷ after) (p.0 ∷ (p.1 ++ bytes_sent more)) all in
    let same : b ≡ p.0 = cc in
    record { first = u; more = more; is = refl; rest = p.1; begins = ap (λ x. (c ∷ held) ++ x ∷ p.1) same ∙ p.2; goes_on = cc }

is_part : (held : List ℕ) (b : ℕ) (rest : List ℕ) (u : Sent) (more : List Sent) → held ++ b ∷ rest ≡ bytes_in u → IsPart held (u ∷ more)
is_part [] b rest u more e = tt
is_part (c ∷ held) b rest u more e = (b, rest, e)

-- It is of the expected version, or a notify if none is agreed on.
abbrev MayRead : Version → Bool → Sent → Type 0
MayRead version any s = (s.version ≡ version) ⊎ ((any ≡ true) × ((session : ℕ) × (serial : ℕ) × (s.unit ≡ SerialNotify session serial)))

sent_judged : (version : Version) (any : Bool) (s : Sent) → MayRead version any s → IsSent s → judge version any (bytes_in s) ≡ Whole s.unit
sent_judged version any s (inl own) fit =
    subst (λ v. judge v any (bytes_in s) ≡ Whole s.unit) own (judge_sent s.version any s.unit fit.0 fit.1)
sent_judged version any s (inr early) fit =
    let is : s.unit ≡ SerialNotify early.1.0 early.1.1 = early.1.2 in
    subst₂ (λ a u. judge version a (sent s.version u) ≡ Whole u) (sym early.0) (sym is) (judge_notify version s.version early.1.0 early.1.1 (subst IsUnit is fit.0))

part_judged : (version : Version) (any : Bool) (s : Sent) (part rest : List ℕ) (b : ℕ) → MayRead version any s → IsSent s → part ++ b ∷ rest ≡ bytes_in s → judge version any part ≡ Begins
part_judged version any s part rest b (inl own) fit e =
    subst (λ v. judge v any part ≡ Begins) own (judge_part s.version any s.unit part rest b fit.0 fit.1 e)
part_judged version any s part rest b (inr early) fit e =
    let is : s.unit ≡ SerialNotify early.1.0 early.1.1 = early.1.2 in
    subst (λ a. judge version a part ≡ Begins) (sym early.0)
    (judge_notify_part version s.version early.1.0 early.1.1 part rest b (subst IsUnit is fit.0) (e ∙ ap (λ u. sent s.version u) is))

-- After the next byte no PDU is whole, or the first one is.
pub data ByteCase (version : Version) (any : Bool) (held : List ℕ) (b : ℕ) (after : List ℕ) (units : List Sent) : Type 0 where
  partly : judge version any (held ++ b ∷ []) ≡ Begins → Stream (held ++ b ∷ []) after units → ByteCase version any held b after units
  wholly : (u : Sent) (more : List Sent) → units ≡ u ∷ more → judge version any (held ++ b ∷ []) ≡ Whole u.unit → Stream [] after more → ByteCase version any held b after units

case_of : (version : Version) (any : Bool) (held : List ℕ) (b : ℕ) (after : List ℕ) (units : List Sent) (u : Sent) (more : List Sent) (rest : List ℕ) → MayRead version any u → held ++ b ∷ after ≡ bytes_sent units → AllByRecursion IsSent units → units ≡ u ∷ more → held ++ b ∷ rest ≡ bytes_in u
    → after ≡ rest ++ bytes_sent more → ByteCase version any held b after units
case_of version any held b after units u more [] may h fit is begins on =
    let fits : AllByRecursion IsSent (u ∷ more) = subst (AllByRecursion IsSent) is fit in
    wholly u more is (ap (judge version any) begins ∙ sent_judged version any u may fits.0) (record { whole = on; part = tt; fit = fits.1 })
case_of version any held b after units u more (c ∷ rest) may h fit is begins on =
    let fits : AllByRecursion IsSent (u ∷ more) = subst (AllByRecursion IsSent) is fit in
    let begun : (held ++ b ∷ []) ++ c ∷ rest ≡ bytes_in u = append_assoc held (b ∷ []) (c ∷ rest) ∙ begins in
    partly (part_judged version any u (held ++ b ∷ []) rest c may fits.0 begun) (record {
      whole = append_assoc held (b ∷ []) after ∙ h;
      part = subst (IsPart (held ++ b ∷ [])) (sym is) (is_part (held ++ b ∷ []) c rest u more begun);
      fit = fit;
    })

case_by_first : (version : Version) (any : Bool) (held : List ℕ) (b : ℕ) (after : List ℕ) (units : List Sent) → ((u : Sent) (more : List Sent) → units ≡ u ∷ more → MayRead version any u) → Stream held (b ∷ after) units → ByteCase version any held b after units
case_by_first version any held b after units may s =
    let n = next held b after units s.whole s.part in
    case_of version any held b after units n.first n.more n.rest (may n.first n.more n.is) s.whole s.fit n.is n.begins n.goes_on

pub head_is : {X : Type 0} (x y : X) (xs ys : List X) → x ∷ xs ≡ y ∷ ys → x ≡ y
head_is x y xs ys e = cc

pub tail_is : {X : Type 0} (x y : X) (xs ys : List X) → x ∷ xs ≡ y ∷ ys → xs ≡ ys
tail_is x y xs ys e = cc

-- So it is at a router, if what comes is its own,
pub byte_case : (agreed : Bool) (version : Version) (home : Instance) (held : List ℕ) (b : ℕ) (after : List ℕ) (coming : List Sent) → OwnNotifies agreed version home coming → Stream held (b ∷ after) coming → ByteCase version (not agreed) held b after coming
byte_case agreed version home held b after coming own s = case_by_first version (not agreed) held b after coming (λ u more e. may_read agreed u more (subst (OwnNotifies agreed version home) e own)) s
  where
    may_read : (agreed : Bool) (u : Sent) (more : List Sent) → OwnNotifies agreed version home (u ∷ more) → MayRead version (not agreed) u
    may_read true u more own = inl own.0.0
    may_read false u more (inl own) = inl own.0.0
    may_read false u more (inr early) = inr (refl, (session_in V1 home, early.0, ap (λ (x : Sent). x.unit) early.1))

-- the PDUs of one version
pub record FirstIn (version : Version) (units : List Unit) (u : Sent) (more : List Sent) : Type 0 where
  pub own : u.version ≡ version
  pub rest : List Unit
  pub is : units ≡ u.unit ∷ rest
  pub more_is : more ≡ in_version version rest

pub first_in : (version : Version) (units : List Unit) (u : Sent) (more : List Sent) → in_version version units ≡ u ∷ more → FirstIn version units u more
first_in version [] u more e = absurd (let h : [] ≡ u ∷ more = e in cc)
first_in version (v ∷ units) u more e =
    let same = sym (head_is (record { version = version; unit = v }) u (in_version version units) more e) in
    record { own = ap (λ (x : Sent). x.version) same; rest = units; is = ap (λ (x : Sent). x.unit ∷ units) (sym same); more_is = sym (tail_is (record { version = version; unit = v }) u (in_version version units) more e) }

-- and if it is of one version.
pub one_case : (version : Version) (any : Bool) (held : List ℕ) (b : ℕ) (after : List ℕ) (units : List Unit) → Stream held (b ∷ after) (in_version version units) → ByteCase version any held b after (in_version version units)
one_case version any held b after units s = case_by_first version any held b after (in_version version units) (λ u more e. inl (first_in version units u more e).own) s

-- Nothing is agreed on yet, or this version is.
abbrev pub MaySpeak : Version → Option Version → Type 0
MaySpeak version None = ⊤
MaySpeak version (Some agreed) = agreed ≡ version

-- A PDU begins with the number of its version.
first_byte : (version : Version) (more : List ℕ) → first_version (version_number version ∷ more) ≡ version
first_byte V0 more = refl
first_byte V1 more = refl

pub first_sent : (version : Version) (u : Unit) (more : List ℕ) → first_version (sent version u ++ more) ≡ version
first_sent version (Prefix announce v) more = by_family v.prefix
  where
    by_family : (p : IpPrefix) → first_version (prefix_bytes version announce p v.max_len v.asn zeros ++ more) ≡ version
    by_family (V4 p) = first_byte version _
    by_family (V6 p) = first_byte version _
first_sent version _ more = first_byte version _

-- The beginning of a PDU determines its version.
pub part_version : (version : Version) (agreed : Option Version) (u : Unit) (held rest : List ℕ) → MaySpeak version agreed → held ++ rest ≡ sent version u → 0 < length held → version_in agreed held ≡ version
part_version version (Some one) u held rest speaks e some = speaks
part_version version None u held rest speaks e some =
    sym (version_in-append None held rest some) ∙ ap (version_in None) (e ∙ sym (append-nil (sent version u))) ∙ first_sent version u []

-- So does the next byte of a stream,
pub byte_version : (version : Version) (agreed : Option Version) (held : List ℕ) (b : ℕ) (after : List ℕ) (units : List Unit) → MaySpeak version agreed → Stream held (b ∷ after) (in_version version units) → version_in agreed (held ++ b ∷ []) ≡ version
byte_version version agreed held b after units speaks s =
    let n = next held b after (in_version version units) s.whole s.part in
    let own = (first_in version units n.first n.more n.is).own in
    part_version version agreed n.first.unit (held ++ b ∷ []) n.rest speaks (append_assoc held (b ∷ []) n.rest ∙ n.begins ∙ ap (λ v. sent v n.first.unit) own) (omega (arith, length-append held (b ∷ [])))

-- and what is held of one, once a header has come whole.
pub held_version : (version : Version) (agreed : Option Version) (held after : List ℕ) (units : List Unit) → MaySpeak version agreed → Stream held after (in_version version units) → MaySpeak version (header_version agreed held)
held_version version (Some one) held after units speaks s = speaks
held_version version None held after units speaks s = by_length (nat_lt (length held) 8) refl
  where
    by_part : (held : List ℕ) (units : List Unit) → 0 < length held → IsPart held (in_version version units) → first_version held ≡ version
    by_part [] units some p = absurd (omega (arith, some))
    by_part (c ∷ held) [] some p = absurd p
    by_part (c ∷ held) (u ∷ units) some p = part_version version None u (c ∷ held) (p.0 ∷ p.1) tt p.2 some

    not_below : nat_lt (length held) 8 ≡ false → 0 < length held
    not_below h = grind (arith, nat_tests)

    by_length : (b : Bool) → nat_lt (length held) 8 ≡ b → MaySpeak version (if b then None else Some (first_version held))
    by_length true e = tt
    by_length false e = by_part held units (not_below e) s.part

pub none_part : (held : List ℕ) (units : List Sent) → held ≡ [] → IsPart held units
none_part [] units e = tt
none_part (c ∷ held) units e = absurd (let h : c ∷ held ≡ [] = e in cc)

-- PDUs that are sent afterwards
part-append : (held : List ℕ) (units more : List Sent) → IsPart held units → IsPart held (units ++ more)
part-append [] units more p = tt
part-append (c ∷ held) [] more p = absurd p
part-append (c ∷ held) (u ∷ units) more p = p

pub all_sent : (version : Version) (units : List Unit) → AllByRecursion (IsUnitOf version) units → AllByRecursion IsSent (in_version version units)
all_sent version [] h = tt
all_sent version (u ∷ units) h = (h.0, all_sent version units h.1)

-- the bytes of PDUs of one version
pub bytes_of_version : (version : Version) (units : List Unit) → bytes_sent (in_version version units) ≡ sent_all version units
bytes_of_version version [] = refl
bytes_of_version version (u ∷ units) = ap (λ x. sent version u ++ x) (bytes_of_version version units)

-- of these versions
pub stream-append : (version : Version) (held after : List ℕ) (coming : List Sent) (units : List Unit) → Stream held after coming → AllByRecursion (IsUnitOf version) units → Stream held (after ++ sent_all version units) (coming ++ in_version version units)
stream-append version held after coming units s fit = record {
  whole = sym (append_assoc held after (sent_all version units)) ∙ ap (λ x. x ++ sent_all version units) s.whole ∙ ap (λ x. bytes_sent coming ++ x) (sym (bytes_of_version version units)) ∙ sym (flat_map-append bytes_in coming (in_version version units));
  part = part-append held coming (in_version version units) s.part;
  fit = all_both IsSent coming (in_version version units) s.fit (all_sent version units fit);
}

-- bytes, one by one
pub all_bytes : (bytes : List ℕ) → AllByRecursion (λ b. b < 256) bytes → AreBytes bytes
all_bytes [] h i = omega arith
all_bytes (b ∷ bytes) h zero = h.0
all_bytes (b ∷ bytes) h (suc i) = all_bytes bytes h.1 i

pub either_by : (P : Noted → Type 0) (u : Unit) (k : Router) (b : Bool) → (b ≡ true → P (lacks u k)) → P (reads u k) → P (if b then lacks u k else reads u k)
either_by P u k b l d = either P b (lacks u k) (reads u k) l (λ there. d)

-- A statement holds behind each byte if it holds in three cases: a byte is kept, memory runs out at the PDU that is whole with it, and that
-- is read.
pub case_by : (P : Noted → Type 0) (r : Router) (b : ℕ) (memory : Bool) (rest : List ℕ) (coming : List Sent) → ByteCase r.spoken (not r.agreed) r.held b rest coming
    → (Stream (r.held ++ b ∷ []) rest coming → P (silent (record r { held = r.held ++ b ∷ [] })))
    → ((u : Unit) → (may_lack r.link u r && not memory) ≡ true → P (lacks u (record r { held = [] })))
    → ((u : Sent) (more : List Sent) → coming ≡ u ∷ more → Stream [] rest more → P (reads u.unit (record r { held = [] })))
    → P (with_bytes memory (r.held ++ b ∷ []) r (judge r.spoken (not r.agreed) (r.held ++ b ∷ [])))
case_by P r b memory rest coming (partly e s) part lack read = subst (λ j. P (with_bytes memory (r.held ++ b ∷ []) r j)) (sym e) (part s)
case_by P r b memory rest coming (wholly u more is e s) part lack read =
    subst (λ j. P (with_bytes memory (r.held ++ b ∷ []) r j)) (sym e) (either_by P u.unit (record r { held = [] }) (may_lack r.link u.unit r && not memory) (lack u.unit) (read u more is s))
