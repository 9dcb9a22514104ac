-- What filling a buffer does.
use Rattle.std.specs.Prelude.{◌≡◌, ◌⊎◌, ℕ, ◌-◌, ◌<◌, ◌≤◌, Bool, true, false, ◌==◌, nat_lt, List, [], ◌∷◌, ◌++◌, length, take, Option, Some, None, is_some, refl, MatchOption}
use Rattle.std.proofs.Common.{sym, ap, ◌∙◌, subst, arith, append_assoc, inl, inr}
use Rattle.std.proofs.lemmas.List.{length-take, length-append, take-append-drop, drop_all, append-nil}
use Rattle.std.proofs.lemmas.Bool.{cases_lt}
use Rattle.rtr_pdu.specs.Version.{version_number, version_in}
use Rattle.rtr_pdu.proofs.VersionLaws.{version_in-append}
use Rattle.rtr_pdu.specs.declared.version.Version.{Version}
use Rattle.rtr_pdu.specs.declared.unit.UnitFault.{UnitFault}
use Rattle.rtr_pdu.specs.declared.unit.UnitFault.TheVariants as faults
use Rattle.rtr_pdu.specs.declared.unit.Next.{Next}
use Rattle.rtr_pdu.specs.declared.unit.Next.TheVariants as next
use Rattle.rtr_pdu.specs.Kind.{is_type, has_length}
use Rattle.rtr_pdu.specs.Stream.{as_read, version_of, type_of, length_of, header_fault, IsPartial, IsWhole, Shows}
use Rattle.rtr_pdu.proofs.ModeLaws.{length-as_read, as_read-append, length_of-append}
use Rattle.rtr_pdu.proofs.JudgeLaws.{chain, header_fault-append, short_none}
use Rattle.rtr_pdu.proofs.SplitLaws.{shortest_8}
use Rattle.rtr_pdu.specs.Reading.{filled, unfilled}
use Rattle.rtr_pdu.specs.declared.unit.Unit.{Unit}
use Rattle.rtr_pdu.specs.Reader.{Reader, fault_size, version_with, IsFaulty, IsRead, Advances, ReaderStands, ReaderTakes}

-- a fault of a header is one of four
abbrev in_header : UnitFault → Bool
in_header faults.Record = false
in_header faults.ErrorReport = false
in_header faults.Truncated = false
in_header _ = true

-- a test that fails shows a fault of a header
in_tests : (a b c d e : Bool) (fault : UnitFault) → chain a b c d e ≡ Some fault → in_header fault ≡ true
in_tests true b c d e fault h = absurd (let k : ◌≡◌ {A = Option UnitFault} None (Some fault) = h in cc)
in_tests false false c d e fault h = let k : faults.Version ≡ fault = (let m : ◌≡◌ {A = Option UnitFault} (Some faults.Version) (Some fault) = h in cc) in subst (λ x. in_header x ≡ true) k refl
in_tests false true false d e fault h = let k : faults.«Type» ≡ fault = (let m : ◌≡◌ {A = Option UnitFault} (Some faults.«Type») (Some fault) = h in cc) in subst (λ x. in_header x ≡ true) k refl
in_tests false true true false e fault h = let k : faults.Length ≡ fault = (let m : ◌≡◌ {A = Option UnitFault} (Some faults.Length) (Some fault) = h in cc) in subst (λ x. in_header x ≡ true) k refl
in_tests false true true true true fault h = let k : faults.TooLong ≡ fault = (let m : ◌≡◌ {A = Option UnitFault} (Some faults.TooLong) (Some fault) = h in cc) in subst (λ x. in_header x ≡ true) k refl
in_tests false true true true false fault h = absurd (let k : ◌≡◌ {A = Option UnitFault} None (Some fault) = h in cc)

-- an option that is no fault is none
pub not_some : (o : Option UnitFault) → ((x : UnitFault) → o ≡ Some x → ⊥) → o ≡ None
not_some None h = refl
not_some (Some x) h = absurd (h x refl)

-- a list of no length is empty
no_items : (xs : List ℕ) → length xs ≡ 0 → xs ≡ []
no_items [] h = refl
no_items (x ∷ xs) h = absurd (omega (arith, h))

-- so is one in which none was found
pub none_found : (o : Option UnitFault) → is_some o ≡ false → o ≡ None
none_found None h = refl
none_found (Some x) h = absurd (let e : true ≡ false = h in cc)

-- A Prefix at the front of a piece, if nothing is held
pub takes_prefix : (r : Reader) (version : Version) (piece unit rest : List ℕ) (u : Unit) → r.fault ≡ None → length r.held ≡ 0 → version ≡ version_with r piece → piece ≡ unit ++ rest → IsRead version r.any unit u
    → ReaderTakes (version_with r piece) r piece (next.Unit u) rest (record { version = Some version; held = r.held; any = r.later; later = r.later; fault = r.fault })
takes_prefix r version piece unit rest u sound none is split read =
    let empty = no_items r.held none in
    record {
      taken = unit;
      piece_is = split;
      gives = (
        sound,
        subst (λ v. IsRead v r.any (r.held ++ unit) u) is (subst (λ h. IsRead version r.any (h ++ unit) u) (sym empty) read),
        λ i. record { version = Some (is i); held = empty i; any = r.later; later = r.later; fault = sound i },
      );
    }

module _ (version : Version) where
  -- a fault of a header shows, with 8 bytes held
  shows_header : (bytes : List ℕ) (fault : UnitFault) → in_header fault ≡ true → header_fault version bytes ≡ Some fault → (x : List ℕ) → Shows version bytes fault × (fault_size fault x ≡ 8)
  shows_header bytes faults.Version k h x = (h, refl)
  shows_header bytes faults.«Type» k h x = (h, refl)
  shows_header bytes faults.Length k h x = (h, refl)
  shows_header bytes faults.TooLong k h x = (h, refl)
  shows_header bytes faults.Record k h x = absurd (let e : false ≡ true = k in cc)
  shows_header bytes faults.ErrorReport k h x = absurd (let e : false ≡ true = k in cc)
  shows_header bytes faults.Truncated k h x = absurd (let e : false ≡ true = k in cc)

  -- Eight bytes whose header has a fault are faulty.
  pub header_faulty : (any : Bool) (bytes : List ℕ) (fault : UnitFault) → length bytes ≡ 8 → header_fault version (as_read version any bytes) ≡ Some fault → IsFaulty version any bytes fault
  header_faulty any bytes fault size h =
      let b : List ℕ = as_read version any bytes in
      let kind = in_tests (nat_lt (length (as_read version any bytes)) 8) (version_of (as_read version any bytes) == version_number version) (is_type version (type_of (as_read version any bytes))) (has_length version (type_of (as_read version any bytes)) (length_of (as_read version any bytes))) (nat_lt 4096 (length_of (as_read version any bytes))) fault h in
      let both = shows_header (as_read version any bytes) fault kind h (as_read version any bytes) in
      record { shows = both.0; shortest = shortest_8 version any bytes (omega (arith, size)); size = size ∙ sym both.1 }

  -- A buffer is filled up to a size.
  pub filled_short : (size : ℕ) (held piece : List ℕ) → length (filled size held piece) < size → unfilled size held piece ≡ []
  filled_short size held piece h =
      let a = length-append held (take (size - length held) piece) in
      let t = length-take (size - length held) piece in
      drop_all (size - length held) piece (omega (arith, a, t, h))

  -- it does not grow over the size
  pub filled_most : (size : ℕ) (held piece : List ℕ) → length held ≤ size → length (filled size held piece) ≤ size
  filled_most size held piece h =
      let a = length-append held (take (size - length held) piece) in
      let t = length-take (size - length held) piece in
      omega (arith, a, t, h)

  -- what has the size stays as it is
  filled_nothing : (size : ℕ) (held piece : List ℕ) → size ≤ length held → filled size held piece ≡ held
  filled_nothing size held piece h = let e : size - length held ≡ 0 = omega (arith, h) in ap (λ n. held ++ take n piece) e ∙ append-nil held

  -- the header stays while bytes come
  header_stays : (any : Bool) (front more : List ℕ) → 8 ≤ length front → header_fault version (as_read version any (front ++ more)) ≡ header_fault version (as_read version any front)
  header_stays any front more h =
      ap (λ x. header_fault version x) (as_read-append version any front more h) ∙ header_fault-append version (as_read version any front) more (omega (arith, length-as_read version any front, h))

  -- so does the length
  length_stays : (any : Bool) (front more : List ℕ) → 8 ≤ length front → length_of (as_read version any (front ++ more)) ≡ length_of (as_read version any front)
  length_stays any front more h =
      ap (λ x. length_of x) (as_read-append version any front more h) ∙ length_of-append (as_read version any front) more (omega (arith, length-as_read version any front, h))

  -- the body, behind a header without a fault
  module _ (any : Bool) (held piece : List ℕ) (none : header_fault version (as_read version any held) ≡ None) (eight : 8 ≤ length held) (room : length held ≤ length_of (as_read version any held)) where
    -- the size of the PDU
    abbrev size : ℕ
    size = length_of (as_read version any held)

    -- less than the PDU has come
    pub fills_short : length (filled size held piece) < size → Advances version any held piece next.NeedMore (unfilled size held piece) (filled size held piece)
    fills_short h = record {
      taken = take (size - length held) piece;
      piece_is = sym (take-append-drop (size - length held) piece);
      now_is = refl;
      judged =
          let now : List ℕ = filled size held piece in
          let len = length_stays any held (take (size - length held) piece) eight in
          ((header_stays any held (take (size - length held) piece) eight ∙ none, inr (omega (arith, len, length-as_read version any (filled size held piece), h))), filled_short size held piece h);
    }

    module _ (h : size ≤ length (filled size held piece)) where
      -- the PDU has come: it is as long as it says
      pub body_size : length (filled size held piece) ≡ length_of (as_read version any (filled size held piece))
      body_size = omega (arith, length_stays any held (take (size - length held) piece) eight, h, filled_most size held piece room)

      -- its header has no fault
      pub body_none : header_fault version (as_read version any (filled size held piece)) ≡ None
      body_none = header_stays any held (take (size - length held) piece) eight ∙ none

      -- it is whole
      pub body_whole : IsWhole version (as_read version any (filled size held piece))
      body_whole =
          let len = length-as_read version any (filled size held piece) in
          let a = length-append held (take (size - length held) piece) in
          (body_none, omega (arith, len, a, eight), omega (arith, len, body_size))

  -- what was consumed before
  pub advances_after : (any : Bool) (n : ℕ) (held piece : List ℕ) (answer : Next) (rest now : List ℕ)
      → Advances version any (filled n held piece) (unfilled n held piece) answer rest now → Advances version any held piece answer rest now
  advances_after any n held piece answer rest now a = record {
    taken = take (n - length held) piece ++ a.taken;
    piece_is = sym (take-append-drop (n - length held) piece) ∙ ap (λ x. take (n - length held) piece ++ x) a.piece_is ∙ sym (append_assoc (take (n - length held) piece) a.taken rest);
    now_is = a.now_is ∙ append_assoc held (take (n - length held) piece) a.taken;
    judged = a.judged;
  }

  -- less than a header has come
  pub header_short : (any : Bool) (held piece : List ℕ) → length (filled 8 held piece) < 8 → Advances version any held piece next.NeedMore (unfilled 8 held piece) (filled 8 held piece)
  header_short any held piece h =
      let short : length (as_read version any (filled 8 held piece)) < 8 = omega (arith, length-as_read version any (filled 8 held piece), h) in
      record {
        taken = take (8 - length held) piece;
        piece_is = sym (take-append-drop (8 - length held) piece);
        now_is = refl;
        judged = ((short_none version (as_read version any (filled 8 held piece)) short, inl short), filled_short 8 held piece h);
      }

  -- a header that has come whole: it was whole before, or is all that has come
  module _ (any : Bool) (held piece : List ℕ) (part : IsPartial version (as_read version any held)) (eight : 8 ≤ length (filled 8 held piece)) where
    -- a header is held now, or was held before
    header_whole : ((length (filled 8 held piece) ≡ 8)) ⊎ ((filled 8 held piece ≡ held) × (8 ≤ length held))
    header_whole =
        elim (cases_lt (length held) 8) [
          | inl less ↦ inl (omega (arith, eight, filled_most 8 held piece (omega (arith, less))))
          | inr long ↦ inr (filled_nothing 8 held piece long, long)
        ]

    -- its fault is new, so it is the answer
    pub header_bad : (fault : UnitFault) → header_fault version (as_read version any (filled 8 held piece)) ≡ Some fault → Advances version any held piece (next.Fault fault) (unfilled 8 held piece) (filled 8 held piece)
    header_bad fault h = record {
      taken = take (8 - length held) piece;
      piece_is = sym (take-append-drop (8 - length held) piece);
      now_is = refl;
      judged = elim header_whole [
        | inl new ↦ header_faulty any (filled 8 held piece) fault new h
        | inr old ↦ absurd (let e : ◌≡◌ {A = Option UnitFault} None (Some fault) = sym part.0 ∙ ap (λ x. header_fault version (as_read version any x)) (sym old.0) ∙ h in cc)
      ];
    }

    -- without a fault, at most the PDU is held
    pub header_room : header_fault version (as_read version any (filled 8 held piece)) ≡ None → 8 ≤ length_of (as_read version any (filled 8 held piece)) → length (filled 8 held piece) ≤ length_of (as_read version any (filled 8 held piece))
    header_room none least =
        elim header_whole [
          | inl new ↦ omega (arith, new, least)
          | inr old ↦ (let len : length_of (as_read version any (filled 8 held piece)) ≡ length_of (as_read version any held) = ap (λ x. length_of (as_read version any x)) old.0 in
              let size : length (filled 8 held piece) ≡ length held = ap length old.0 in
              elim part.1 [
                | inl short ↦ absurd (omega (arith, length-as_read version any held, old.1, short))
                | inr less ↦ omega (arith, length-as_read version any held, len, size, less)
              ])
        ]

  -- nothing is the beginning of a PDU
  pub partial_empty : (any : Bool) → IsPartial version (as_read version any [])
  partial_empty any = let short : length (as_read version any []) < 8 = omega (arith, length-as_read version any []) in (short_none version (as_read version any []) short, inl short)

  -- less than a header is the beginning of a PDU
  pub partial_short : (any : Bool) (bytes : List ℕ) → length bytes < 8 → IsPartial version (as_read version any bytes)
  partial_short any bytes h = let short : length (as_read version any bytes) < 8 = omega (arith, length-as_read version any bytes, h) in (short_none version (as_read version any bytes) short, inl short)

  -- the place of a reader
  abbrev pub Standing : Option UnitFault → Bool → List ℕ → Type 0
  Standing fault any bytes = MatchOption fault (IsPartial version (as_read version any bytes)) (ReaderStands version any bytes)

  -- without a fault, the beginning of a PDU is held
  pub standing_none : (fault : Option UnitFault) (any : Bool) (bytes : List ℕ) → fault ≡ None → Standing fault any bytes → IsPartial version (as_read version any bytes)
  standing_none fault any bytes e h = let P : Option UnitFault → Type 0 = λ x. Standing x any bytes in subst P e h

  -- the other way round
  pub standing_from : (fault : Option UnitFault) (any : Bool) (bytes : List ℕ) → fault ≡ None → IsPartial version (as_read version any bytes) → Standing fault any bytes
  standing_from fault any bytes e h = let P : Option UnitFault → Type 0 = λ x. Standing x any bytes in subst P (sym e) h

  -- the same, as a call of `fill` gives it
  pub moved : (any : Bool) (held piece : List ℕ) (answer : Next) (n m : ℕ) (rest now : List ℕ) → n ≡ m → now ≡ filled n held piece → rest ≡ unfilled n held piece
      → Advances version any held piece answer (unfilled m held piece) (filled m held piece) → Advances version any held piece answer rest now
  moved any held piece answer n m rest now e f g a =
      let now_is : filled m held piece ≡ now = ap (λ k. filled k held piece) (sym e) ∙ sym f in
      let rest_is : unfilled m held piece ≡ rest = ap (λ k. unfilled k held piece) (sym e) ∙ sym g in
      let P : List ℕ → Type 0 = λ x. Advances version any held piece answer x (filled m held piece) in
      let Q : List ℕ → Type 0 = λ x. Advances version any held piece answer rest x in
      subst Q now_is (subst P rest_is a)

  -- the same if a first part was consumed before
  pub moved_after : (any : Bool) (held piece : List ℕ) (answer : Next) (n : ℕ) (left mid rest now : List ℕ) → mid ≡ filled n held piece → left ≡ unfilled n held piece
      → Advances version any mid left answer rest now → Advances version any held piece answer rest now
  moved_after any held piece answer n left mid rest now f g a =
      let P : List ℕ → Type 0 = λ x. Advances version any x left answer rest now in
      let Q : List ℕ → Type 0 = λ x. Advances version any (filled n held piece) x answer rest now in
      advances_after any n held piece answer rest now (subst Q g (subst P f a))

-- With less than a header held, neither the version nor agreement changes anything.
module _ (version other : Version) where
  stands_short : (a b : Bool) (bytes : List ℕ) (fault : UnitFault) → length bytes < 8 → ReaderStands version a bytes fault → ReaderStands other b bytes fault
  stands_short a b bytes faults.Truncated short h = (partial_short other b bytes short, h.1)
  stands_short a b bytes faults.Version short h = absurd (omega (arith, short, h.size))
  stands_short a b bytes faults.«Type» short h = absurd (omega (arith, short, h.size))
  stands_short a b bytes faults.Length short h = absurd (omega (arith, short, h.size))
  stands_short a b bytes faults.TooLong short h = absurd (omega (arith, short, h.size))
  stands_short a b bytes faults.Record short h = absurd (omega (arith, short, h.shows.0.1, length-as_read version a bytes))
  stands_short a b bytes faults.ErrorReport short h = absurd (omega (arith, short, h.shows.0.1, length-as_read version a bytes))

  pub standing_short : (fault : Option UnitFault) (a b : Bool) (bytes : List ℕ) → length bytes < 8 → Standing version fault a bytes → Standing other fault b bytes
  standing_short None a b bytes short h = partial_short other b bytes short
  standing_short (Some fault) a b bytes short h = stands_short a b bytes fault short h

-- What a reader holds it holds whatever follows.
pub reader_with : (start : Option Version) (fault : Option UnitFault) (any : Bool) (held more : List ℕ) → Standing (version_in start held) fault any held → Standing (version_in start (held ++ more)) fault any held
reader_with start fault any [] more h = standing_short (version_in start []) (version_in start more) fault any any [] (omega arith) h
reader_with start fault any (b ∷ held) more h = subst (λ v. Standing v fault any (b ∷ held)) (sym (version_in-append start (b ∷ held) more (omega arith))) h

-- and so does one behind which a piece was consumed
pub reader_taken : (start : Option Version) (fault : Option UnitFault) (any : Bool) (now more : List ℕ) → Standing (version_in start (now ++ more)) fault any now → Standing (version_in start now) fault any now
reader_taken start fault any [] more h = standing_short (version_in start more) (version_in start []) fault any any [] (omega arith) h
reader_taken start fault any (b ∷ now) more h = subst (λ v. Standing v fault any (b ∷ now)) (version_in-append start (b ∷ now) more (omega arith)) h
