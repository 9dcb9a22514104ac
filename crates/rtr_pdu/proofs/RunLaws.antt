-- Steps of a reader on a stream.
use Rattle.std.specs.Prelude.{◌≡◌, ℕ, ◌+◌, ◌<◌, ◌≤◌, Bool, true, false, ◌&&◌, List, [], ◌∷◌, ◌++◌, length, take, drop, get_or, Option, Some, None, refl}
use Rattle.std.proofs.Common.{sym, ap, ◌∙◌, subst, arith, append_assoc, inl, inr}
use Rattle.std.proofs.lemmas.List.{append-nil, length-append, take_more, take_all, take-append-drop}
use Rattle.std.specs.List.{flat_map}
use Rattle.std.specs.Option.{is_some}
use Rattle.rtr_pdu.specs.declared.version.Version.{Version}
use Rattle.rtr_pdu.specs.declared.unit.Unit.{Unit}
use Rattle.rtr_pdu.specs.declared.unit.UnitFault.{UnitFault}
use Rattle.rtr_pdu.specs.declared.unit.Next.TheVariants as next
use Rattle.rtr_pdu.specs.declared.unit.UnitFault.TheVariants as faults
use Rattle.rtr_pdu.specs.Unit.{Reads, spelled}
use Rattle.rtr_pdu.specs.Stream.{as_read, is_notify, any_after, AreRead, IsPartial, Shows, Splits}
use Rattle.rtr_pdu.proofs.ModeLaws.{as_read-append, length-as_read}
use Rattle.rtr_pdu.proofs.StreamLaws.{not_partial, one_split}
use Rattle.rtr_pdu.proofs.JudgeLaws.{Shows-append, fault_long}
use Rattle.rtr_pdu.proofs.ReaderLaws.{partial_empty, partial_short, standing_none}
use Rattle.std.proofs.lemmas.Bool.{cases_lt}
use Rattle.rtr_pdu.specs.Version.{version_in}
use Rattle.rtr_pdu.proofs.UnitLaws.{opens}
use Rattle.rtr_pdu.proofs.VersionLaws.{version_stays}
use Rattle.rtr_pdu.specs.Reader.{Reader, ReaderTakes, IsReader, fresh, after_agreed, told, version_with}
use Rattle.rtr_pdu.specs.Run.{HasRead, HasBegun, HasFed, HasOnly, ReadsOn}

-- the mode after one PDU more
pub any_after-push : (any : Bool) (units : List Unit) (u : Unit) → any_after any (units ++ u ∷ []) ≡ (any_after any units && is_notify u)
any_after-push any [] u = refl
any_after-push any (v ∷ units) u = any_after-push (any && is_notify v) units u

-- a fresh reader is informed of a PDU
told_fresh : (version : Option Version) (b : Bool) (later : Bool) → elim b [ true ↦ fresh version later | false ↦ after_agreed (fresh version later) ] ≡ fresh version (later && b)
told_fresh version true true = refl
told_fresh version true false = refl
told_fresh version false true = refl
told_fresh version false false = refl

-- a reader that is informed of the PDU that it gave
told_then : (version : Version) (u : Unit) (r : Reader) (piece rest : List ℕ) (new later : Reader) → (t : ReaderTakes version r piece (next.Unit u) rest new) → later ≡ told u new → later ≡ fresh (Some version) (r.later && is_notify u)
told_then version u r piece rest new later t e = e ∙ ap (λ x. told u x) t.gives.2 ∙ told_fresh (Some version) (is_notify u) r.later

-- what consumes a byte leaves less
some_byte : (taken piece rest : List ℕ) → piece ≡ taken ++ rest → (taken ≡ [] → ⊥) → length rest < length piece
some_byte [] piece rest e h = absurd (h refl)
some_byte (x ∷ xs) piece rest e h = omega (arith, ap length e, length-append xs rest)

-- pieces in a row
module _ {X : Type 0} (f : X → List ℕ) where
  -- pieces in a row, cut in two
  flat_map-append : (xs ys : List X) → flat_map f (xs ++ ys) ≡ flat_map f xs ++ flat_map f ys
  flat_map-append [] ys = refl
  flat_map-append (x ∷ xs) ys = ap (λ r. f x ++ r) (flat_map-append xs ys) ∙ sym (append_assoc (f x) (flat_map f xs) (flat_map f ys))

  -- one piece more
  pub pieces_more : (xs : List X) (i : ℕ) (d : X) → i < length xs → flat_map f (take (i + 1) xs) ≡ flat_map f (take i xs) ++ f (get_or xs i d)
  pieces_more xs i d h = ap (flat_map f) (take_more xs i d h) ∙ flat_map-append (take i xs) (get_or xs i d ∷ []) ∙ ap (λ r. flat_map f (take i xs) ++ r) (append-nil (f (get_or xs i d)))

  -- the pieces so far and those still to come
  pub pieces_whole : (n : ℕ) (xs : List X) → flat_map f (take n xs) ++ flat_map f (drop n xs) ≡ flat_map f xs
  pieces_whole n xs = sym (flat_map-append (take n xs) (drop n xs)) ∙ ap (flat_map f) (take-append-drop n xs)

  -- no piece is still to come
  pub pieces_all : (n : ℕ) (xs : List X) → length xs ≤ n → flat_map f (take n xs) ≡ flat_map f xs
  pieces_all n xs h = ap (flat_map f) (take_all n xs h)

module _ (version : Version) where
  -- one PDU more
  pub AreRead-push : (any : Bool) (units : List Unit) (front more : List ℕ) (u : Unit) → AreRead version any units front → Reads version u (as_read version (any_after any units) more) → AreRead version any (units ++ u ∷ []) (front ++ more)
  AreRead-push any [] front more u h r = (more, [], ap (λ x. x ++ more) h ∙ sym (append-nil more), r, refl)
  AreRead-push any (v ∷ units) front more u h r =
      (h.0, h.1 ++ more, ap (λ x. x ++ more) h.2 ∙ append_assoc h.0 h.1 more, h.3, AreRead-push (any && is_notify v) units h.1 more u h.4 r)

  -- A fresh reader has read nothing.
  pub starts : (start : Option Version) (any : Bool) → HasRead version any [] [] (fresh start any)
  starts start any = record { front = []; whole = refl; read = refl; any_is = refl; later_is = refl; sound = refl; partial = partial_empty version any }

  -- What a reader has read is a split without a fault.
  pub splits : (any : Bool) (stream : List ℕ) (units : List Unit) (r : Reader) → HasRead version any stream units r → Splits version any stream units r.held None
  splits any stream units r h = record { front = h.front; whole = h.whole; read = h.read; after = subst (λ b. IsPartial version (as_read version b r.held)) h.any_is h.partial }

  -- all of the piece is consumed
  pub reads_more : (any : Bool) (stream : List ℕ) (units : List Unit) (r : Reader) (piece rest : List ℕ) (new : Reader)
      → HasRead version any stream units r → ReaderTakes version r piece next.NeedMore rest new → HasRead version any (stream ++ piece) units new
  reads_more any stream units r piece rest new h t =
      let is : piece ≡ t.taken = t.piece_is ∙ ap (λ x. t.taken ++ x) t.gives.2 ∙ append-nil t.taken in
      let whole : stream ++ piece ≡ h.front ++ (r.held ++ t.taken) = (λ i. h.whole i ++ is i) ∙ append_assoc h.front r.held t.taken in
      subst (λ x. HasRead version any (stream ++ piece) units x) (sym t.gives.3) (record {
        front = h.front;
        whole = whole;
        read = h.read;
        any_is = h.any_is;
        later_is = h.later_is;
        sound = h.sound;
        partial = t.gives.1;
      })

  -- a PDU is read, and the reader informed of agreement
  pub reads_unit : (any : Bool) (stream : List ℕ) (units : List Unit) (r : Reader) (piece rest : List ℕ) (u : Unit) (new later : Reader)
      → HasRead version any stream units r → (t : ReaderTakes version r piece (next.Unit u) rest new) → later ≡ told u new → HasRead version any (stream ++ t.taken) (units ++ u ∷ []) later
  reads_unit any stream units r piece rest u new later h t e =
      let after : later ≡ fresh (Some version) (r.later && is_notify u) = told_then version u r piece rest new later t e in
      let mode : (r.later && is_notify u) ≡ any_after any (units ++ u ∷ []) = ap (λ b. b && is_notify u) h.later_is ∙ sym (any_after-push any units u) in
      let reads : Reads version u (as_read version (any_after any units) (r.held ++ t.taken)) = subst (λ b. Reads version u (as_read version b (r.held ++ t.taken))) h.any_is t.gives.1.reads in
      subst (λ x. HasRead version any (stream ++ t.taken) (units ++ u ∷ []) x) (sym after) (record {
        front = h.front ++ (r.held ++ t.taken);
        whole = ap (λ x. x ++ t.taken) h.whole ∙ append_assoc h.front r.held t.taken ∙ sym (append-nil (h.front ++ (r.held ++ t.taken)));
        read = AreRead-push any units h.front (r.held ++ t.taken) u h.read reads;
        any_is = mode;
        later_is = mode;
        sound = refl;
        partial = partial_empty version (r.later && is_notify u);
      })

  -- A PDU consumes some byte.
  no_unit_yet : (any : Bool) (held taken : List ℕ) (u : Unit) → taken ≡ [] → IsPartial version (as_read version any held) → Reads version u (as_read version any (held ++ taken)) → ⊥
  no_unit_yet any held taken u e part r =
      let is : as_read version any held ≡ spelled version u r.ignored ++ [] =
      ap (as_read version any) (sym (append-nil held) ∙ ap (λ x. held ++ x) (sym e)) ∙ r.bytes_are ∙ sym (append-nil (spelled version u r.ignored)) in
      not_partial version u r.ignored [] r.fits r.of_version (subst (λ x. IsPartial version x) is part)

  -- A PDU leaves less of the piece.
  pub takes_some : (r : Reader) (piece rest : List ℕ) (u : Unit) (new : Reader) → IsReader version r → ReaderTakes version r piece (next.Unit u) rest new → length rest < length piece
  takes_some r piece rest u new h t =
      let part = standing_none version r.fault r.any r.held t.gives.0 h in
      some_byte t.taken piece rest t.piece_is (λ e. no_unit_yet r.any r.held t.taken u e part t.gives.1.reads)

  -- a fault shows in a header or more
  pub shows_long : (bytes : List ℕ) (fault : UnitFault) → Shows version bytes fault → 8 ≤ length bytes
  shows_long bytes faults.Version h = fault_long version bytes faults.Version h
  shows_long bytes faults.«Type» h = fault_long version bytes faults.«Type» h
  shows_long bytes faults.Length h = fault_long version bytes faults.Length h
  shows_long bytes faults.TooLong h = fault_long version bytes faults.TooLong h
  shows_long bytes faults.Record h = h.0.1
  shows_long bytes faults.ErrorReport h = h.0.1
  shows_long bytes faults.Truncated h = absurd h

  -- a fault shows in all that begins with it
  pub later_shows : (any : Bool) (front more : List ℕ) (fault : UnitFault) → Shows version (as_read version any front) fault → Shows version (as_read version any (front ++ more)) fault
  later_shows any front more fault h =
      let eight = shows_long (as_read version any front) fault h in
      subst (λ x. Shows version x fault) (sym (as_read-append version any front more (omega (arith, eight, length-as_read version any front)))) (Shows-append version (as_read version any front) more fault h)

  -- A fault is that of a split.
  pub reads_fault : (any : Bool) (stream : List ℕ) (units : List Unit) (r : Reader) (piece rest : List ℕ) (fault : UnitFault) (new : Reader)
      → HasRead version any stream units r → ReaderTakes version r piece (next.Fault fault) rest new → Splits version any (stream ++ piece) units (r.held ++ piece) (Some fault)
  reads_fault any stream units r piece rest fault new h t =
      elim t.gives [
        | inr again ↦ absurd (let e : ◌≡◌ {A = Option UnitFault} None (Some fault) = sym h.sound ∙ again.0 in cc)
        | inl first ↦
            (let is : (r.held ++ t.taken) ++ rest ≡ r.held ++ piece = append_assoc r.held t.taken rest ∙ ap (λ x. r.held ++ x) (sym t.piece_is) in
            let shows : Shows version (as_read version r.any (r.held ++ piece)) fault = subst (λ x. Shows version (as_read version r.any x) fault) is (later_shows r.any (r.held ++ t.taken) rest fault first.1.shows) in
            record {
              front = h.front;
              whole = ap (λ x. x ++ piece) h.whole ∙ append_assoc h.front r.held piece;
              read = h.read;
              after = subst (λ b. Shows version (as_read version b (r.held ++ piece)) fault) h.any_is shows;
            })
      ]

  -- A split is the only one.
  pub has_only : (any : Bool) (stream : List ℕ) (units : List Unit) (rest : List ℕ) (fault : Option UnitFault) → Splits version any stream units rest fault → HasOnly version any stream units fault
  has_only any stream units rest fault s = record { rest = rest; split = s; only = λ others left other t. one_split version any stream units others rest left fault other s t }

-- A stream whose version is in its first header, if it is not known from the start
module _ (start : Option Version) (any : Bool) where
  -- Nothing was read.
  pub begins : HasBegun start any [] [] (fresh start any)
  begins more = (starts (version_in start more) start any, refl)

  -- What was read is a split without a fault.
  pub splits_begun : (stream : List ℕ) (units : List Unit) (r : Reader) → HasBegun start any stream units r → Splits (version_in start stream) any stream units r.held None
  splits_begun stream units r h =
      subst (λ x. Splits (version_in start x) any stream units r.held None) (append-nil stream) (splits (version_in start (stream ++ [])) any stream units r (h []).0)

-- a PDU has 8 bytes or more
pub unit_long : (version : Version) (any : Bool) (bytes : List ℕ) (u : Unit) → Reads version u (as_read version any bytes) → 8 ≤ length bytes
unit_long version any bytes u r =
    let o = opens version u r.ignored [] r.fits r.of_version in
    omega (arith, o.eight, ap length r.bytes_are, length-as_read version any bytes)

-- The version of what a reader consumes is determined by what it then holds, whatever follows.
abbrev Told : Reader → List ℕ → List ℕ → Type 0
Told r rest more = version_with r rest ≡ version_with r (rest ++ more)

told_by : (r : Reader) (taken left more : List ℕ) → 0 < length (r.held ++ taken) → Told r (taken ++ left) more
told_by r taken left more h =
    (λ i. version_in r.version (sym (append_assoc r.held taken left) i)) ∙ version_stays r.version (r.held ++ taken) left (left ++ more) h
    ∙ (λ i. version_in r.version (append_assoc r.held taken (left ++ more) i)) ∙ (λ i. version_in r.version (r.held ++ sym (append_assoc taken left more) i))

-- what shows a PDU or a fault is consumed in the same version, whatever follows
unit_longer : (r : Reader) (rest left more : List ℕ) (u : Unit) (new : Reader) → ReaderTakes (version_with r rest) r rest (next.Unit u) left new → Told r rest more
unit_longer r rest left more u new t =
    let long = unit_long (version_with r rest) r.any (r.held ++ t.taken) u t.gives.1.reads in
    subst (λ x. Told r x more) (sym t.piece_is) (told_by r t.taken left more (omega (arith, long)))

fault_longer : (r : Reader) (rest left more : List ℕ) (fault : UnitFault) (new : Reader) → r.fault ≡ None → ReaderTakes (version_with r rest) r rest (next.Fault fault) left new → Told r rest more
fault_longer r rest left more fault new sound t =
    elim t.gives [
      | inr again ↦ absurd (let e : ◌≡◌ {A = Option UnitFault} None (Some fault) = sym sound ∙ again.0 in cc)
      | inl first ↦ (
          let long = shows_long (version_with r rest) (as_read (version_with r rest) r.any (r.held ++ t.taken)) fault first.1.shows in
          subst (λ x. Told r x more) (sym t.piece_is) (told_by r t.taken left more (omega (arith, long, length-as_read (version_with r rest) r.any (r.held ++ t.taken)))))
    ]

-- all of a piece is consumed in any version that continues
more_longer : (r : Reader) (rest left more : List ℕ) (new : Reader) → ReaderTakes (version_with r rest) r rest next.NeedMore left new → ReaderTakes (version_with r (rest ++ more)) r rest next.NeedMore left new
more_longer r rest left more new t =
    elim (cases_lt 0 (length (r.held ++ t.taken))) [
      | inl some ↦ subst (λ v. ReaderTakes v r rest next.NeedMore left new) (subst (λ x. Told r x more) (sym t.piece_is) (told_by r t.taken left more some)) t
      | inr none ↦ record {
        taken = t.taken;
        piece_is = t.piece_is;
        gives = (t.gives.0, partial_short (version_with r (rest ++ more)) r.any (r.held ++ t.taken) (omega (arith, none)), t.gives.2, t.gives.3);
      }
    ]

-- a PDU more of the piece
pub goes_unit : (before : List Unit) (began : Reader) (piece : List ℕ) (units : List Unit) (r : Reader) (rest left : List ℕ) (u : Unit) (new later : Reader)
    → ReadsOn before began piece units r rest → ReaderTakes (version_with r rest) r rest (next.Unit u) left new → later ≡ told u new → ReadsOn before began piece (units ++ u ∷ []) later left
goes_unit before began piece units r rest left u new later g t e start any stream h =
    let so = g start any stream h in
    (so.0 ++ t.taken, read so.0 so.1, append_assoc so.0 t.taken left ∙ ap (λ x. so.0 ++ x) (sym t.piece_is) ∙ so.2)
  where
    read : (done : List ℕ) → HasBegun start any done units r → HasBegun start any (done ++ t.taken) (units ++ u ∷ []) later
    read done b more =
        let at : version_in start (done ++ (t.taken ++ more)) ≡ version_in start ((done ++ t.taken) ++ more) = ap (version_in start) (sym (append_assoc done t.taken more)) in
        let was = b (t.taken ++ more) in
        let long = unit_long (version_with r rest) r.any (r.held ++ t.taken) u t.gives.1.reads in
        let same : version_with r rest ≡ version_in start ((done ++ t.taken) ++ more) =
        ap (λ x. version_with r x) t.piece_is ∙ stays more (omega (arith, long)) ∙ was.1 ∙ at in
        let had : HasRead (version_in start ((done ++ t.taken) ++ more)) any done units r = subst (λ v. HasRead v any done units r) at was.0 in
        let after = told_then (version_with r rest) u r rest left new later t e in (
          subst (λ v. HasRead v any done units r → HasRead v any (done ++ t.taken) (units ++ u ∷ []) later) same (λ x. reads_unit (version_with r rest) any done units r rest left u new later x t e) had,
          ap (λ x. version_with x more) after ∙ same,
        )
      where
        stays : (more : List ℕ) → 0 < length (r.held ++ t.taken) → version_with r (t.taken ++ left) ≡ version_with r (t.taken ++ more)
        stays more h =
            (λ i. version_in r.version (sym (append_assoc r.held t.taken left) i)) ∙ version_stays r.version (r.held ++ t.taken) left more h
            ∙ (λ i. version_in r.version (append_assoc r.held t.taken more i))

-- the piece ends without a fault
pub goes_more : (before : List Unit) (began : Reader) (piece : List ℕ) (units : List Unit) (r : Reader) (rest left : List ℕ) (new : Reader)
    → ReadsOn before began piece units r rest → ReaderTakes (version_with r rest) r rest next.NeedMore left new
    → (start : Option Version) (any : Bool) (stream : List ℕ) → HasBegun start any stream before began → HasBegun start any (stream ++ piece) units new
goes_more before began piece units r rest left new g t start any stream h =
    let so = g start any stream h in
    subst (λ x. HasBegun start any x units new) so.2 (read so.0 so.1)
  where
    is : rest ≡ t.taken
    is = t.piece_is ∙ ap (λ x. t.taken ++ x) t.gives.2 ∙ append-nil t.taken

    read : (done : List ℕ) → HasBegun start any done units r → HasBegun start any (done ++ rest) units new
    read done b more =
        let at : version_in start (done ++ (rest ++ more)) ≡ version_in start ((done ++ rest) ++ more) = ap (version_in start) (sym (append_assoc done rest more)) in
        let was = b (rest ++ more) in
        let took : ReaderTakes (version_in start ((done ++ rest) ++ more)) r rest next.NeedMore left new =
        subst (λ v. ReaderTakes v r rest next.NeedMore left new) (was.1 ∙ at) (more_longer r rest left more new t) in
        let had : HasRead (version_in start ((done ++ rest) ++ more)) any done units r = subst (λ v. HasRead v any done units r) at was.0 in
        let held : (r.held ++ t.taken) ++ more ≡ r.held ++ (rest ++ more) = append_assoc r.held t.taken more ∙ (λ i. r.held ++ (sym is i ++ more)) in
        (reads_more (version_in start ((done ++ rest) ++ more)) any done units r rest left new had took, ap (λ x. version_with x more) t.gives.3 ∙ ap (version_in r.version) held ∙ was.1 ∙ at)

-- the piece ends with a fault
pub goes_fault : (before : List Unit) (began : Reader) (piece : List ℕ) (units : List Unit) (r : Reader) (rest left : List ℕ) (fault : UnitFault) (new : Reader)
    → ReadsOn before began piece units r rest → ReaderTakes (version_with r rest) r rest (next.Fault fault) left new
    → (start : Option Version) (any : Bool) (stream : List ℕ) → HasBegun start any stream before began → HasFed start any (stream ++ piece) units new (Some fault)
goes_fault before began piece units r rest left fault new g t start any stream h more =
    let so = g start any stream h in
    let at : version_in start (so.0 ++ (rest ++ more)) ≡ version_in start ((stream ++ piece) ++ more) =
    ap (version_in start) (sym (append_assoc so.0 rest more) ∙ ap (λ x. x ++ more) so.2) in
    let was = so.1 (rest ++ more) in
    let same : version_with r rest ≡ version_in start ((stream ++ piece) ++ more) = fault_longer r rest left more fault new was.0.sound t ∙ was.1 ∙ at in
    let took : ReaderTakes (version_in start ((stream ++ piece) ++ more)) r rest (next.Fault fault) left new = subst (λ v. ReaderTakes v r rest (next.Fault fault) left new) same t in
    let had : HasRead (version_in start ((stream ++ piece) ++ more)) any so.0 units r = subst (λ v. HasRead v any so.0 units r) at was.0 in (
      r.held ++ rest,
      subst (λ x. Splits (version_in start ((stream ++ piece) ++ more)) any x units (r.held ++ rest) (Some fault)) so.2
          (reads_fault (version_in start ((stream ++ piece) ++ more)) any so.0 units r rest left fault new had took),
    )

-- no fault: all of it is read
pub fed_none : (start : Option Version) (any : Bool) (stream : List ℕ) (units : List Unit) (r : Reader) (fault : Option UnitFault) → is_some fault ≡ false → HasFed start any stream units r fault → HasBegun start any stream units r
fed_none start any stream units r None e h = h
fed_none start any stream units r (Some fault) e h = absurd (let k : true ≡ false = e in cc)

-- a fault: nothing more is read, whatever follows
pub fed_some : (start : Option Version) (any : Bool) (stream more : List ℕ) (units : List Unit) (r : Reader) (fault : Option UnitFault) → is_some fault ≡ true → HasFed start any stream units r fault
    → HasOnly (version_in start (stream ++ more)) any (stream ++ more) units fault
fed_some start any stream more units r None e h = absurd (let k : false ≡ true = e in cc)
fed_some start any stream more units r (Some fault) e h =
    let found = h more in
    let s = found.1 in
    has_only (version_in start (stream ++ more)) any (stream ++ more) units (found.0 ++ more) (Some fault) (record {
      front = s.front;
      whole = ap (λ x. x ++ more) s.whole ∙ append_assoc s.front found.0 more;
      read = s.read;
      after = later_shows (version_in start (stream ++ more)) (any_after any units) found.0 more fault s.after;
    })
