-- PDUs that are read one after the other.
use Rattle.std.proofs.Common.{◌≡◌, ℕ, ◌-◌, ◌<◌, ◌≤◌, ◌==◌, ◌++◌, Bool, true, false, List, [], ◌∷◌, length, Option, Some, None, arith, length-append, refl, ap, sym, subst, ◌∙◌, append_assoc, append-nil, inl, inr}
use Rattle.std.proofs.lemmas.Bool.Decides.{nat_tests}
use Rattle.std.specs.Bool.{⊤}
use Rattle.std.specs.List.{AllByRecursion}
use Rattle.std.proofs.lemmas.List.Concat.{flat_map-append}
use Rattle.rtr_pdu.specs.declared.version.Version.{Version}
use Rattle.rtr_pdu.specs.Version.{first_version}
use Rattle.rtr_pdu.specs.Reader.{FitsAnswer, Reader, ReaderTakes, fresh, version_with}
use Rattle.rtr_pdu.specs.Unit.{fits}
use Rattle.rtr_pdu.specs.Stream.{IsPartial, Shows, Splits, as_read}
use Rattle.rtr_pdu.specs.declared.unit.Next.{Next}
use Rattle.rtr_pdu.specs.declared.unit.Next.TheVariants as next
use Rattle.rtr_pdu.specs.declared.unit.Unit.{Unit}
use Rattle.rtr_pdu.specs.declared.unit.UnitFault.{UnitFault}
use Rattle.rtr_pdu.proofs.RunLaws.{later_shows}
use Rattle.rtr_pdu.proofs.StreamLaws.{long_front}
use Rattle.rtr_commands.specs.Answered.{LeavesOff, offset_of}
use Rattle.rtr_commands.specs.Lines.{line_of, lines_of}
use Rattle.rtr_commands.specs.Serves.{HasLines, is_internal_error}

-- the place at which the bytes leave off
offset_fault : (size : ℕ) (rest : List ℕ) (fault : UnitFault) → offset_of size rest (Some fault) ≡ None
offset_fault size [] fault = refl
offset_fault size (b ∷ rest) fault = refl

offset_some : (size : ℕ) (rest : List ℕ) → 0 < length rest → offset_of size rest None ≡ Some (size - length rest)
offset_some size [] h = absurd (omega (arith, h))
offset_some size (b ∷ rest) h = refl

abbrev pub Any : List Unit → Type 0
Any units = ⊤

no_fault : (fault : UnitFault) → ◌≡◌ {A = Option UnitFault} None (Some fault) → ⊥
no_fault fault e = cc

all_more : (P : Unit → Type 0) (us : List Unit) (u : Unit) → AllByRecursion P us → P u → AllByRecursion P (us ++ u ∷ [])
all_more P [] u h k = (k, tt)
all_more P (v ∷ us) u h k = (h.0, all_more P us u h.1 k)

-- the test whether a list is empty
zero_of : (n : ℕ) → (n == 0) ≡ true → n ≡ 0
zero_of n h = grind (arith, nat_tests)

not_zero_of : (n : ℕ) → (n == 0) ≡ false → 0 < n
not_zero_of n h = grind (arith, nat_tests)

no_length : (xs : List ℕ) → length xs ≡ 0 → xs ≡ []
no_length [] e = refl
no_length (x ∷ xs) e = absurd (omega (arith, e))

pub tests_empty : (xs : List ℕ) (b : Bool) → b ≡ (length xs == 0) → b ≡ true → xs ≡ []
tests_empty xs b is h = no_length xs (zero_of (length xs) (sym is ∙ h))

pub tests_some : (xs : List ℕ) (b : Bool) → b ≡ (length xs == 0) → b ≡ false → 0 < length xs
tests_some xs b is h = not_zero_of (length xs) (sym is ∙ h)

module _ (version : Version) where
  -- this holds of the PDUs with which the bytes begin, and the split of what is left continues behind them
  pub record Read (P : List Unit → Type 0) (bytes left : List ℕ) : Type 0 where
    pub units : List Unit
    pub front : List ℕ
    pub whole : bytes ≡ front ++ left
    pub kept : P units
    pub goes_on : (more : List Unit) (rest : List ℕ) (fault : Option UnitFault) → Splits version false left more rest fault → Splits version false bytes (units ++ more) rest fault

  pub read_none : (P : List Unit → Type 0) (bytes : List ℕ) → P [] → Read P bytes bytes
  read_none P bytes h = record { units = []; front = []; whole = refl; kept = h; goes_on = λ more rest fault splits. splits }

  -- a PDU, and then more
  unit_then : (taken left : List ℕ) (u : Unit) (new : Reader) (t : ReaderTakes version (fresh (Some version) false) left (next.Unit u) taken new) (more : List Unit) (rest : List ℕ) (fault : Option UnitFault) → Splits version false taken more rest fault → Splits version false left (u ∷ more) rest fault
  unit_then taken left u new t more rest fault s = record {
    front = t.taken ++ s.front;
    whole = t.piece_is ∙ ap (λ x. t.taken ++ x) s.whole ∙ sym (append_assoc t.taken s.front rest);
    read = (t.taken, s.front, refl, t.gives.1.reads, s.read);
    after = s.after;
  }

  pub read_more : (P Q : List Unit → Type 0) (bytes left rest : List ℕ) (u : Unit) (old new : Reader) → old ≡ fresh (Some version) false → ReaderTakes (version_with old left) old left (next.Unit u) rest new → (r : Read P bytes left) → (P r.units → Q (r.units ++ u ∷ [])) → (new ≡ fresh (Some version) false) × Read Q bytes rest
  read_more P Q bytes left rest u old new is takes r keeps =
      let t : ReaderTakes version (fresh (Some version) false) left (next.Unit u) rest new = subst (λ x. ReaderTakes (version_with x left) x left (next.Unit u) rest new) is takes in (
        t.gives.2,
        record {
          units = r.units ++ u ∷ [];
          front = r.front ++ t.taken;
          whole = r.whole ∙ ap (λ (x : List ℕ). r.front ++ x) t.piece_is ∙ sym (append_assoc r.front t.taken rest);
          kept = keeps r.kept;
          goes_on = λ more behind fault splits.
              subst (λ (us : List Unit). Splits version false bytes us behind fault) (sym (append_assoc r.units (u ∷ []) more))
              (r.goes_on (u ∷ more) behind fault (unit_then rest left u new t more behind fault splits));
        },
      )

  -- a PDU has bytes
  pub read_less : (left rest : List ℕ) (u : Unit) (old new : Reader) → old ≡ fresh (Some version) false → ReaderTakes (version_with old left) old left (next.Unit u) rest new → length rest < length left
  read_less left rest u old new is takes =
      let t : ReaderTakes version (fresh (Some version) false) left (next.Unit u) rest new = subst (λ x. ReaderTakes (version_with x left) x left (next.Unit u) rest new) is takes in
      let some : 8 ≤ length t.taken = long_front version false u t.taken t.gives.1.reads in omega (arith, ap length t.piece_is, length-append t.taken rest, some)

  pub read_most : (P : List Unit → Type 0) (bytes left : List ℕ) → Read P bytes left → length left ≤ length bytes
  read_most P bytes left r = omega (arith, ap length r.whole, length-append r.front left)

  -- what is left shows a fault, or is the beginning of a PDU
  pub record Ends (P : List Unit → Type 0) (bytes left : List ℕ) (fault : Option UnitFault) : Type 0 where
    pub units : List Unit
    pub splits : Splits version false bytes units left fault
    pub kept : P units

  ends_with : (P : List Unit → Type 0) (bytes left : List ℕ) (fault : Option UnitFault) → Read P bytes left → Splits version false left [] left fault → Ends P bytes left fault
  ends_with P bytes left fault r s = record {
    units = r.units;
    splits = subst (λ (us : List Unit). Splits version false bytes us left fault) (append-nil r.units) (r.goes_on [] left fault s);
    kept = r.kept;
  }

  pub ends_fault : (P : List Unit → Type 0) (bytes left rest : List ℕ) (fault : UnitFault) (old new : Reader) → old ≡ fresh (Some version) false → ReaderTakes (version_with old left) old left (next.Fault fault) rest new → Read P bytes left → Ends P bytes left (Some fault)
  ends_fault P bytes left rest fault old new is takes r =
      let t : ReaderTakes version (fresh (Some version) false) left (next.Fault fault) rest new = subst (λ x. ReaderTakes (version_with x left) x left (next.Fault fault) rest new) is takes in
      let shows : Shows version (as_read version false (t.taken ++ rest)) fault = elim t.gives [ inl found ↦ later_shows version false t.taken rest fault found.1.shows | inr again ↦ absurd (no_fault fault again.0) ] in
      ends_with P bytes left (Some fault) r (record { front = []; whole = refl; read = refl; after = subst (λ x. Shows version (as_read version false x) fault) (sym t.piece_is) shows })

  -- it is all held
  all_held : (left rest : List ℕ) (new : Reader) (t : ReaderTakes version (fresh (Some version) false) left next.NeedMore rest new) → (left ≡ t.taken) × (left ≡ new.held)
  all_held left rest new t =
      let e : left ≡ t.taken = t.piece_is ∙ ap (λ x. t.taken ++ x) t.gives.2 ∙ append-nil t.taken in (e, e ∙ ap (λ r. r.held) (sym t.gives.3))

  pub ends_partly : (P : List Unit → Type 0) (bytes left rest : List ℕ) (old new : Reader) → old ≡ fresh (Some version) false → ReaderTakes (version_with old left) old left next.NeedMore rest new → Read P bytes left → Ends P bytes left None
  ends_partly P bytes left rest old new is takes r =
      let t : ReaderTakes version (fresh (Some version) false) left next.NeedMore rest new = subst (λ x. ReaderTakes (version_with x left) x left next.NeedMore rest new) is takes in
      ends_with P bytes left None r (record { front = []; whole = refl; read = refl; after = subst (λ x. IsPartial version (as_read version false x)) (sym (all_held left rest new t).0) t.gives.1 })

  pub held_is : (left rest : List ℕ) (old new : Reader) → old ≡ fresh (Some version) false → ReaderTakes (version_with old left) old left next.NeedMore rest new → left ≡ new.held
  held_is left rest old new is takes = (all_held left rest new (subst (λ x. ReaderTakes (version_with x left) x left next.NeedMore rest new) is takes)).1

  -- whatever it is, but no PDU
  pub ends_there : (P : List Unit → Type 0) (bytes left rest : List ℕ) (answer : Next) (old new : Reader) → ((u : Unit) → answer ≡ next.Unit u → ⊥) → old ≡ fresh (Some version) false → ReaderTakes (version_with old left) old left answer rest new → Read P bytes left → (fault : Option UnitFault) × Ends P bytes left fault
  ends_there P bytes left rest (next.Unit u) old new other is takes r = absurd (other u refl)
  ends_there P bytes left rest (next.Fault fault) old new other is takes r = (Some fault, ends_fault P bytes left rest fault old new is takes r)
  ends_there P bytes left rest next.NeedMore old new other is takes r = (None, ends_partly P bytes left rest old new is takes r)

  -- what the beginning of a PDU is that follows the PDUs of the bytes
  pub record Leaves (bytes : List ℕ) (left : Option ℕ) : Type 0 where
    pub units : List Unit
    pub rest : List ℕ
    pub fault : Option UnitFault
    pub splits : Splits version false bytes units rest fault
    pub left_is : left ≡ offset_of (length bytes) rest fault

  pub leaves_fault : (bytes left rest : List ℕ) (fault : UnitFault) (old new : Reader) → old ≡ fresh (Some version) false → ReaderTakes (version_with old left) old left (next.Fault fault) rest new → Read Any bytes left → Leaves bytes None
  leaves_fault bytes left rest fault old new is takes r =
      let e = ends_fault Any bytes left rest fault old new is takes r in
      record { units = e.units; rest = left; fault = Some fault; splits = e.splits; left_is = sym (offset_fault (length bytes) left fault) }

  pub leaves_none : (bytes left rest : List ℕ) (old new : Reader) → old ≡ fresh (Some version) false → ReaderTakes (version_with old left) old left next.NeedMore rest new → Read Any bytes left → new.held ≡ [] → Leaves bytes None
  leaves_none bytes left rest old new is takes r none =
      let e = ends_partly Any bytes left rest old new is takes r in
      record { units = e.units; rest = left; fault = None; splits = e.splits; left_is = ap (λ x. offset_of (length bytes) x None) (sym (held_is left rest old new is takes ∙ none)) }

  pub leaves_some : (bytes left rest : List ℕ) (old new : Reader) → old ≡ fresh (Some version) false → ReaderTakes (version_with old left) old left next.NeedMore rest new → Read Any bytes left → 0 < length new.held → Leaves bytes (Some (length bytes - length left))
  leaves_some bytes left rest old new is takes r some =
      let e = ends_partly Any bytes left rest old new is takes r in
      record { units = e.units; rest = left; fault = None; splits = e.splits; left_is = sym (offset_some (length bytes) left (subst (λ x. 0 < length x) (sym (held_is left rest old new is takes)) some)) }

  -- the lines of PDUs, none of which is an Internal Error
  pub record Lined (text : List ℕ) (units : List Unit) : Type 0 where
    pub sound : AllByRecursion (λ u. is_internal_error u ≡ false) units
    pub lines_are : text ≡ lines_of version units

  pub lined_more : (old new : List ℕ) (us : List Unit) (u : Unit) → new ≡ old ++ line_of version u → is_internal_error u ≡ false → Lined old us → Lined new (us ++ u ∷ [])
  lined_more old new us u e sound h = record {
    sound = all_more (λ x. is_internal_error x ≡ false) us u h.sound sound;
    lines_are = e ∙ ap (λ x. x ++ line_of version u) h.lines_are ∙ ap (λ x. lines_of version us ++ x) (sym (append-nil (line_of version u))) ∙ sym (flat_map-append (line_of version) us (u ∷ []));
  }

  pub has_lines : (bytes left text : List ℕ) (fault : Option UnitFault) → Ends (Lined text) bytes left fault → HasLines version bytes text
  has_lines bytes left text fault e = record { units = e.units; rest = left; fault = fault; splits = e.splits; sound = e.kept.sound; lines_are = e.kept.lines_are }

  -- A PDU that such a reader gives is one of its version.
  pub given_fits : (left : List ℕ) (u : Unit) (answer : Next) (old : Reader) → old ≡ fresh (Some version) false → answer ≡ next.Unit u → FitsAnswer (version_with old left) answer → fits version u ≡ true
  given_fits left u answer old is e h = subst (λ a. FitsAnswer version a) e (subst (λ x. FitsAnswer (version_with x left) answer) is h)

-- So the bytes are left, in the version of the first header.
pub leaves_off : (bytes : List ℕ) (left : Option ℕ) → Leaves (first_version bytes) bytes left → LeavesOff bytes left
leaves_off bytes left l = record { units = l.units; rest = l.rest; fault = l.fault; splits = l.splits; left_is = l.left_is }
