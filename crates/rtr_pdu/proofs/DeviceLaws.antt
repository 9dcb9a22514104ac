-- What a PDU still wants, and what a read of it gives.
use Rattle.std.specs.Prelude.{◌≡◌, ℕ, ◌+◌, ◌-◌, ◌<◌, ◌≤◌, true, false, nat_lt, if◌then◌else◌, List, [], ◌∷◌, ◌++◌, length, take, Option, Some, None, Result, Ok, Err, refl}
use Rattle.std.proofs.Common.{sym, ap, ◌∙◌, subst, arith, append_assoc, inl, inr}
use Rattle.std.proofs.lemmas.Bool.{cases_lt}
use Rattle.std.proofs.lemmas.Bool.Decides.{nat_tests}
use Rattle.std.proofs.lemmas.List.{length-append, append-nil}
use Rattle.std.proofs.KnownBytes.{Consumes-trans}
use Rattle.std.specs.Io.KnownBytes.{Consumes, IsAtEnd}
use Rattle.rtr_pdu.specs.declared.version.Version.{Version}
use Rattle.rtr_pdu.specs.declared.unit.Unit.{Unit}
use Rattle.rtr_pdu.specs.declared.unit.UnitFault.{UnitFault}
use Rattle.rtr_pdu.specs.declared.unit.UnitFault.TheVariants as faults
use Rattle.rtr_pdu.specs.declared.unit.Next.TheVariants as next
use Rattle.rtr_pdu.specs.declared.device.ReadFault.{ReadFault}
use Rattle.rtr_pdu.specs.declared.device.ReadFault.TheVariants as read_faults
use Rattle.rtr_pdu.specs.Stream.{as_read, length_of, header_fault, end_fault, IsPartial, IsShortest}
use Rattle.rtr_pdu.specs.Unit.{spelled}
use Rattle.rtr_pdu.specs.Reader.{Reader, IsReader, IsRead, IsFaulty, ReaderTakes, at_end}
use Rattle.rtr_pdu.specs.Device.{ReadAnswers, ReadsUnit, end_answer, wanted}
use Rattle.rtr_pdu.proofs.JudgeLaws.{header_fault-append, header_sized}
use Rattle.rtr_pdu.proofs.ModeLaws.{length_of-append, not_short}
use Rattle.rtr_pdu.proofs.ReaderLaws.{standing_none}
use Rattle.rtr_pdu.proofs.SplitLaws.{shortest_8, shortest_whole}
use Rattle.rtr_pdu.proofs.StreamLaws.{not_partial, not_both}

-- To the end of the header, or of the whole
wanted_short : (held : List ℕ) → length held < 8 → wanted held ≡ 8 - length held
wanted_short held h =
    let short : nat_lt (length held) 8 ≡ true = grind (arith, nat_tests) in
    ap (λ b. if b then 8 - length held else length_of held - length held) short

wanted_long : (held : List ℕ) → 8 ≤ length held → wanted held ≡ length_of held - length held
wanted_long held h = ap (λ b. if b then 8 - length held else length_of held - length held) (not_short (length held) h)

-- A call that answers Ok was counted.
pub was_counted : {P S N : Type 0} → (¬ S → P) → (S → (false ≡ true) × N) → P
was_counted counted spent = counted (λ s. let e : false ≡ true = (spent s).0 in cc)

-- At most as much comes as is asked for.
pub within : (n size : ℕ) (held now buf piece : List ℕ) → length buf ≡ size → size ≡ wanted now → now ≡ held → (n ≤ length buf) × (n ≡ length (take n buf)) → piece ≡ take n buf → length piece ≤ wanted held
within n size held now buf piece room asked same bound is =
    let w : wanted now ≡ wanted held = ap (λ x. wanted x) same in
    omega (arith, room, asked, w, bound.0, bound.1, ap length is)

module _ (version : Version) where
  -- A cache reads what is there.
  pub strict : (bytes : List ℕ) → as_read version false bytes ≡ bytes
  unfolding as_read
  strict bytes = refl

  -- Behind a header the rest of the PDU is wanted.
  pub body_wants : (held : List ℕ) → IsPartial version (as_read version false held) → 8 ≤ length held → (length held < length_of held) × (length_of held ≤ 4096)
  body_wants held part eight =
      let p : IsPartial version held = subst (λ x. IsPartial version x) (strict held) part in
      let sized = header_sized version held eight p.0 in
      (elim p.1 [ inl short ↦ absurd (omega (arith, short, eight)) | inr less ↦ less ], sized.most)

  -- The beginning of a PDU has less than 4,096 bytes.
  pub partial_most : (held : List ℕ) → IsPartial version (as_read version false held) → length held < 4096
  partial_most held part =
      elim (cases_lt (length held) 8) [
        | inl short ↦ omega (arith, short)
        | inr long ↦ (let more = body_wants held part long in omega (arith, more.0, more.1))
      ]

  -- With no more than is wanted, no fewer bytes are a PDU or show a fault.
  wanted_shortest : (held piece : List ℕ) → IsPartial version (as_read version false held) → length piece ≤ wanted held → IsShortest version false (held ++ piece)
  wanted_shortest held piece part room =
      let size = length-append held piece in
      elim (cases_lt (length held) 8) [
        | inl short ↦ shortest_8 version false (held ++ piece) (omega (arith, size, room, short, wanted_short held short))
        | inr long ↦ (
            let p : IsPartial version held = subst (λ x. IsPartial version x) (strict held) part in
            let is = strict (held ++ piece) in
            let none : header_fault version (as_read version false (held ++ piece)) ≡ None = ap (λ x. header_fault version x) is ∙ header_fault-append version held piece long ∙ p.0 in
            let len : length_of (as_read version false (held ++ piece)) ≡ length_of held = ap (λ x. length_of x) is ∙ length_of-append held piece long in
            let more = (body_wants held part long).0 in
            shortest_whole version false (held ++ piece) none (omega (arith, size, len, more, room, wanted_long held long)))
      ]

  -- So nothing is left if they are one, or show one.
  none_left : (held taken rest : List ℕ) → IsPartial version (as_read version false held) → length (taken ++ rest) ≤ wanted held → (IsPartial version (as_read version false (held ++ taken)) → ⊥) → rest ≡ []
  none_left held taken [] part room whole = refl
  none_left held taken (b ∷ rest) part room whole =
      absurd (whole (wanted_shortest held (taken ++ b ∷ rest) part room (held ++ taken) (b ∷ rest) (sym (append_assoc held taken (b ∷ rest))) (omega arith)))

  -- A PDU is no beginning of one.
  unit_whole : (bytes : List ℕ) (u : Unit) → IsRead version false bytes u → IsPartial version (as_read version false bytes) → ⊥
  unit_whole bytes u r part =
      let is = r.reads.bytes_are ∙ sym (append-nil (spelled version u r.reads.ignored)) in
      not_partial version u r.reads.ignored [] r.reads.fits r.reads.of_version (subst (λ x. IsPartial version x) is part)

  -- A reader without a fault holds the beginning of a PDU.
  pub begins : (r : Reader) → r.fault ≡ None → r.any ≡ false → IsReader version r → IsPartial version (as_read version false r.held)
  begins r sound mode h = subst (λ b. IsPartial version (as_read version b r.held)) mode (standing_none version r.fault r.any r.held sound h)

  -- One more call of a reader that counts, of which no more than is wanted came
  module _ (before mid left : Option (List ℕ)) (calls count now : ℕ) (r new : Reader) (piece rest : List ℕ) (sound : r.fault ≡ None) (mode : r.any ≡ false) (is_reader : IsReader version r)
      (room : length piece ≤ wanted r.held) (front : Consumes before mid r.held) (more : Consumes mid left piece) (most : count ≤ calls + length r.held) (one : now ≡ count + 1) where
    -- all of it belongs to the answer
    joined : (taken : List ℕ) → piece ≡ taken ++ rest → (IsPartial version (as_read version false (r.held ++ taken)) → ⊥) → Consumes before left (r.held ++ taken)
    joined taken e whole =
        let none : rest ≡ [] = none_left r.held taken rest (begins r sound mode is_reader) (subst (λ x. length x ≤ wanted r.held) e room) whole in
        let is : piece ≡ taken = e ∙ ap (λ x. taken ++ x) none ∙ append-nil taken in
        Consumes-trans before mid left r.held taken front (subst (Consumes mid left) is more)

    few : (taken : List ℕ) → now ≤ calls + length (r.held ++ taken) + 1
    few taken = let size = length-append r.held taken in omega (arith, size, most, one)

    -- a PDU
    pub gives_unit : (u : Unit) → ReaderTakes version r piece (next.Unit u) rest new → ReadsUnit version before left calls now (Ok (Some u))
    gives_unit u t =
        let read : IsRead version false (r.held ++ t.taken) u = subst (λ b. IsRead version b (r.held ++ t.taken) u) mode t.gives.1 in
        record { bytes = r.held ++ t.taken; consumed = joined t.taken t.piece_is (unit_whole (r.held ++ t.taken) u read); answers = read; calls_most = few t.taken }

    -- a fault
    pub gives_fault : (fault : UnitFault) → ReaderTakes version r piece (next.Fault fault) rest new → ReadsUnit version before left calls now (Err (read_faults.Fault fault))
    gives_fault fault t =
        elim t.gives [
          | inr again ↦ absurd (let e : ◌≡◌ {A = Option UnitFault} None (Some fault) = sym sound ∙ again.0 in cc)
          | inl first ↦ (
              let bad : IsFaulty version false (r.held ++ t.taken) fault = subst (λ b. IsFaulty version b (r.held ++ t.taken) fault) mode first.1 in
              record {
                bytes = r.held ++ t.taken;
                consumed = joined t.taken t.piece_is (λ part. not_both version (as_read version false (r.held ++ t.taken)) fault part bad.shows);
                answers = told (r.held ++ t.taken) fault bad;
                calls_most = few t.taken;
              })
        ]
      where
        told : (bytes : List ℕ) (fault : UnitFault) → IsFaulty version false bytes fault → ReadAnswers version bytes left (Err (read_faults.Fault fault))
        told bytes faults.Truncated bad = absurd bad.shows
        told bytes faults.Version bad = bad
        told bytes faults.«Type» bad = bad
        told bytes faults.Length bad = bad
        told bytes faults.TooLong bad = bad
        told bytes faults.Record bad = bad
        told bytes faults.ErrorReport bad = bad

  -- what is answered if the input ends behind these bytes
  end_answered : (held : List ℕ) (left : Option (List ℕ)) → IsPartial version (as_read version false held) → IsAtEnd left → ReadAnswers version held left (end_answer (end_fault held None))
  end_answered [] left part ends = (refl, ends)
  end_answered (b ∷ held) left part ends = (part, omega arith, ends)

  -- The input ends at the reader's place.
  pub gives_end : (before mid left : Option (List ℕ)) (calls count now n : ℕ) (r : Reader) (buf : List ℕ) (answer : Result (Option Unit) ReadFault) → r.fault ≡ None → r.any ≡ false → IsReader version r
      → Consumes before mid r.held → Consumes mid left (take n buf) → n ≡ 0 → IsAtEnd left → count ≤ calls + length r.held → now ≡ count + 1 → answer ≡ end_answer (at_end r)
      → ReadsUnit version before left calls now answer
  gives_end before mid left calls count now n r buf answer sound mode stands front more none ends most one e = record {
    bytes = r.held;
    consumed = subst (Consumes before left) (ap (λ k. r.held ++ take k buf) none ∙ append-nil r.held) (Consumes-trans before mid left r.held (take n buf) front more);
    answers =
        subst (λ a. ReadAnswers version r.held left a) (ap (λ f. end_answer (end_fault r.held f)) (sym sound) ∙ sym e)
        (end_answered r.held left (begins r sound mode stands) ends);
    calls_most = omega (arith, most, one);
  }

  -- All of the piece is held if more is wanted.
  pub holds_more : (r new : Reader) (piece rest : List ℕ) → ReaderTakes version r piece next.NeedMore rest new → new ≡ record r { held = r.held ++ piece }
  holds_more r new piece rest t =
      let is : t.taken ≡ piece = sym (t.piece_is ∙ ap (λ x. t.taken ++ x) t.gives.2 ∙ append-nil t.taken) in
      t.gives.3 ∙ ap (λ x. record r { held = r.held ++ x }) is
