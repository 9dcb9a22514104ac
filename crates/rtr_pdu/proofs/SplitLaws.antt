-- Each list of bytes has a split.
use Rattle.std.specs.Prelude.{◌≡◌, ◌⊎◌, ℕ, ◌+◌, ◌<◌, ◌≤◌, Bool, true, false, ◌&&◌, List, [], ◌∷◌, ◌++◌, length, take, drop, Option, Some, None, if◌then◌else◌, refl}
use Rattle.std.proofs.Common.{sym, ap, ◌∙◌, subst, arith, append_assoc, inl, inr, zero, suc}
use Rattle.std.proofs.lemmas.List.{length-drop, length-take-le, length-append, take-append-drop}
use Rattle.std.proofs.lemmas.Bool.{cases_lt}
use Rattle.rtr_pdu.specs.Version.{version_number}
use Rattle.rtr_pdu.proofs.VersionLaws.{is_byte}
use Rattle.rtr_pdu.specs.declared.version.Version.{Version}
use Rattle.rtr_pdu.specs.declared.unit.Unit.{Unit}
use Rattle.rtr_pdu.specs.declared.unit.UnitFault.{UnitFault}
use Rattle.rtr_pdu.specs.Unit.{Reads}
use Rattle.rtr_pdu.specs.Payloads.{AreBytes}
use Rattle.rtr_pdu.specs.Stream.{as_read, is_notify, is_notify_header, length_of, header_fault, IsPartial, Shows, Splits, EachSplits, IsShortest}
use Rattle.rtr_pdu.proofs.ModeLaws.{as_read-append, length-as_read, length_of-append}
use Rattle.rtr_pdu.proofs.ReadLaws.{AreBytes-drop, AreBytes-take}
use Rattle.rtr_pdu.proofs.JudgeLaws.{header_judged, header_sized, judged, header_fault-append, Shows-append, short_none}

module _ (version : Version) where
  -- a changed version is a byte too
  changed_bytes : (b : Bool) (bytes : List ℕ) → AreBytes bytes → AreBytes (if b then version_number version ∷ drop 1 bytes else bytes)
  changed_bytes false bytes each i = each i
  changed_bytes true bytes each zero = is_byte version
  changed_bytes true bytes each (suc i) = AreBytes-drop 1 bytes each i

  -- What is read of bytes are bytes.
  pub AreBytes-as_read : (any : Bool) (bytes : List ℕ) → AreBytes bytes → AreBytes (as_read version any bytes)
  unfolding as_read
  AreBytes-as_read any bytes each = changed_bytes (any && is_notify_header bytes) bytes each

  -- What bytes begin with: a PDU of n bytes, a fault, or less than a PDU
  abbrev Begins : Bool → List ℕ → Type 0
  Begins any bytes =
      IsPartial version (as_read version any bytes) ⊎ (((fault : UnitFault) × Shows version (as_read version any bytes) fault)
      ⊎ ((n : ℕ) × (8 ≤ n) × (n ≤ length bytes) × (u : Unit) × Reads version u (as_read version any (take n bytes))))

  module _ (any : Bool) (bytes : List ℕ) (each : AreBytes bytes) (none : header_fault version (as_read version any bytes) ≡ None) (long : 8 ≤ length bytes) (size : length_of (as_read version any bytes) ≤ length bytes) where
    -- the length of the PDU at the front
    abbrev n : ℕ
    n = length_of (as_read version any bytes)

    -- it is that of a header or more
    least : 8 ≤ length_of (as_read version any bytes)
    least = (header_sized version (as_read version any bytes) (omega (arith, length-as_read version any bytes, long)) none).eight

    -- the PDU is as long
    front_len : length (take n bytes) ≡ n
    front_len = length-take-le n bytes size

    -- it has a header
    front_long : 8 ≤ length (take n bytes)
    front_long = omega (arith, front_len, least)

    -- it is read, and then what follows it
    whole_is : as_read version any bytes ≡ as_read version any (take n bytes) ++ drop n bytes
    whole_is = ap (as_read version any) (sym (take-append-drop n bytes)) ∙ as_read-append version any (take n bytes) (drop n bytes) front_long

    -- as read it has a header
    read_long : 8 ≤ length (as_read version any (take n bytes))
    read_long = omega (arith, length-as_read version any (take n bytes), front_long)

    -- its header has no fault
    front_none : header_fault version (as_read version any (take n bytes)) ≡ None
    front_none = sym (header_fault-append version (as_read version any (take n bytes)) (drop n bytes) read_long) ∙ ap (λ x. header_fault version x) (sym whole_is) ∙ none

    -- it is as long as it says
    front_size : length (as_read version any (take n bytes)) ≡ length_of (as_read version any (take n bytes))
    front_size = length-as_read version any (take n bytes) ∙ front_len ∙ ap (λ x. length_of x) whole_is ∙ length_of-append (as_read version any (take n bytes)) (drop n bytes) read_long

    -- so bytes of which a whole PDU has come begin with one, or show a fault
    unit_begins : Begins any bytes
    unit_begins =
        elim (judged version (as_read version any (take n bytes)) (AreBytes-as_read any (take n bytes) (AreBytes-take n bytes each)) (front_none, read_long, omega (arith, front_size)) front_size) [
          | inl bad ↦ inr (inl (bad.0, subst (λ x. Shows version x bad.0) (sym whole_is) (Shows-append version (as_read version any (take n bytes)) (drop n bytes) bad.0 bad.1)))
          | inr good ↦ inr (inr (n, least, size, good.0, good.1))
        ]

  -- all bytes begin with one of these
  begins : (any : Bool) (bytes : List ℕ) → AreBytes bytes → Begins any bytes
  begins any bytes each =
      elim (header_judged version (as_read version any bytes)) [
        | inr bad ↦ inr (inl bad)
        | inl none ↦ elim (cases_lt (length bytes) 8) [
          | inl short ↦ inl (none, inl (omega (arith, length-as_read version any bytes, short)))
          | inr long ↦ elim (cases_lt (length bytes) (length_of (as_read version any bytes))) [
            | inl less ↦ inl (none, inr (omega (arith, length-as_read version any bytes, less)))
            | inr size ↦ unit_begins any bytes each none long size
          ]
        ]
      ]

  -- there is a split
  abbrev HasSplit : Bool → List ℕ → Type 0
  HasSplit any stream = (units : List Unit) × (rest : List ℕ) × (fault : Option UnitFault) × Splits version any stream units rest fault

  -- by the length of the stream
  split_within : (fuel : ℕ) (any : Bool) (stream : List ℕ) → AreBytes stream → length stream < fuel → HasSplit any stream
  split_within zero any stream each h = absurd (omega (arith, h))
  split_within (suc fuel) any stream each h =
      elim (begins any stream each) [
        | inl partial ↦ ([], stream, None, record { front = []; whole = refl; read = refl; after = partial })
        | inr more ↦ elim more [
          | inl bad ↦ ([], stream, Some bad.0, record { front = []; whole = refl; read = refl; after = bad.1 })
          | inr unit ↦
              (let later = split_within fuel (any && is_notify unit.3) (drop unit.0 stream) (AreBytes-drop unit.0 stream each) (omega (arith, h, unit.1, unit.2, length-drop unit.0 stream)) in (
                unit.3 ∷ later.0,
                later.1,
                later.2,
                record {
                  front = take unit.0 stream ++ later.3.front;
                  whole = sym (take-append-drop unit.0 stream) ∙ ap (λ x. take unit.0 stream ++ x) later.3.whole ∙ sym (append_assoc (take unit.0 stream) later.3.front later.1);
                  read = (take unit.0 stream, later.3.front, refl, unit.4, later.3.read);
                  after = later.3.after;
                },
              ))
        ]
      ]

-- Each list of bytes has a split.
pub each_splits : EachSplits
each_splits version any stream each = split_within version (suc (length stream)) any stream each (omega arith)

-- Bytes that are as long as they say have no shorter beginning that ends a PDU or shows a fault, nor have 8 bytes.
module _ (version : Version) where
  -- the first 8 bytes
  pub shortest_8 : (any : Bool) (bytes : List ℕ) → length bytes ≤ 8 → IsShortest version any bytes
  shortest_8 any bytes size front back e more =
      let sizes : length bytes ≡ length front + length back = ap length e ∙ length-append front back in
      let short : length (as_read version any front) < 8 = omega (arith, length-as_read version any front, sizes, size, more) in
      (short_none version (as_read version any front) short, inl short)

  -- a PDU behind a header without a fault
  pub shortest_whole : (any : Bool) (bytes : List ℕ) → header_fault version (as_read version any bytes) ≡ None → length bytes ≤ length_of (as_read version any bytes) → IsShortest version any bytes
  shortest_whole any bytes none size front back e more =
      let sizes : length bytes ≡ length front + length back = ap length e ∙ length-append front back in
      elim (cases_lt (length front) 8) [
        | inl less ↦ (let short : length (as_read version any front) < 8 = omega (arith, length-as_read version any front, less) in (short_none version (as_read version any front) short, inl short))
        | inr long ↦
            (let is : as_read version any bytes ≡ as_read version any front ++ back = ap (as_read version any) e ∙ as_read-append version any front back long in
            let eight : 8 ≤ length (as_read version any front) = omega (arith, length-as_read version any front, long) in
            let head : header_fault version (as_read version any front) ≡ None = sym (header_fault-append version (as_read version any front) back eight) ∙ ap (λ x. header_fault version x) (sym is) ∙ none in
            let len : length_of (as_read version any bytes) ≡ length_of (as_read version any front) = ap (λ x. length_of x) is ∙ length_of-append (as_read version any front) back eight in
            (head, inr (omega (arith, len, sizes, size, more, length-as_read version any front))))
      ]
