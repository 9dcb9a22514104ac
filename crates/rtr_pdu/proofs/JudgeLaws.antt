-- Bytes are the beginning of a PDU, begin with a PDU, or show a fault. A fault that shows stays, whatever follows.
use Rattle.std.specs.Prelude.{◌≡◌, ◌⊎◌, ℕ, ◌+◌, ◌-◌, ◌/◌, ◌%◌, ◌<◌, ◌≤◌, ◌^◌, Bool, true, false, not, ◌&&◌, ◌||◌, ◌==◌, nat_lt, nat_le, List, ◌++◌, length, take, drop, slice_index, Option, Some, None, if◌then◌else◌, refl}
use Rattle.std.proofs.Common.{sym, ap, ◌∙◌, subst, arith, inl, inr}
use Rattle.std.proofs.lemmas.List.{length-drop, length-append, drop-append-le, take-append-le, get_or_append_left}
use Rattle.std.proofs.lemmas.Bool.{cases_eq, and_parts, or_cases, cases_Bool, cases_lt}
use Rattle.std.proofs.lemmas.Bool.Decides.{nat_tests}
use Rattle.std.proofs.lemmas.Str.{IsUtf8-from_is_utf8, is_utf8-from_IsUtf8}
use Rattle.std.specs.Str.{IsUtf8, is_utf8}
use Rattle.byteorder.specs.Endian.{big_number}
use Rattle.byteorder.specs.Numbers.{big_from-append}
use Rattle.rtr_pdu.specs.Version.{version_number}
use Rattle.rtr_pdu.specs.declared.version.Version.{Version}
use Rattle.rtr_pdu.specs.declared.unit.Unit.{Unit}
use Rattle.rtr_pdu.specs.declared.unit.UnitFault.{UnitFault}
use Rattle.rtr_pdu.specs.declared.unit.UnitFault.TheVariants as faults
use Rattle.rtr_pdu.specs.Unit.{Reads}
use Rattle.rtr_pdu.specs.Kind.{fixed_len, is_type, has_length}
use Rattle.rtr_pdu.specs.declared.kind.Kind.TheVariants as kinds
use Rattle.rtr_pdu.proofs.VersionLaws.{end_least, has_keys}
use Rattle.rtr_pdu.specs.Stream.{version_of, type_of, length_of, header_fault, IsWhole, IsRecord, IsReport, Shows}
use Rattle.rtr_pdu.proofs.ModeLaws.{type_of-append, length_of-append, not_short}
use Rattle.rtr_pdu.specs.Payloads.{AreBytes}
use Rattle.rtr_pdu.specs.Reading.{number_at, IsSized}
use Rattle.rtr_pdu.proofs.ReadLaws.{reads_0, reads_1, reads_2, reads_3, reads_4, reads_6, reads_7, reads_8, reads_9, reads_10}

-- the tests of a header, in order
abbrev pub chain : Bool → Bool → Bool → Bool → Bool → Option UnitFault
chain a b c d e =
    if a then None
    else if not b then Some faults.Version
    else if not c then Some faults.«Type»
    else if not d then Some faults.Length
    else if e then Some faults.TooLong
    else None

-- if no test fails
chain_none : (a b c d e : Bool) → chain a b c d e ≡ None → a ≡ false → (b ≡ true) × (c ≡ true) × (d ≡ true) × (e ≡ false)
chain_none true b c d e h k = absurd (let e : true ≡ false = k in cc)
chain_none false false c d e h k = absurd (let e : ◌≡◌ {A = Option UnitFault} (Some faults.Version) None = h in cc)
chain_none false true false d e h k = absurd (let e : ◌≡◌ {A = Option UnitFault} (Some faults.«Type») None = h in cc)
chain_none false true true false e h k = absurd (let e : ◌≡◌ {A = Option UnitFault} (Some faults.Length) None = h in cc)
chain_none false true true true true h k = absurd (let e : ◌≡◌ {A = Option UnitFault} (Some faults.TooLong) None = h in cc)
chain_none false true true true false h k = (refl, refl, refl, refl)

-- what the tests of numbers say
is_same : (a b : ℕ) → (a == b) ≡ true → a ≡ b
is_same a b h = grind (arith, nat_tests)

-- the test of a least number
is_least : (a b : ℕ) → nat_le a b ≡ true → a ≤ b
is_least a b h = grind (arith, nat_tests)

-- the test of a greatest number
is_most : (a b : ℕ) → nat_lt a b ≡ false → b ≤ a
is_most a b h = grind (arith, nat_tests)

-- the types with their lengths
pub data Kinds (version : Version) (type len : ℕ) : Type 0 where
  notify : type ≡ 0 → len ≡ 12 → Kinds version type len
  query : type ≡ 1 → len ≡ 12 → Kinds version type len
  reset_query : type ≡ 2 → len ≡ 8 → Kinds version type len
  response : type ≡ 3 → len ≡ 8 → Kinds version type len
  v4 : type ≡ 4 → len ≡ 20 → Kinds version type len
  v6 : type ≡ 6 → len ≡ 32 → Kinds version type len
  end_of_data : type ≡ 7 → len ≡ fixed_len version kinds.EndOfData → Kinds version type len
  cache_reset : type ≡ 8 → len ≡ 8 → Kinds version type len
  key : type ≡ 9 → 32 ≤ len → Kinds version type len
  report : type ≡ 10 → 16 ≤ len → Kinds version type len

-- one test of several
one_of : {P : Type 0} (type k : ℕ) (fits more : Bool) → (type ≡ k → fits ≡ true → P) → (more ≡ true → P) → ((type == k && fits) || more) ≡ true → P
one_of type k fits more here later h =
    elim (or_cases (type == k && fits) more h) [
      | inl both ↦ (let p = and_parts (type == k) fits both in here (is_same type k p.0) p.1)
      | inr other ↦ later other
    ]

-- false is not true
pub false_true : {P : Type 0} → false ≡ true → P
false_true h = absurd (let e : false ≡ true = h in cc)

-- A type with a length of its own is one of the ten.
pub kinds_of : (version : Version) (type len : ℕ) → has_length version type len ≡ true → Kinds version type len
kinds_of version type len h =
    one_of type 0 (len == 12) _ (λ k e. notify k (is_same len 12 e))
    (one_of type 1 (len == 12) _ (λ k e. query k (is_same len 12 e))
    (one_of type 2 (len == 8) _ (λ k e. reset_query k (is_same len 8 e))
    (one_of type 3 (len == 8) _ (λ k e. response k (is_same len 8 e))
    (one_of type 4 (len == 20) _ (λ k e. v4 k (is_same len 20 e))
    (one_of type 6 (len == 32) _ (λ k e. v6 k (is_same len 32 e))
    (one_of type 7 (len == fixed_len version kinds.EndOfData) _ (λ k e. end_of_data k (is_same len (fixed_len version kinds.EndOfData) e))
    (one_of type 8 (len == 8) _ (λ k e. cache_reset k (is_same len 8 e))
    (one_of type 9 (nat_le 32 len) _ (λ k e. key k (is_least 32 len e))
    (one_of type 10 (nat_le 16 len) _ (λ k e. report k (is_least 16 len e)) false_true))))))))) h

-- each length is that of a header or more
least_length : (version : Version) (t l : ℕ) → Kinds version t l → 8 ≤ l
least_length version t l (notify k e) = omega (arith, e)
least_length version t l (query k e) = omega (arith, e)
least_length version t l (reset_query k e) = omega (arith, e)
least_length version t l (response k e) = omega (arith, e)
least_length version t l (v4 k e) = omega (arith, e)
least_length version t l (v6 k e) = omega (arith, e)
least_length version t l (end_of_data k e) = omega (arith, e, end_least version)
least_length version t l (cache_reset k e) = omega (arith, e)
least_length version t l (key k e) = omega (arith, e)
least_length version t l (report k e) = omega (arith, e)

-- what the test of a length is at one type
only : (b : Bool) → (b || false) ≡ true → b ≡ true
only true h = refl
only false h = h

-- A type has one length, but for the two that have a least one.
pub sized_of : (version : Version) (type len : ℕ) → is_type version type ≡ true → has_length version type len ≡ true → len ≤ 4096 → IsSized version type len
sized_of version type len kind has most =
    let tested : (k : ℕ) → type ≡ k → has_length version k len ≡ true = λ k e. ap (λ t. has_length version t len) (sym e) ∙ has in
    record {
      eight = least_length version type len (kinds_of version type len has);
      most = most;
      known = kind;
      at_notify = λ e. is_same len 12 (only (len == 12) (tested 0 e));
      at_query = λ e. is_same len 12 (only (len == 12) (tested 1 e));
      at_reset_query = λ e. is_same len 8 (only (len == 8) (tested 2 e));
      at_response = λ e. is_same len 8 (only (len == 8) (tested 3 e));
      at_v4 = λ e. is_same len 20 (only (len == 20) (tested 4 e));
      at_v6 = λ e. is_same len 32 (only (len == 32) (tested 6 e));
      at_end_of_data = λ e. is_same len (fixed_len version kinds.EndOfData) (only (len == fixed_len version kinds.EndOfData) (tested 7 e));
      at_cache_reset = λ e. is_same len 8 (only (len == 8) (tested 8 e));
      at_key = λ e. is_least 32 len (only (nat_le 32 len) (tested 9 e));
      at_report = λ e. is_least 16 len (only (nat_le 16 len) (tested 10 e));
    }

-- facts that can be decided
abbrev Decided : Type 0 → Type 0
Decided P = P ⊎ ¬ P

-- two facts that can be decided
both_decided : {P Q : Type 0} → Decided P → Decided Q → Decided (P × Q)
both_decided (inl p) (inl q) = inl (p, q)
both_decided (inl p) (inr n) = inr (λ h. n h.1)
both_decided (inr n) q = inr (λ h. n h.0)

-- an order
le_decided : (a b : ℕ) → Decided (a ≤ b)
le_decided a b = elim (cases_lt b a) [ inl more ↦ inr (λ h. absurd (omega (arith, more, h))) | inr less ↦ inl less ]

-- an equation
same_decided : (a b : ℕ) → Decided (a ≡ b)
same_decided a b = cases_eq a b

-- whether bytes are UTF-8
utf8_decided : (bytes : List ℕ) → Decided (IsUtf8 bytes)
utf8_decided bytes =
    elim (cases_Bool (is_utf8 bytes)) [
      | inl valid ↦ inl (IsUtf8-from_is_utf8 bytes valid)
      | inr broken ↦ inr (λ h. let valid = is_utf8-from_IsUtf8 bytes h in false_true (sym broken ∙ valid))
    ]

-- whether a prefix PDU holds a payload
pub record_decided : (width : ℕ) (bytes : List ℕ) → Decided (IsRecord width bytes)
record_decided width bytes =
    let low = le_decided (slice_index bytes 9) (slice_index bytes 10) in
    let high = le_decided (slice_index bytes 10) width in
    let host = same_decided (big_number (width / 8) (drop 12 bytes) % 2 ^ (width - slice_index bytes 9)) 0 in
    three low high host
  where
    -- three facts
    three : {P Q R : Type 0} → Decided P → Decided Q → Decided R → Decided (P × Q × R)
    three (inl p) (inl q) (inl r) = inl (p, q, r)
    three (inr n) q r = inr (λ h. n h.0)
    three (inl p) (inr n) r = inr (λ h. n h.1)
    three (inl p) (inl q) (inr n) = inr (λ h. n h.2)

-- whether an Error Report holds a report
pub report_decided : (version : Version) (bytes : List ℕ) → Decided (IsReport version bytes)
report_decided version bytes =
    both_decided (same_decided (16 + number_at 4 8 bytes + number_at 4 (12 + number_at 4 8 bytes) bytes) (length_of bytes))
    (utf8_decided (take (number_at 4 (12 + number_at 4 8 bytes) bytes) (drop (16 + number_at 4 8 bytes) bytes)))

-- a number in a front is that of the whole
number-append : (n i : ℕ) (front more : List ℕ) → i + n ≤ length front → number_at n i (front ++ more) ≡ number_at n i front
number-append n i front more h =
    let room : n ≤ length (drop i front) = omega (arith, length-drop i front, h) in
    ap (big_number n) (drop-append-le i front more (omega (arith, h))) ∙ big_from-append n (drop i front) more room

-- a payload in the whole is one in the front
record_front : (width : ℕ) (front more : List ℕ) → 12 + width / 8 ≤ length front → IsRecord width (front ++ more) → IsRecord width front
record_front width front more l h =
    let a = get_or_append_left front more 0 9 (omega (arith, l)) in
    let b = get_or_append_left front more 0 10 (omega (arith, l)) in
    let n = number-append (width / 8) 12 front more l in
    (omega (arith, a, b, h.0), omega (arith, b, h.1), (λ i. sym n i % 2 ^ (width - sym a i)) ∙ h.2)

-- a report in the whole is one in the front that has its length
report_front : (version : Version) (front more : List ℕ) → 16 ≤ length front → length_of front ≤ length front → IsReport version (front ++ more) → IsReport version front
report_front version front more l size h =
    let copy = number-append 4 8 front more (omega (arith, l)) in
    let len = length_of-append front more (omega (arith, l)) in
    let room : 12 + number_at 4 8 front + 4 ≤ length front = omega (arith, h.0, copy, len, size) in
    let text : number_at 4 (12 + number_at 4 8 (front ++ more)) (front ++ more) ≡ number_at 4 (12 + number_at 4 8 front) front =
    ap (λ (k : ℕ). number_at 4 (12 + k) (front ++ more)) copy ∙ number-append 4 (12 + number_at 4 8 front) front more room in
    let sum : 16 + number_at 4 8 front + number_at 4 (12 + number_at 4 8 front) front ≡ length_of front = omega (arith, h.0, copy, len, text) in
    let tail = length-drop (16 + number_at 4 8 front) front in
    let is : take (number_at 4 (12 + number_at 4 8 (front ++ more)) (front ++ more)) (drop (16 + number_at 4 8 (front ++ more)) (front ++ more))
    ≡ take (number_at 4 (12 + number_at 4 8 front) front) (drop (16 + number_at 4 8 front) front) =
    (λ i. take (text i) (drop (16 + copy i) (front ++ more)))
    ∙ ap (take (number_at 4 (12 + number_at 4 8 front) front)) (drop-append-le (16 + number_at 4 8 front) front more (omega (arith, room)))
    ∙ take-append-le (number_at 4 (12 + number_at 4 8 front) front) (drop (16 + number_at 4 8 front) front) more (omega (arith, tail, sum, size)) in
    (sum, subst (λ x. IsUtf8 x) is h.1)

-- no fault is not a fault
pub none_some : (o : Option UnitFault) (fault : UnitFault) → o ≡ None → o ≡ Some fault → ⊥
none_some o fault a b = let e : ◌≡◌ {A = Option UnitFault} None (Some fault) = sym a ∙ b in cc

-- what a header without a fault announces
pub record IsHeader (version : Version) (bytes : List ℕ) : Type 0 where
  pub version_is : version_of bytes ≡ version_number version
  pub kind : is_type version (type_of bytes) ≡ true
  pub has : has_length version (type_of bytes) (length_of bytes) ≡ true
  pub high : length_of bytes ≤ 4096

module _ (version : Version) where
  pub is_header : (bytes : List ℕ) → 8 ≤ length bytes → header_fault version bytes ≡ None → IsHeader version bytes
  is_header bytes eight h =
      let t = chain_none (nat_lt (length bytes) 8) (version_of bytes == version_number version) (is_type version (type_of bytes)) (has_length version (type_of bytes) (length_of bytes)) (nat_lt 4096 (length_of bytes)) h (not_short (length bytes) eight) in
      record { version_is = is_same (version_of bytes) (version_number version) t.0; kind = t.1; has = t.2; high = is_most 4096 (length_of bytes) t.3 }

  -- a header has no fault, or shows the one that it has
  abbrev HasFault : List ℕ → Type 0
  HasFault bytes = (fault : UnitFault) × Shows version bytes fault

  header_cases : (bytes : List ℕ) (a b c d e : Bool) → header_fault version bytes ≡ chain a b c d e → (header_fault version bytes ≡ None) ⊎ HasFault bytes
  header_cases bytes true b c d e h = inl h
  header_cases bytes false false c d e h = inr (faults.Version, h)
  header_cases bytes false true false d e h = inr (faults.«Type», h)
  header_cases bytes false true true false e h = inr (faults.Length, h)
  header_cases bytes false true true true true h = inr (faults.TooLong, h)
  header_cases bytes false true true true false h = inl h

  pub header_judged : (bytes : List ℕ) → (header_fault version bytes ≡ None) ⊎ HasFault bytes
  header_judged bytes = header_cases bytes (nat_lt (length bytes) 8) (version_of bytes == version_number version) (is_type version (type_of bytes)) (has_length version (type_of bytes) (length_of bytes)) (nat_lt 4096 (length_of bytes)) refl

  -- A whole PDU behind a header without a fault is read, or shows a fault.
  abbrev pub IsJudged : List ℕ → Type 0
  IsJudged bytes = HasFault bytes ⊎ ((u : Unit) × Reads version u bytes)

  whole_of : (bytes : List ℕ) → header_fault version bytes ≡ None → 8 ≤ length bytes → length bytes ≡ length_of bytes → IsWhole version bytes
  whole_of bytes none eight size = (none, eight, omega (arith, size))

  unit_judged : (bytes : List ℕ) → AreBytes bytes → IsWhole version bytes → length bytes ≡ length_of bytes → IsHeader version bytes → Kinds version (type_of bytes) (length_of bytes) → IsJudged bytes
  unit_judged bytes each w size h (notify k l) = inr (_, reads_0 version bytes (record { each = each; version_is = h.version_is; type_is = k; size = size; eight = w.1 }) (size ∙ l))
  unit_judged bytes each w size h (query k l) = inr (_, reads_1 version bytes (record { each = each; version_is = h.version_is; type_is = k; size = size; eight = w.1 }) (size ∙ l))
  unit_judged bytes each w size h (reset_query k l) = inr (_, reads_2 version bytes (record { each = each; version_is = h.version_is; type_is = k; size = size; eight = w.1 }) (size ∙ l))
  unit_judged bytes each w size h (response k l) = inr (_, reads_3 version bytes (record { each = each; version_is = h.version_is; type_is = k; size = size; eight = w.1 }) (size ∙ l))
  unit_judged bytes each w size h (end_of_data k l) = inr (_, reads_7 version bytes (record { each = each; version_is = h.version_is; type_is = k; size = size; eight = w.1 }) (size ∙ l))
  unit_judged bytes each w size h (cache_reset k l) = inr (_, reads_8 version bytes (record { each = each; version_is = h.version_is; type_is = k; size = size; eight = w.1 }) (size ∙ l))
  unit_judged bytes each w size h (key k l) = inr (_, reads_9 version bytes (record { each = each; version_is = h.version_is; type_is = k; size = size; eight = w.1 }) (has_keys version (ap (is_type version) (sym k) ∙ h.kind)) (omega (arith, size, l)) (omega (arith, size, h.high)))
  unit_judged bytes each w size h (v4 k l) =
      elim (record_decided 32 bytes) [
        | inl good ↦ inr (_, reads_4 version bytes (record { each = each; version_is = h.version_is; type_is = k; size = size; eight = w.1 }) (size ∙ l) good)
        | inr bad ↦ inl (faults.Record, (w, inl (k, bad)))
      ]
  unit_judged bytes each w size h (v6 k l) =
      elim (record_decided 128 bytes) [
        | inl good ↦ inr (_, reads_6 version bytes (record { each = each; version_is = h.version_is; type_is = k; size = size; eight = w.1 }) (size ∙ l) good)
        | inr bad ↦ inl (faults.Record, (w, inr (k, bad)))
      ]
  unit_judged bytes each w size h (report k l) =
      elim (report_decided version bytes) [
        | inl good ↦ inr (_, reads_10 version bytes (record { each = each; version_is = h.version_is; type_is = k; size = size; eight = w.1 }) (omega (arith, size, l)) (omega (arith, size, h.high)) good)
        | inr bad ↦ inl (faults.ErrorReport, (w, k, bad))
      ]

  pub judged : (bytes : List ℕ) → AreBytes bytes → IsWhole version bytes → length bytes ≡ length_of bytes → IsJudged bytes
  judged bytes each w size =
      let h = is_header bytes w.1 w.0 in
      unit_judged bytes each w size h (kinds_of version (type_of bytes) (length_of bytes) h.has)

  -- A front of 8 bytes or more has the header of the whole.
  pub header_fault-append : (front more : List ℕ) → 8 ≤ length front → header_fault version (front ++ more) ≡ header_fault version front
  header_fault-append front more h =
      let long : 8 ≤ length (front ++ more) = omega (arith, length-append front more, h) in
      let short = not_short (length (front ++ more)) long ∙ sym (not_short (length front) h) in
      let first = get_or_append_left front more 0 0 (omega (arith, h)) in
      λ i. chain (short i) (first i == version_number version) (is_type version (type_of-append front more h i)) (has_length version (type_of-append front more h i) (length_of-append front more h i)) (nat_lt 4096 (length_of-append front more h i))

  pub short_none : (bytes : List ℕ) → length bytes < 8 → header_fault version bytes ≡ None
  short_none bytes h =
      let short : nat_lt (length bytes) 8 ≡ true = grind (arith, nat_tests) in
      ap (λ b. chain b (version_of bytes == version_number version) (is_type version (type_of bytes)) (has_length version (type_of bytes) (length_of bytes)) (nat_lt 4096 (length_of bytes))) short

  pub fault_long : (bytes : List ℕ) (fault : UnitFault) → header_fault version bytes ≡ Some fault → 8 ≤ length bytes
  fault_long bytes fault h =
      elim (cases_lt (length bytes) 8) [ inl less ↦ absurd (none_some (header_fault version bytes) fault (short_none bytes less) h) | inr long ↦ long ]

  pub header_sized : (bytes : List ℕ) → 8 ≤ length bytes → header_fault version bytes ≡ None → IsSized version (type_of bytes) (length_of bytes)
  header_sized bytes long none = let h = is_header bytes long none in sized_of version (type_of bytes) (length_of bytes) h.kind h.has h.high

  whole-append : (front more : List ℕ) → IsWhole version front → IsWhole version (front ++ more)
  whole-append front more w =
      let len = length_of-append front more w.1 in
      (header_fault-append front more w.1 ∙ w.0, omega (arith, length-append front more, w.1), omega (arith, length-append front more, len, w.2))

  -- A fault that shows stays, whatever follows.
  pub Shows-append : (front more : List ℕ) (fault : UnitFault) → Shows version front fault → Shows version (front ++ more) fault
  Shows-append front more faults.Version h = header_fault-append front more (fault_long front faults.Version h) ∙ h
  Shows-append front more faults.«Type» h = header_fault-append front more (fault_long front faults.«Type» h) ∙ h
  Shows-append front more faults.Length h = header_fault-append front more (fault_long front faults.Length h) ∙ h
  Shows-append front more faults.TooLong h = header_fault-append front more (fault_long front faults.TooLong h) ∙ h
  Shows-append front more faults.Truncated h = absurd h
  Shows-append front more faults.ErrorReport h =
      let w = h.0 in
      let long = (header_sized front w.1 w.0).at_report h.1 in
      (whole-append front more w, type_of-append front more w.1 ∙ h.1, λ good. h.2 (report_front version front more (omega (arith, long, w.2)) w.2 good))
  Shows-append front more faults.Record h =
      let w = h.0 in (
        whole-append front more w,
        elim h.1 [
          | inl four ↦ (let long = (header_sized front w.1 w.0).at_v4 four.0 in
              inl (type_of-append front more w.1 ∙ four.0, λ good. four.1 (record_front 32 front more (omega (arith, long, w.2)) good)))
          | inr six ↦ (let long = (header_sized front w.1 w.0).at_v6 six.0 in
              inr (type_of-append front more w.1 ∙ six.0, λ good. six.1 (record_front 128 front more (omega (arith, long, w.2)) good)))
        ],
      )
